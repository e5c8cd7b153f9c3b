-- The loop that writes one list over another of the same length, element by element. Assumes nothing.
use mathlib.Core.Path.{◌≡◌, sym, ap, ap₂, ◌∙◌}
use mathlib.Core.List.{List, ◌++◌, append-nil}
use Prim.Native.Nat.{ℕ, ◌+◌, ◌≤◌, ◌<◌}
use native.Mathlib.Nat.{zero-add}
use native.Mathlib.Numerals.{add-one}
use native.Mathlib.Omega.{arith}
use lib.ListN.{length, get_or, set, drop_of_length-le}
use lib.Seq.{take-length, paste, paste-zero, paste-suc}

-- the first r elements are those of the new list, the others as they were
abbrev pub rewritten : List ℕ → List ℕ → ℕ → List ℕ
rewritten old new r = paste old 0 new r

-- before the first element
pub rewritten_start : (old new : List ℕ) → old ≡ rewritten old new 0
rewritten_start old new = paste-zero old 0 new

module _ (old new : List ℕ) (l : length old ≡ length new) where
  -- an element more
  pub rewritten_turn : (r v : ℕ) → r < length new → v ≡ get_or new r 0 → set (rewritten old new r) r v ≡ rewritten old new (r + 1)
  rewritten_turn r v h e =
      ap (set (rewritten old new r) r) e
      ∙ ap (λ (x : ℕ). set (rewritten old new r) x (get_or new r 0)) (sym (zero-add r))
      ∙ paste-suc old 0 new r 0 (omega (arith, zero-add r)) h
      ∙ ap (rewritten old new) (sym (add-one r))

  -- after the last one
  pub rewritten_end : rewritten old new (length new) ≡ new
  rewritten_end =
      let z : length old ≤ 0 + length new = omega (arith, zero-add (length new)) in
      ap₂ (λ (x y : List ℕ). x ++ y) (take-length new) (drop_of_length-le old z) ∙ append-nil new
