-- The loop that splits a matrix. Assumes nothing.
use mathlib.Core.Path.{◌≡◌, refl, sym, ap, ap₂, ◌∙◌}
use mathlib.Core.Bool.{Bool}
use mathlib.Core.List.{List, [], ◌∷◌, ◌++◌, map}
use Prim.Native.Nat.{ℕ, zero, suc, ◌+◌, ◌*◌, ◌/◌, ◌%◌, ◌<◌}
use native.Mathlib.Nat.{zero-add, not-suc-le-zero, le_of_suc-le-suc}
use native.Mathlib.Omega.{arith}
use lib.ListN.{length, get_or, set, drop, length-append, length-map}
use lib.Seq.{take_at, take-length, drop-append-add, drop-drop, paste}
use Rattle.laws.specs.Columns.{has}
use Rattle.matrices.specs.Listing.{list_from}
use Rattle.matrices.specs.Parts.{window_at, surprise_word, surprise_pairs}
use Rattle.matrices.specs.Shapes.{row_pairs, windows}
use Rattle.matrices.proofs.Listed.{list_same, list_split}
use Rattle.matrices.proofs.Rewriting.{rewritten, rewritten_turn, rewritten_end}

-- a list, written over the front of another
abbrev pub over : List ℕ → List ℕ → List ℕ
over l out = l ++ drop (length l) out

-- more is written after it
pub over_turn : (l r out : List ℕ) → paste (over l out) (length l) r (length r) ≡ over (l ++ r) out
over_turn l r out =
    ap₂ (λ (x y : List ℕ). x ++ y ++ drop (length l + length r) (over l out)) (take_at l (drop (length l) out) (length l) refl) (take-length r)
    ∙ ap (λ (x : List ℕ). l ++ r ++ x)
    (drop-append-add l (drop (length l) out) (length r) ∙ drop-drop (length r) (length l) out ∙ ap (λ (n : ℕ). drop n out) (sym (length-append l r)))

-- an element of a list that a function was applied to
pub get_d_map : (f : ℕ → ℕ) (l : List ℕ) (i : ℕ) → i < length l → get_or (map f l) i 0 ≡ f (get_or l i 0)
get_d_map f [] i h = absurd (not-suc-le-zero h)
get_d_map f (x ∷ l) zero h = refl
get_d_map f (x ∷ l) (suc i) h = get_d_map f l i (le_of_suc-le-suc h)

-- the list of the first r rows' surprises, with a window or without
abbrev pub listed_to : Bool → ℕ → List ℕ → ℕ → List ℕ
listed_to wide o m r = list_from 0 (64 * r) (λ x. has (surprise_word wide o (get_or m (x / 64) 0)) (x % 64))

module _ (wide : Bool) (o : ℕ) (m : List ℕ) where
  abbrev surprising : ℕ → Bool
  surprising x = has (surprise_word wide o (get_or m (x / 64) 0)) (x % 64)

  -- before the first row
  pub to_none : listed_to wide o m 0 ≡ []
  unfolding list_from
  to_none = refl

  -- a row more
  pub to_more : (r : ℕ) → listed_to wide o m (r + 1) ≡ listed_to wide o m r ++ row_pairs r (surprise_word wide o (get_or m r 0))
  to_more r =
      let e : 64 * (r + 1) ≡ 64 * r + 64 = omega arith in
      ap (λ (n : ℕ). list_from 0 n surprising) e
      ∙ list_split 0 (64 * r) 64 surprising
      ∙ ap (λ (a : ℕ). listed_to wide o m r ++ list_from a 64 surprising) (zero-add (64 * r))
      ∙ ap (λ (l : List ℕ). listed_to wide o m r ++ l)
      (list_same (64 * r) 64 surprising (λ x. has (surprise_word wide o (get_or m r 0)) (x % 64))
      (λ c h.
      let q : (64 * r + c) / 64 ≡ r = omega arith in
      ap (λ (x : ℕ). has (surprise_word wide o (get_or m x 0)) ((64 * r + c) % 64)) q))

  -- after the last row
  pub to_all : listed_to wide o m (length m) ≡ surprise_pairs wide o m
  unfolding surprise_pairs
  to_all = refl

module _ (o : ℕ) (m w₀ : List ℕ) (l : length w₀ ≡ length m) where
  -- a window byte more
  pub window_turn : (r : ℕ) → r < length m → set (rewritten w₀ (windows o m) r) r (window_at o (get_or m r 0)) ≡ rewritten w₀ (windows o m) (r + 1)
  window_turn r h =
      let n = length-map m (window_at o) in
      rewritten_turn w₀ (windows o m) (l ∙ sym n) r (window_at o (get_or m r 0)) (omega arith) (sym (get_d_map (window_at o) m r h))

  -- all is written
  pub window_all : rewritten w₀ (windows o m) (length m) ≡ windows o m
  window_all =
      let n = length-map m (window_at o) in
      ap (rewritten w₀ (windows o m)) (sym n) ∙ rewritten_end w₀ (windows o m) (l ∙ sym n)
