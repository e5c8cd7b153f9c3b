-- What the code makes of a source that is judged is what the definitions say. Assumes nothing.
use mathlib.Core.Path.{◌≡◌, refl, sym, ap, ap₂, ◌∙◌}
use mathlib.Core.Logic.{⊎_elim}
use mathlib.Core.Bool.{Bool, true, false, ◌&&◌, ◌||◌}
use mathlib.Core.List.{List, []}
use Prim.Native.Nat.{ℕ, ◌+◌, ◌*◌, ◌^◌, ◌≤◌, ◌<◌, min}
use native.Mathlib.Nat.{min-eq_left, min-eq_right}
use native.Mathlib.Omega.{arith}
use borrow.Author.Tests.{lt-ltb, le-ltb, le-leb}
use lib.Dec.{leb}
use lib.ListN.{length, get_or}
use lib.Pow.{pow_pos}
use Rattle.laws.specs.Choose.{choose}
use Rattle.laws.proofs.Orders.{lt_or_le}
use Rattle.refusals.specs.Outcome.{accepted}
use Rattle.numbers.specs.Numbers.{offset_at}
use Rattle.pair_lists.specs.Lists.{pairs_judged}
use Rattle.matrices.specs.Calls.{down_to, merged_at}
use Rattle.matrices.specs.Listing.{in_list}
use Rattle.matrices.specs.Matrix.{matrix_of}
use Rattle.matrices.specs.Shapes.{merged, folded}
use Rattle.matrices.specs.Source.{expanded, has_window, held}
use Rattle.matrices.proofs.Accepting.{held_wide, held_listed}
use Rattle.matrices.proofs.Judged.{judged_row}
use Rattle.matrices.proofs.MergeWhole.{pairs_end, merge_both, merge_alike, merge_none, merge_folded, merge_unfolded}
use Rattle.matrices.proofs.Rows.{length_matrix, matrix_same}
use Rattle.unions.specs.Steps.{early_set, pairs_set, source_merged, lowered}
use Rattle.unions.proofs.EarlyPairs.{early_late}

module _ (from c : ℕ) (window ps : List ℕ) (o : ℕ) (is : o ≡ offset_at (2 ^ from) c) (pairs : pairs_judged (2 ^ from) ps ≡ accepted [])
    (long : length window ≡ choose (has_window (2 ^ from) c) (2 ^ from) 0) where
  abbrev set : ℕ → ℕ → Bool
  set = held (2 ^ from) c window ps

  -- the late pairs, or all where there is no window, join the rows
  pairs_joined : (lg first : ℕ) (m : List ℕ)
      → matrix_of (length m) (pairs_set (2 ^ lg) first (matrix_of (length m) (merged (2 ^ lg) (length window) m (early_set o window ps))) ps (length ps))
      ≡ matrix_of (length m) (merged (2 ^ lg) (2 ^ from) (matrix_of (length m) (merged (2 ^ lg) (length window) m (early_set o window ps))) (λ r d. leb first d && in_list ps (64 * r + d)))
  pairs_joined lg first m =
      let rows = matrix_of (length m) (merged (2 ^ lg) (length window) m (early_set o window ps)) in
      let n : length rows ≡ length m = length_matrix (length m) (merged (2 ^ lg) (length window) m (early_set o window ps)) in
      ap (λ (x : ℕ). matrix_of x (pairs_set (2 ^ lg) first rows ps (length ps))) (sym n)
      ∙ pairs_end (2 ^ lg) first rows ps (2 ^ from) (pow_pos lg) (judged_row (2 ^ from) ps pairs)
      ∙ ap (λ (x : ℕ). matrix_of x (merged (2 ^ lg) (2 ^ from) rows (λ r d. leb first d && in_list ps (64 * r + d)))) n

  with_window : (lg : ℕ) (m : List ℕ) → has_window (2 ^ from) c ≡ true → source_merged lg true o m window ps ≡ matrix_of (length m) (merged (2 ^ lg) (2 ^ from) m set)
  with_window lg m w =
      let n = length m in
      let late : ℕ → ℕ → Bool = λ r d. leb (o + 8) d && in_list ps (64 * r + d) in
      pairs_joined lg (o + 8) m
      ∙ ap (λ (s : ℕ). matrix_of n (merged (2 ^ lg) (2 ^ from) (matrix_of n (merged (2 ^ lg) s m (early_set o window ps))) late)) (long ∙ ap (λ (b : Bool). choose b (2 ^ from) 0) w)
      ∙ merge_both n (2 ^ lg) (2 ^ from) m (early_set o window ps) late
      ∙ merge_alike n (2 ^ lg) (2 ^ from) m (λ r d. early_set o window ps r d || late r d) (expanded o window ps) (λ r d l. early_late o window ps r d)
      ∙ ap (λ (f : ℕ → ℕ → Bool). matrix_of n (merged (2 ^ lg) (2 ^ from) m f)) (ap (λ (x : ℕ). expanded x window ps) is ∙ sym (held_wide (2 ^ from) c window ps w))

  without : (lg : ℕ) (m : List ℕ) → has_window (2 ^ from) c ≡ false → source_merged lg false o m window ps ≡ matrix_of (length m) (merged (2 ^ lg) (2 ^ from) m set)
  without lg m w =
      let n = length m in
      let k = 2 ^ lg in
      let all : ℕ → ℕ → Bool = λ r d. leb 0 d && in_list ps (64 * r + d) in
      pairs_joined lg 0 m
      ∙ ap (λ (s : ℕ). matrix_of n (merged k (2 ^ from) (matrix_of n (merged k s m (early_set o window ps))) all)) (long ∙ ap (λ (b : Bool). choose b (2 ^ from) 0) w)
      ∙ matrix_same n (merged k (2 ^ from) (matrix_of n (merged k 0 m (early_set o window ps))) all) (merged k (2 ^ from) m all)
      (λ r d h l. ap (λ (t : Bool). t || down_to k (2 ^ from) all r d) (merge_none n k m (early_set o window ps) r d h l))
      ∙ merge_alike n k (2 ^ from) m all (λ r d. in_list ps (64 * r + d)) (λ r d l. ap (λ (t : Bool). t && in_list ps (64 * r + d)) (le-leb 0 d (omega arith)))
      ∙ ap (λ (f : ℕ → ℕ → Bool). matrix_of n (merged k (2 ^ from) m f)) (sym (held_listed (2 ^ from) c window ps w))

  -- a source is merged
  pub source_merged_is : (lg : ℕ) (m : List ℕ) → source_merged lg (has_window (2 ^ from) c) o m window ps ≡ matrix_of (length m) (merged (2 ^ lg) (2 ^ from) m set)
  source_merged_is lg m = go (has_window (2 ^ from) c) refl
    where
      go : (w : Bool) → has_window (2 ^ from) c ≡ w → source_merged lg w o m window ps ≡ matrix_of (length m) (merged (2 ^ lg) (2 ^ from) m set)
      go true w = with_window lg m w
      go false w = without lg m w

  -- into a lawful union, folded first where its k is larger
  pub source_taken : (present : ℕ) (m : List ℕ) → ((r : ℕ) → 2 ^ present ≤ r → get_or m r 0 ≡ 0)
      → source_merged (min present from) (has_window (2 ^ from) c) o (lowered present from m) window ps ≡ matrix_of (length m) (merged_at (2 ^ min present from) m (2 ^ from) set)
  source_taken present m zeros =
      ⊎_elim
      (λ (l : from < present).
      let n : min present from ≡ from = min-eq_right (omega arith) in
      ap₂ (λ (k : ℕ) (b : Bool). source_merged k (has_window (2 ^ from) c) o (choose b (matrix_of (length m) (folded (2 ^ from) m)) m) window ps) n (lt-ltb from present l)
      ∙ source_merged_is from (matrix_of (length m) (folded (2 ^ from) m))
      ∙ ap (λ (k : ℕ). matrix_of k (merged (2 ^ from) (2 ^ from) (matrix_of (length m) (folded (2 ^ from) m)) set)) (length_matrix (length m) (folded (2 ^ from) m))
      ∙ merge_folded (2 ^ from) (2 ^ from) m set
      ∙ ap (λ (k : ℕ). matrix_of (length m) (merged_at (2 ^ k) m (2 ^ from) set)) (sym n))
      (λ (l : present ≤ from).
      let n : min present from ≡ present = min-eq_left l in
      ap₂ (λ (k : ℕ) (b : Bool). source_merged k (has_window (2 ^ from) c) o (choose b (matrix_of (length m) (folded (2 ^ from) m)) m) window ps) n (le-ltb from present l)
      ∙ source_merged_is present m
      ∙ merge_unfolded (2 ^ present) (2 ^ from) m set zeros
      ∙ ap (λ (k : ℕ). matrix_of (length m) (merged_at (2 ^ k) m (2 ^ from) set)) (sym n)) (lt_or_le from present)

-- a lent window is not longer than its k
pub window_short : (n k : ℕ) (b : Bool) → n ≡ choose b k 0 → k ≤ 67108864 → n ≤ 67108864
window_short n k true e h = omega arith
window_short n k false e h = omega arith
