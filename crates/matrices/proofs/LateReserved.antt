-- The late 10 of a source: its list is judged, so that only the last window byte can hold the reserved bit. Assumes nothing.
use mathlib.Core.Path.{◌≡◌, refl, sym, ap, ap₂, ◌∙◌, subst}
use mathlib.Core.Logic.{⊎_elim}
use mathlib.Core.Bool.{Bool, true, false, not, ◌&&◌, ◌||◌}
use mathlib.Core.List.{List, []}
use Prim.Native.Nat.{ℕ, ◌+◌, ◌-◌, ◌*◌, ◌^◌, ◌≤◌, ◌<◌}
use native.Mathlib.Omega.{arith}
use borrow.Author.Tests.{lt-ltb, le-ltb, le-leb, lt-leb, ne_eqb}
use lib.Dec.{eqb, leb, ltb}
use lib.ListN.{get_or}
use lib.Pow.{pow_pos}
use Rattle.laws.specs.Columns.{has, differs}
use Rattle.laws.proofs.Orders.{lt_or_le, same_or_not}
use Rattle.laws.proofs.Truths.{and_false, or_false}
use Rattle.refusals.specs.Outcome.{accepted}
use Rattle.numbers.specs.Numbers.{offset_at}
use Rattle.pair_lists.specs.Lists.{pairs_judged}
use Rattle.matrices.specs.Listing.{in_list}
use Rattle.matrices.specs.Matrix.{at, matrix_of, reserved, in_window}
use Rattle.matrices.specs.Source.{expanded, source_set, has_window, held}
use Rattle.matrices.proofs.CouponsHeld.{offset_most}
use Rattle.matrices.proofs.Judged.{judged_lawful}
use Rattle.matrices.proofs.Rows.{at_matrix}

-- column 63 of a row without a listed pair there: in the window from offset 56 on
top_column : (o : ℕ) → o ≤ 63 → in_window o 63 ≡ leb 56 o
top_column o h =
    ap (λ (t : Bool). t && ltb 63 (o + 8)) (le-leb o 63 h)
    ∙ ⊎_elim (λ (l : o < 56). le-ltb 63 (o + 8) (omega arith) ∙ sym (lt-leb 56 o l)) (λ (l : 56 ≤ o). lt-ltb 63 (o + 8) (omega arith) ∙ sym (le-leb 56 o l)) (lt_or_le o 56)

top_row : (o : ℕ) (window ps : List ℕ) (r p : ℕ) → 64 * r + 63 ≡ p → o ≤ 63 → in_list ps p ≡ false
    → expanded o window ps r 63 ≡ (leb 56 o && has (get_or window r 0) (63 - o))
top_row o window ps r p q h e =
    let b = in_window o 63 && has (get_or window r 0) (63 - o) in
    ap₂ (λ (t u : Bool). b || (not (in_window o 63) && differs t u)) (ap (in_list ps) q ∙ e) (le-ltb 63 o h)
    ∙ ap (λ (t : Bool). b || t) (and_false (not (in_window o 63))) ∙ or_false b
    ∙ ap (λ (t : Bool). t && has (get_or window r 0) (63 - o)) (top_column o h)

-- the reserved bit of a matrix at lg_k 26, and at another
reserved_at : (lg : ℕ) (f : ℕ → ℕ → Bool) (b : Bool) → (lg ≡ 26 → f 67108863 63 ≡ b) → reserved lg (matrix_of (2 ^ lg) f) ≡ (eqb lg 26 && b)
reserved_at lg f b h =
    ⊎_elim
    (λ (e : lg ≡ 26).
    let l : 67108863 < 2 ^ lg = subst (λ (x : ℕ). 67108863 < 2 ^ x) (sym e) (omega arith) in
    ap (λ (t : Bool). eqb lg 26 && t) (at_matrix (2 ^ lg) f 67108863 63 l (omega arith) ∙ h e))
    (λ (n : lg ≡ 26 → ⊥). ap (λ (t : Bool). t && at (matrix_of (2 ^ lg) f) 67108863 63) (ne_eqb lg 26 n) ∙ sym (ap (λ (t : Bool). t && b) (ne_eqb lg 26 n)))
    (same_or_not lg 26)

module _ (lg c : ℕ) (window ps : List ℕ) (judged : pairs_judged (2 ^ lg) ps ≡ accepted []) where
  -- with a window: the bit of column 63 in the last window byte
  pub late_wide : has_window (2 ^ lg) c ≡ true → c ≤ 64 * 2 ^ lg
      → reserved lg (matrix_of (2 ^ lg) (held (2 ^ lg) c window ps))
      ≡ (eqb lg 26 && (leb 56 (offset_at (2 ^ lg) c) && has (get_or window 67108863 0) (63 - offset_at (2 ^ lg) c)))
  unfolding held
  late_wide w l =
      let o = offset_at (2 ^ lg) c in
      let s : o ≤ 61 = offset_most (2 ^ lg) c (pow_pos lg) l in
      reserved_at lg (held (2 ^ lg) c window ps) (leb 56 o && has (get_or window 67108863 0) (63 - o))
      (λ e.
      ap (λ (t : Bool). source_set t o window ps 67108863 63) w ∙ top_row o window ps 67108863 4294967295 refl (omega arith) (judged_lawful (2 ^ lg) ps judged))

  -- without a window: never
  pub late_none : has_window (2 ^ lg) c ≡ false → reserved lg (matrix_of (2 ^ lg) (held (2 ^ lg) c window ps)) ≡ false
  unfolding held
  late_none w =
      reserved_at lg (held (2 ^ lg) c window ps) false
      (λ e. ap (λ (t : Bool). source_set t (offset_at (2 ^ lg) c) window ps 67108863 63) w ∙ judged_lawful (2 ^ lg) ps judged)
      ∙ and_false (eqb lg 26)
