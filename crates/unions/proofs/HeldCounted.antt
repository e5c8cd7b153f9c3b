-- The late 10 and the coupons held, as they are judged: without a matrix. Assumes nothing.
use mathlib.Core.Path.{◌≡◌, refl, sym, ap, ◌∙◌, subst}
use mathlib.Core.Logic.{⊎_elim}
use mathlib.Core.Bool.{Bool, true, false, ◌&&◌, true≢false}
use mathlib.Core.List.{List, []}
use Prim.Native.Nat.{ℕ, ◌+◌, ◌-◌, ◌*◌, ◌/◌, ◌%◌, ◌^◌, ◌≤◌, ◌<◌}
use native.Mathlib.Omega.{arith}
use borrow.Author.Tests.{lt-ltb, le-ltb, le-leb, lt-leb, eq-eqb}
use lib.Count.{ones}
use lib.Dec.{eqb, leb, ltb}
use lib.ListN.{length, get_or}
use Rattle.laws.specs.Below.{one, sum_below, count_below}
use Rattle.laws.specs.Columns.{has}
use Rattle.laws.proofs.Any.{any_of}
use Rattle.laws.proofs.Orders.{lt_or_le}
use Rattle.laws.proofs.Sums.{sum_add, sum_ones}
use Rattle.laws.proofs.Truths.{never_true}
use Rattle.refusals.specs.Outcome.{accepted}
use Rattle.pair_lists.specs.Lists.{pairs_judged}
use Rattle.matrices.specs.Listing.{in_list}
use Rattle.matrices.specs.Matrix.{matrix_of, coupons, reserved, in_window}
use Rattle.matrices.specs.Source.{expanded, has_window, held, window_judged, columns_judged}
use Rattle.matrices.proofs.Accepting.{held_wide, held_listed, parts_judged}
use Rattle.matrices.proofs.CouponsHeld.{coupons_wide, coupons_listed}
use Rattle.matrices.proofs.Judged.{judged_sorted, judged_below}
use Rattle.matrices.proofs.LateReserved.{late_wide}
use Rattle.matrices.proofs.Places.{columns_apart}
use Rattle.numbers.specs.Numbers.{offset_at}
use Rattle.laws.specs.Choose.{choose}
use Rattle.matrices.specs.Parts.{windowed}
use Rattle.unions.specs.declared.parts.Parts.{Parts}
use Rattle.unions.proofs.ShapeTold.{window_is, offset_is, most_is}

-- without a window, the coupons held are the pairs of the list
pub listed_count : (k c : ℕ) (window ps : List ℕ) → has_window k c ≡ false → pairs_judged k ps ≡ accepted [] → coupons (matrix_of k (held k c window ps)) ≡ length ps
listed_count k c window ps w e =
    ap (λ (f : ℕ → ℕ → Bool). coupons (matrix_of k f)) (held_listed k c window ps w) ∙ coupons_listed k ps (judged_sorted k ps e) (judged_below k ps e)

-- a source with a window, whose pairs are judged
pub record WideSource (lg c o : ℕ) (window ps : List ℕ) : Type 0 where
  pub low : 4 ≤ lg
  pub high : lg ≤ 26
  pub most : c ≤ 64 * 2 ^ lg
  pub wide : has_window (2 ^ lg) c ≡ true
  pub offset : o ≡ offset_at (2 ^ lg) c
  pub small : o ≤ 61
  pub long : length window ≡ 2 ^ lg
  pub pairs : pairs_judged (2 ^ lg) ps ≡ accepted []

pub wide_source : (p : Parts) → windowed p.shape.flavor ≡ true → pairs_judged p.shape.size.k p.pairs.now ≡ accepted []
    → WideSource p.shape.size.lg p.shape.coupons p.shape.offset.column p.window.now p.pairs.now
wide_source p wide pairs =
    let s = p.shape in
    record {
      low = s.size.low;
      high = s.size.high;
      most = most_is s;
      wide = sym (window_is s) ∙ wide;
      offset = offset_is s;
      small = s.offset.most;
      long = p.long ∙ ap (λ (b : Bool). choose b s.size.k 0) wide ∙ s.size.power;
      pairs = subst (λ (k : ℕ). pairs_judged k p.pairs.now ≡ accepted []) s.size.power pairs;
    }

module _ (lg c o : ℕ) (window ps : List ℕ) (s : WideSource lg c o window ps) where
  pub held_reserved : reserved lg (matrix_of (2 ^ lg) (held (2 ^ lg) c window ps)) ≡ (eqb lg 26 && (leb 56 o && has (get_or window 67108863 0) (63 - o)))
  held_reserved =
      late_wide lg c window ps s.pairs s.wide s.most
      ∙ ap (λ (x : ℕ). eqb lg 26 && (leb 56 x && has (get_or window 67108863 0) (63 - x))) (sym s.offset)

  module _ (bytes : (r : ℕ) → get_or window r 0 < 2 ^ 8) (in_columns : window_judged o 0 window ≡ accepted []) (out_columns : columns_judged o 0 ps ≡ accepted []) where
    -- no pair is in the window's columns
    out : (i : ℕ) → i < length ps → in_window o (get_or ps i 0 % 64) ≡ false
    unfolding in_list
    out i h =
        let p = get_or ps i 0 in
        let q : p ≡ 64 * (p / 64) + p % 64 = omega arith in
        never_true (in_window o (p % 64))
        (λ t.
        true≢false
        (sym (any_of (length ps) (λ j. eqb (get_or ps j 0) (64 * (p / 64) + p % 64)) i h (eq-eqb p (64 * (p / 64) + p % 64) q))
        ∙ columns_apart o ps out_columns (p / 64) (p % 64) (omega arith) t))

    side : (d : ℕ) → in_window o d ≡ false → one (ltb d o) + one (leb (o + 8) d) ≡ 1
    side d e =
        ⊎_elim (λ (l : d < o). rw (lt-ltb d o l, lt-leb (o + 8) d (omega arith)) refl)
        (λ (l : o ≤ d).
        ⊎_elim (λ (g : d < o + 8). absurd (true≢false (sym (rw (le-leb o d l, lt-ltb d (o + 8) g) refl) ∙ e)))
        (λ (g : o + 8 ≤ d). rw (le-ltb d o l, le-leb (o + 8) d g) refl) (lt_or_le d (o + 8))) (lt_or_le d o)

    sides : count_below (length ps) (λ i. ltb (get_or ps i 0 % 64) o) + count_below (length ps) (λ i. leb (o + 8) (get_or ps i 0 % 64)) ≡ length ps
    sides = sym (sum_add (length ps) _ _) ∙ sum_ones (length ps) _ (λ i h. side (get_or ps i 0 % 64) (out i h))

    pub held_count : coupons (matrix_of (2 ^ lg) (held (2 ^ lg) c window ps)) + 2 * count_below (length ps) (λ i. ltb (get_or ps i 0 % 64) o)
        ≡ o * length window + sum_below (length window) (λ r. ones (get_or window r 0)) + length ps
    held_count =
        let all = coupons_wide o (2 ^ lg) window ps (omega (arith, s.small)) (parts_judged o (2 ^ lg) window ps s.pairs in_columns out_columns s.long bytes) in
        let same : coupons (matrix_of (2 ^ lg) (held (2 ^ lg) c window ps)) ≡ coupons (matrix_of (2 ^ lg) (expanded o window ps)) = ap (λ (f : ℕ → ℕ → Bool). coupons (matrix_of (2 ^ lg) f)) (held_wide (2 ^ lg) c window ps s.wide) ∙ ap (λ (x : ℕ). coupons (matrix_of (2 ^ lg) (expanded x window ps))) (sym s.offset) in
        let long : sum_below (length window) (λ r. ones (get_or window r 0)) ≡ sum_below (2 ^ lg) (λ r. ones (get_or window r 0)) = ap (λ (n : ℕ). sum_below n (λ r. ones (get_or window r 0))) s.long in
        let wide : o * length window ≡ o * 2 ^ lg = ap (λ (n : ℕ). o * n) s.long in
        omega (arith, all, same, long, wide, sides)
