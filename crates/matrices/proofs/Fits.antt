-- A matrix whose reserved bit is clear holds less than 2^32 pairs. Assumes nothing.
use mathlib.Core.Path.{◌≡◌, sym, ap, ◌∙◌, subst}
use mathlib.Core.Logic.{⊎_elim}
use mathlib.Core.Bool.{Bool, true, false, ◌&&◌}
use mathlib.Core.List.{List}
use Prim.Native.Nat.{ℕ, zero, suc, ◌*◌, ◌^◌, ◌≤◌, ◌<◌}
use native.Mathlib.Omega.{arith}
use borrow.Author.Tests.{eq-eqb}
use lib.ListN.{length}
use lib.Pow.{pow_mono}
use Rattle.laws.specs.Below.{one, count_below, sum_below}
use Rattle.laws.proofs.Orders.{lt_or_le}
use Rattle.matrices.specs.Matrix.{at, coupons, reserved}

count1_le : (b : Bool) → one b ≤ 1
count1_le true = omega arith
count1_le false = omega arith

-- of n tests at most n pass
pub count_le : (n : ℕ) (p : ℕ → Bool) → count_below n p ≤ n
unfolding sum_below
count_le zero p = omega arith
count_le (suc n) p = omega (arith, count_le n p, count1_le (p n))

-- k rows of at most 64 columns
pub sum_le : (n : ℕ) (f : ℕ → ℕ) → ((r : ℕ) → f r ≤ 64) → sum_below n f ≤ 64 * n
unfolding sum_below
sum_le zero f h = omega arith
sum_le (suc n) f h = omega (arith, sum_le n f h, h n)

top_clear : (p : ℕ → Bool) → p 63 ≡ false → count_below 64 p ≤ 63
unfolding sum_below
top_clear p e = omega (arith, count_le 63 p, ap one e)

last_clear : (n : ℕ) (f : ℕ → ℕ) → ((r : ℕ) → f r ≤ 64) → f n ≤ 63 → sum_below (suc n) f < 64 * suc n
unfolding sum_below
last_clear n f h l = omega (arith, sum_le n f h)

-- so the coupons fit a u32
pub coupons_fit : (lg : ℕ) (m : List ℕ) → lg ≤ 26 → length m ≡ 2 ^ lg → reserved lg m ≡ false → coupons m < 2 ^ 32
unfolding coupons
coupons_fit lg m l n c =
    ⊎_elim
    (λ (h : lg < 26).
    let q : 2 ^ lg ≤ 2 ^ 25 = pow_mono {i = lg} {j = 25} (omega arith) in
    omega (arith, sum_le (length m) (λ r. count_below 64 (at m r)) (λ r. count_le 64 (at m r))))
    (λ (h : 26 ≤ lg).
    let e : lg ≡ 26 = omega arith in
    let k : length m ≡ suc 67108863 = n ∙ ap (λ (x : ℕ). 2 ^ x) e in
    let top : at m 67108863 63 ≡ false = sym (ap (λ (t : Bool). t && at m 67108863 63) (eq-eqb lg 26 e)) ∙ c in
    subst (λ (x : ℕ). sum_below x (λ r. count_below 64 (at m r)) < 2 ^ 32) (sym k)
    (omega (arith, last_clear 67108863 (λ r. count_below 64 (at m r)) (λ r. count_le 64 (at m r)) (top_clear (at m 67108863) top)))) (lt_or_le lg 26)
