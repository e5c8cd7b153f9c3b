-- The stride of each lg 2..26 is odd, below the number of slots, and has an inverse modulo it. Assumes nothing.
use mathlib.Core.Path.{◌≡◌, refl}
use mathlib.Core.Bool.{Bool, true, ◌&&◌, ◌||◌}
use mathlib.Core.Logic.{⊎_elim}
use mathlib.Core.List.{List, [], ◌∷◌}
use Prim.Native.Nat.{ℕ, ◌*◌, ◌%◌, ◌^◌, ◌≤◌, ◌<◌}
use native.Mathlib.Omega.{arith}
use lib.ListN.{get_or}
use lib.Dec.{eqb, ltb}
use borrow.Author.Tests.{eqb-true, ltb-true}
use Rattle.laws.specs.Below.{every_below}
use Rattle.laws.proofs.Below.{every_at}
use Rattle.laws.proofs.Truths.{and_left, and_right, or_true}
use Rattle.tables.specs.Listings.{stride_at}

-- the inverse of the stride at each lg from 0 on; there is none to give below 2
inverses : List ℕ
inverses =
    0 ∷ 0 ∷ 3 ∷ 5 ∷ 9 ∷ 27 ∷ 23 ∷ 47 ∷ 95 ∷ 21 ∷ 969 ∷ 1041 ∷ 971 ∷ 7671 ∷ 13125 ∷ 29459 ∷ 30599 ∷ 107151 ∷ 8053 ∷ 469875 ∷ 255559 ∷ 1976335 ∷ 28191 ∷ 5273493 ∷ 11764425 ∷ 32201275 ∷ 38987223 ∷ []

-- what is asked of the stride at lg: nothing below 2
right_at : ℕ → Bool
right_at lg = ltb lg 2 || (eqb (stride_at lg % 2) 1 && (ltb (stride_at lg) (2 ^ lg) && eqb (stride_at lg * get_or inverses lg 0 % 2 ^ lg) 1))

-- one test that antt computes
all_right : every_below 27 right_at ≡ true
unfolding every_below right_at stride_at inverses
all_right = refl

-- what the test says of one lg
pub record Stride (lg : ℕ) : Type 0 where
  pub odd : stride_at lg % 2 ≡ 1
  pub below : stride_at lg < 2 ^ lg
  pub back : ℕ
  pub inverse : stride_at lg * back % 2 ^ lg ≡ 1

-- read off the test
pub stride_is : (lg : ℕ) → 2 ≤ lg → lg ≤ 26 → Stride lg
unfolding right_at
stride_is lg least most = ⊎_elim
    (λ (e : ltb lg 2 ≡ true). absurd (omega (arith, ltb-true lg 2 e)))
    (λ (e : (eqb (stride_at lg % 2) 1 && (ltb (stride_at lg) (2 ^ lg) && eqb (stride_at lg * get_or inverses lg 0 % 2 ^ lg) 1)) ≡ true). parts e)
    (or_true (ltb lg 2) (eqb (stride_at lg % 2) 1 && (ltb (stride_at lg) (2 ^ lg) && eqb (stride_at lg * get_or inverses lg 0 % 2 ^ lg) 1)) (every_at 27 right_at all_right lg (omega arith)))
  where
    parts : (eqb (stride_at lg % 2) 1 && (ltb (stride_at lg) (2 ^ lg) && eqb (stride_at lg * get_or inverses lg 0 % 2 ^ lg) 1)) ≡ true → Stride lg
    parts e =
        let more : Bool = ltb (stride_at lg) (2 ^ lg) && eqb (stride_at lg * get_or inverses lg 0 % 2 ^ lg) 1 in
        let f : more ≡ true = and_right (eqb (stride_at lg % 2) 1) more e in
        record {
          odd = eqb-true (stride_at lg % 2) 1 (and_left (eqb (stride_at lg % 2) 1) more e);
          below = ltb-true (stride_at lg) (2 ^ lg) (and_left (ltb (stride_at lg) (2 ^ lg)) (eqb (stride_at lg * get_or inverses lg 0 % 2 ^ lg) 1) f);
          back = get_or inverses lg 0;
          inverse = eqb-true (stride_at lg * get_or inverses lg 0 % 2 ^ lg) 1 (and_right (ltb (stride_at lg) (2 ^ lg)) (eqb (stride_at lg * get_or inverses lg 0 % 2 ^ lg) 1) f);
        }
