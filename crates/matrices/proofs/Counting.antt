-- The loop that counts. Assumes nothing.
use mathlib.Core.Path.{◌≡◌, refl, sym, ap, ◌∙◌}
use mathlib.Core.List.{List}
use Prim.Native.Nat.{ℕ, ◌+◌, ◌^◌, ◌<◌}
use native.Mathlib.Numerals.{add-one}
use lib.ListN.{length, get_or}
use lib.Count.{ones}
use Rattle.laws.specs.Below.{count_below, sum_below}
use Rattle.laws.proofs.Ones.{ones_count}
use Rattle.matrices.specs.Matrix.{at, coupons}

-- a sum over nothing, and one summand more
pub sum_none : (f : ℕ → ℕ) → sum_below 0 f ≡ 0
unfolding sum_below
sum_none f = refl

-- one more
pub sum_more : (n : ℕ) (f : ℕ → ℕ) → sum_below (n + 1) f ≡ sum_below n f + f n
unfolding sum_below
sum_more n f = ap (λ (x : ℕ). sum_below x f) (add-one n)

-- the pairs in the first i rows
abbrev pub counted : List ℕ → ℕ → ℕ
counted m i = sum_below i (λ r. count_below 64 (at m r))

-- before the first row
pub counted_none : (m : List ℕ) → counted m 0 ≡ 0
counted_none m = sum_none (λ r. count_below 64 (at m r))

-- a row more: the ones of its word
pub counted_more : (m : List ℕ) (i : ℕ) → get_or m i 0 < 2 ^ 64 → counted m (i + 1) ≡ counted m i + ones (get_or m i 0)
counted_more m i h =
    sum_more i (λ r. count_below 64 (at m r)) ∙ ap (λ (x : ℕ). counted m i + x) (sym (ones_count 64 (get_or m i 0) h))

-- after the last row
pub counted_all : (m : List ℕ) → counted m (length m) ≡ coupons m
unfolding coupons
counted_all m = refl
