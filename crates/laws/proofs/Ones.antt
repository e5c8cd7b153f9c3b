-- The machine's count of set digits counts the columns. Assumes nothing.
use mathlib.Core.Path.{◌≡◌, refl, sym, ap, ap₂, ◌∙◌}
use mathlib.Core.Bool.{Bool}
use Prim.Native.Nat.{ℕ, zero, suc, ◌+◌, ◌/◌, ◌%◌, ◌^◌, ◌<◌}
use native.Mathlib.Nat.{mod-lt, not-suc-le-zero, le_of_suc-le-suc, zero-lt-suc, add_comm}
use native.Mathlib.Omega.{arith}
use native.Mathlib.Numerals.{one-add}
use lib.Dec.{eqb}
use lib.Arith.{lt-one}
use lib.Pow.{pow_pos, split, shr_lt}
use lib.Count.{ones, ones_in, ones_cat}
use Rattle.laws.specs.Below.{one, sum_below, count_below}
use Rattle.laws.specs.Columns.{has}
use Rattle.laws.proofs.Columns.{has_low}

pub count_same : (n : ℕ) (p q : ℕ → Bool) → ((c : ℕ) → c < n → p c ≡ q c) → count_below n p ≡ count_below n q
unfolding sum_below
count_same zero p q e = refl
count_same (suc n) p q e =
    ap₂ (λ (x : ℕ) (b : Bool). x + one b) (count_same n p q (λ c h. e c (omega arith))) (e n (omega arith))

ones_digit : (d : ℕ) → d < 2 → ones d ≡ one (eqb (d % 2) 1)
unfolding ones ones_in
ones_digit zero l = refl
ones_digit (suc zero) l = refl
ones_digit (suc (suc d)) l = absurd (not-suc-le-zero (le_of_suc-le-suc (le_of_suc-le-suc l)))

pub ones_count : (n w : ℕ) → w < 2 ^ n → ones w ≡ count_below n (has w)
unfolding sum_below has
ones_count zero w h = ap ones (lt-one h) ∙ ones_digit 0 (zero-lt-suc 1)
ones_count (suc n) w h =
    ap ones (sym (split w n)) ∙ ones_cat n (w / 2 ^ n) (w % 2 ^ n) (mod-lt w (pow_pos n))
    ∙ ap₂ (λ (x y : ℕ). x + y) (ones_digit (w / 2 ^ n) (shr_lt 1 n (rw one-add h))) (ones_count n (w % 2 ^ n) (mod-lt w (pow_pos n)))
    ∙ ap (λ (x : ℕ). one (has w n) + x) (count_same n (has (w % 2 ^ n)) (has w) (λ c l. has_low w n c l))
    ∙ add_comm (one (has w n)) (count_below n (has w))
