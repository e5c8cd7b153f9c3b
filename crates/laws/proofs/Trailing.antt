-- The machine's count of trailing zeros finds the lowest column of a word. Assumes nothing.
use mathlib.Core.Path.{◌≡◌, refl, sym, ap, ◌∙◌}
use mathlib.Core.Logic.{⊎_elim}
use mathlib.Core.Bool.{true, false}
use Prim.Native.Nat.{ℕ, zero, suc, ◌/◌, ◌%◌, ◌^◌, ◌≤◌, ◌<◌}
use native.Mathlib.Nat.{not-suc-le-zero, le_of_suc-le-suc, mod-lt, zero-lt-suc, div-one}
use native.Mathlib.Numerals.{one-add}
use native.Mathlib.Omega.{arith}
use lib.Dec.{eqb}
use lib.Pow.{pow_pos}
use lib.Count.{count_trailing_zeros, under}
use Rattle.laws.specs.Columns.{has}
use Rattle.laws.proofs.Columns.{has_shr, has_zero, word_ext}
use Rattle.laws.proofs.Orders.{lt_or_le}

has_half : (n c : ℕ) → has n (suc c) ≡ has (n / 2) c
has_half n c = ap (has n) (sym (one-add c)) ∙ sym (has_shr n 1 c)

has_first : (n : ℕ) → has n 0 ≡ eqb (n % 2) 1
unfolding has
has_first n = ap (λ (x : ℕ). eqb (x % 2) 1) (div-one n)

-- no column below it
pub trailing_below : (k n c : ℕ) → c < count_trailing_zeros k n → has n c ≡ false
unfolding count_trailing_zeros
trailing_below zero n c h = absurd (not-suc-le-zero h)
trailing_below (suc k) n c h = go (n % 2) refl c h (λ d l. trailing_below k (n / 2) d l)
  where
    go : (e : ℕ) → n % 2 ≡ e → (c : ℕ) → c < under e (count_trailing_zeros k (n / 2)) → ((d : ℕ) → d < count_trailing_zeros k (n / 2) → has (n / 2) d ≡ false) → has n c ≡ false
    go zero q zero l ih = has_first n ∙ ap (λ (x : ℕ). eqb x 1) q
    go zero q (suc c) l ih = has_half n c ∙ ih c (le_of_suc-le-suc l)
    go (suc e) q c l ih = absurd (not-suc-le-zero l)

-- and itself, where there is one
pub trailing_at : (k n : ℕ) → count_trailing_zeros k n < k → has n (count_trailing_zeros k n) ≡ true
unfolding count_trailing_zeros
trailing_at zero n h = absurd (not-suc-le-zero h)
trailing_at (suc k) n h = go (n % 2) refl (mod-lt n (zero-lt-suc 1)) h (λ l. trailing_at k (n / 2) l)
  where
    go : (e : ℕ) → n % 2 ≡ e → e < 2 → under e (count_trailing_zeros k (n / 2)) < suc k → (count_trailing_zeros k (n / 2) < k → has (n / 2) (count_trailing_zeros k (n / 2)) ≡ true)
        → has n (under e (count_trailing_zeros k (n / 2))) ≡ true
    go zero q b l ih = has_half n (count_trailing_zeros k (n / 2)) ∙ ih (le_of_suc-le-suc l)
    go (suc zero) q b l ih = has_first n ∙ ap (λ (x : ℕ). eqb x 1) q
    go (suc (suc e)) q b l ih = absurd (not-suc-le-zero (le_of_suc-le-suc (le_of_suc-le-suc b)))

-- a word that is not 0 has one
pub trailing_lt : (k n : ℕ) → n < 2 ^ k → 0 < n → count_trailing_zeros k n < k
trailing_lt k n h p =
    ⊎_elim (λ (l : count_trailing_zeros k n < k). l)
    (λ (l : k ≤ count_trailing_zeros k n).
    let e : n ≡ 0 = word_ext k n 0 h (pow_pos k) (λ c b. trailing_below k n c (omega arith) ∙ sym (has_zero c)) in
    omega arith) (lt_or_le (count_trailing_zeros k n) k)
