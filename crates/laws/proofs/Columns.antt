-- What the machine's operations do to each column of a word. Assumes nothing.
use mathlib.Core.Path.{◌≡◌, refl, sym, ap, ◌∙◌, subst}
use mathlib.Core.Logic.{⊎_elim}
use mathlib.Core.Bool.{Bool, true, false, not, ◌&&◌, ◌||◌, true≢false, false≢true}
use Prim.Native.Nat.{ℕ, zero, suc, ◌+◌, ◌-◌, ◌*◌, ◌/◌, ◌%◌, ◌^◌, ◌≤◌, ◌<◌}
use native.Mathlib.Nat.{pow-suc, mod-lt, not-suc-le-zero, le_of_suc-le-suc, zero-lt-suc, zero-div, div-eq_of_lt, mod-eq_of_lt, div-one, lt_of_lt_of_le, one-mul, mul-mod_left, mul_assoc, mul-div_cancel}
use native.Mathlib.Omega.{arith}
use native.Mathlib.Numerals.{add-one}
use borrow.Author.Tests.{lt-ltb, le-ltb, le-leb, lt-leb, eq-eqb, ne_eqb}
use lib.Dec.{eqb, ltb, leb}
use lib.Pow.{pow_pos, pow_mono, pow-add, shr-shr, high, low, field, mod-mod-pow, ones_split, ones_lt}
use lib.Bits.{bit_and, bit_or, bit_xor, and_shr, or_shr, xor_shr, and_mod, or_mod, xor_mod, xor_add_and, and_mask}
use Rattle.laws.specs.Columns.{has, differs}
use Rattle.laws.proofs.Orders.{lt_or_le}

-- ---- the machine's operations, digit by digit

digit : (n : ℕ) → n % 2 < 2
digit n = mod-lt n (zero-lt-suc 1)

-- two digits, each 0 or 1: whatever holds at the four pairs
digits2 : (P : ℕ → ℕ → Type 0) → P 0 0 → P 0 1 → P 1 0 → P 1 1 → (a b : ℕ) → a < 2 → b < 2 → P a b
digits2 P p00 p01 p10 p11 zero zero ha hb = p00
digits2 P p00 p01 p10 p11 zero (suc zero) ha hb = p01
digits2 P p00 p01 p10 p11 (suc zero) zero ha hb = p10
digits2 P p00 p01 p10 p11 (suc zero) (suc zero) ha hb = p11
digits2 P p00 p01 p10 p11 zero (suc (suc b)) ha hb = absurd (not-suc-le-zero (le_of_suc-le-suc (le_of_suc-le-suc hb)))
digits2 P p00 p01 p10 p11 (suc zero) (suc (suc b)) ha hb = absurd (not-suc-le-zero (le_of_suc-le-suc (le_of_suc-le-suc hb)))
digits2 P p00 p01 p10 p11 (suc (suc a)) b ha hb = absurd (not-suc-le-zero (le_of_suc-le-suc (le_of_suc-le-suc ha)))

-- an operation that goes digit by digit, as f goes on truth values, does so at each column
module _ (op : ℕ → ℕ → ℕ) (f : Bool → Bool → Bool) (shr : (a b k : ℕ) → op a b / 2 ^ k ≡ op (a / 2 ^ k) (b / 2 ^ k)) (low : (a b k : ℕ) → op a b % 2 ^ k ≡ op (a % 2 ^ k) (b % 2 ^ k))
    (at : (a b : ℕ) → a < 2 → b < 2 → eqb (op a b) 1 ≡ f (eqb a 1) (eqb b 1)) where
  columnwise : (a b c : ℕ) → has (op a b) c ≡ f (has a c) (has b c)
  unfolding has
  columnwise a b c =
      ap (λ (x : ℕ). eqb (x % 2) 1) (shr a b c) ∙ ap (λ (x : ℕ). eqb x 1) (low (a / 2 ^ c) (b / 2 ^ c) 1)
      ∙ at (a / 2 ^ c % 2) (b / 2 ^ c % 2) (digit (a / 2 ^ c)) (digit (b / 2 ^ c))

pub has_or : (a b c : ℕ) → has (bit_or a b) c ≡ (has a c || has b c)
has_or = columnwise bit_or ◌||◌ or_shr or_mod (digits2 (λ (a b : ℕ). eqb (bit_or a b) 1 ≡ (eqb a 1 || eqb b 1)) refl refl refl refl)

pub has_and : (a b c : ℕ) → has (bit_and a b) c ≡ (has a c && has b c)
has_and = columnwise bit_and ◌&&◌ and_shr and_mod (digits2 (λ (a b : ℕ). eqb (bit_and a b) 1 ≡ (eqb a 1 && eqb b 1)) refl refl refl refl)

pub has_xor : (a b c : ℕ) → has (bit_xor a b) c ≡ differs (has a c) (has b c)
has_xor = columnwise bit_xor differs xor_shr xor_mod (digits2 (λ (a b : ℕ). eqb (bit_xor a b) 1 ≡ differs (eqb a 1) (eqb b 1)) refl refl refl refl)

-- ---- no column; past the end; the empty word

pub has_out : (n w c : ℕ) → w < 2 ^ n → n ≤ c → has w c ≡ false
unfolding has
has_out n w c h l = ap (λ (x : ℕ). eqb (x % 2) 1) (div-eq_of_lt (lt_of_lt_of_le h (pow_mono l)))

pub has_zero : (c : ℕ) → has 0 c ≡ false
unfolding has
has_zero c = ap (λ (x : ℕ). eqb (x % 2) 1) (zero-div (2 ^ c))

-- ---- shifts and remainders

pub has_shr : (w k c : ℕ) → has (w / 2 ^ k) c ≡ has w (k + c)
unfolding has
has_shr w k c = ap (λ (x : ℕ). eqb (x % 2) 1) (shr-shr w k c)

has_low_in : (w j c : ℕ) → has (w % 2 ^ (suc j + c)) c ≡ has w c
unfolding has
has_low_in w j c =
    ap (λ (x : ℕ). eqb (x % 2) 1) (field w (suc j) c)
    ∙ ap (λ (k : ℕ). eqb (w / 2 ^ c % 2 ^ k % 2) 1) (sym (add-one j))
    ∙ ap (λ (x : ℕ). eqb x 1) (mod-mod-pow (w / 2 ^ c) j 1)

pub has_low : (w n c : ℕ) → c < n → has (w % 2 ^ n) c ≡ has w c
has_low w n c h =
    subst (λ (k : ℕ). has (w % 2 ^ k) c ≡ has w c) (omega arith) (has_low_in w (n - suc c) c)

pub has_shl_add : (w k c : ℕ) → has (w * 2 ^ k) (k + c) ≡ has w c
has_shl_add w k c = sym (has_shr (w * 2 ^ k) k c) ∙ ap (λ (x : ℕ). has x c) (mul-div_cancel w (pow_pos k))

has_shl_below_in : (w j c : ℕ) → has (w * 2 ^ (suc j + c)) c ≡ false
unfolding has
has_shl_below_in w j c =
    ap (λ (x : ℕ). eqb (w * x / 2 ^ c % 2) 1) (pow-add 2 (suc j) c)
    ∙ ap (λ (x : ℕ). eqb (x / 2 ^ c % 2) 1) (sym (mul_assoc w (2 ^ suc j) (2 ^ c)))
    ∙ ap (λ (x : ℕ). eqb (x % 2) 1) (mul-div_cancel (w * 2 ^ suc j) (pow_pos c))
    ∙ ap (λ (x : ℕ). eqb (w * x % 2) 1) (pow-suc 2 j)
    ∙ ap (λ (x : ℕ). eqb (x % 2) 1) (sym (mul_assoc w (2 ^ j) 2))
    ∙ ap (λ (x : ℕ). eqb x 1) (mul-mod_left (w * 2 ^ j) 2)

pub has_shl_below : (w k c : ℕ) → c < k → has (w * 2 ^ k) c ≡ false
has_shl_below w k c h = subst (λ (j : ℕ). has (w * 2 ^ j) c ≡ false) (omega arith) (has_shl_below_in w (k - suc c) c)

pub has_shl : (w k c : ℕ) → has (w * 2 ^ k) c ≡ (leb k c && has w (c - k))
has_shl w k c =
    ⊎_elim (λ (h : c < k). rw (lt-leb k c h) (has_shl_below w k c h))
    (λ (h : k ≤ c).
    rw (le-leb k c h) (subst (λ (x : ℕ). has (w * 2 ^ k) x ≡ has w (c - k)) (omega arith) (has_shl_add w k (c - k)))) (lt_or_le c k)

-- ---- one column, and all below one

has_1 : (d : ℕ) → has 1 d ≡ eqb d 0
unfolding has
has_1 zero = refl
has_1 (suc d) = has_out 1 1 (suc d) (omega arith) (omega arith) ∙ sym (ne_eqb (suc d) 0 (omega arith))

pub has_one : (k c : ℕ) → has (2 ^ k) c ≡ eqb c k
has_one k c =
    ap (λ (x : ℕ). has x c) (sym (one-mul (2 ^ k)))
    ∙ ⊎_elim (λ (h : c < k). has_shl_below 1 k c h ∙ sym (ne_eqb c k (omega arith)))
    (λ (h : k ≤ c). has_shl 1 k c ∙ rw (le-leb k c h) (has_1 (c - k) ∙ same h)) (lt_or_le c k)
  where
    same : k ≤ c → eqb (c - k) 0 ≡ eqb c k
    same h =
        ⊎_elim (λ (l : k < c). ne_eqb (c - k) 0 (omega arith) ∙ sym (ne_eqb c k (omega arith)))
        (λ (l : c ≤ k). eq-eqb (c - k) 0 (omega arith) ∙ sym (eq-eqb c k (omega arith))) (lt_or_le k c)

has_ones_in : (j c : ℕ) → has (2 ^ (suc j + c) - 1) c ≡ true
unfolding has
has_ones_in j c =
    ap (λ (x : ℕ). eqb (x / 2 ^ c % 2) 1) (ones_split (suc j) c)
    ∙ ap (λ (x : ℕ). eqb (x % 2) 1) (high (2 ^ suc j - 1) c (ones_lt c))
    ∙ ap (λ (k : ℕ). eqb ((2 ^ k - 1) % 2) 1) (sym (add-one j))
    ∙ ap (λ (x : ℕ). eqb (x % 2) 1) (ones_split j 1)
    ∙ ap (λ (x : ℕ). eqb x 1) (low (2 ^ j - 1) 1 (ones_lt 1))

pub has_ones : (n c : ℕ) → has (2 ^ n - 1) c ≡ ltb c n
has_ones n c =
    ⊎_elim (λ (h : c < n). subst (λ (k : ℕ). has (2 ^ k - 1) c ≡ true) (omega arith) (has_ones_in (n - suc c) c) ∙ sym (lt-ltb c n h))
    (λ (h : n ≤ c). has_out n (2 ^ n - 1) c (ones_lt n) h ∙ sym (le-ltb c n h)) (lt_or_le c n)

-- ---- the complement of a word of n columns

not_xor : (n w : ℕ) → w < 2 ^ n → (2 ^ n - 1) - w ≡ bit_xor w (2 ^ n - 1)
not_xor n w h = omega (arith, xor_add_and w (2 ^ n - 1), and_mask w n, mod-eq_of_lt h, pow_pos n)

pub has_not : (n w c : ℕ) → w < 2 ^ n → c < n → has ((2 ^ n - 1) - w) c ≡ not (has w c)
has_not n w c h l =
    ap (λ (x : ℕ). has x c) (not_xor n w h) ∙ has_xor w (2 ^ n - 1) c
    ∙ ap (differs (has w c)) (has_ones n c ∙ lt-ltb c n l) ∙ flip (has w c)
  where
    flip : (b : Bool) → differs b true ≡ not b
    flip true = refl
    flip false = refl

-- ---- two words of n columns with the same columns are equal

digit_same : (a b : ℕ) → a < 2 → b < 2 → eqb a 1 ≡ eqb b 1 → a ≡ b
digit_same =
    digits2 (λ (a b : ℕ). eqb a 1 ≡ eqb b 1 → a ≡ b) (λ e. refl) (λ e. absurd (false≢true e)) (λ e. absurd (true≢false e)) (λ e. refl)

pub word_ext : (n a b : ℕ) → a < 2 ^ n → b < 2 ^ n → ((c : ℕ) → c < n → has a c ≡ has b c) → a ≡ b
unfolding has
word_ext zero a b ha hb e = omega arith
word_ext (suc n) a b ha hb e =
    let low : a % 2 ≡ b % 2 = digit_same (a % 2) (b % 2) (digit a) (digit b)
    (ap (λ (x : ℕ). eqb (x % 2) 1) (sym (div-one a)) ∙ e 0 (omega arith) ∙ ap (λ (x : ℕ). eqb (x % 2) 1) (div-one b)) in
    let high : a / 2 ≡ b / 2 = word_ext n (a / 2) (b / 2) (omega (arith, pow-suc 2 n)) (omega (arith, pow-suc 2 n))
    (λ c h. has_shr a 1 c ∙ e (1 + c) (omega arith) ∙ sym (has_shr b 1 c)) in
    omega arith
