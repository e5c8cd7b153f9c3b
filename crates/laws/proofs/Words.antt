-- The word that has given columns. Assumes nothing.
use mathlib.Core.Path.{◌≡◌, refl, sym, ap, ◌∙◌, subst}
use mathlib.Core.Logic.{⊎_elim}
use mathlib.Core.Bool.{Bool, true, false, ◌||◌}
use Prim.Native.Nat.{ℕ, zero, suc, ◌+◌, ◌*◌, ◌/◌, ◌%◌, ◌^◌, ◌≤◌, ◌<◌}
use native.Mathlib.Nat.{pow-suc, not-suc-le-zero, eq-or-lt_of_le, le_of_suc-le-suc, add_comm}
use native.Mathlib.Numerals.{add-one}
use native.Mathlib.Omega.{arith}
use lib.Dec.{eqb}
use lib.Pow.{pow_pos, pow_mono, high, low}
use lib.Bits.{bit_or, or_lt}
use Rattle.laws.specs.Below.{one}
use Rattle.laws.specs.Columns.{has, word_of}
use Rattle.laws.proofs.Columns.{has_or, has_low, has_zero, word_ext}
use Rattle.laws.proofs.Truths.{or_assoc}

top_lt : (b : Bool) (r n : ℕ) → r < 2 ^ n → r + one b * 2 ^ n < 2 ^ suc n
top_lt true r n h = omega (arith, pow-suc 2 n)
top_lt false r n h = omega (arith, pow-suc 2 n)

pub word_of_lt : (n : ℕ) (p : ℕ → Bool) → word_of n p < 2 ^ n
unfolding word_of
word_of_lt zero p = omega arith
word_of_lt (suc n) p = top_lt (p n) (word_of n p) n (word_of_lt n p)

-- no column, and one column more
pub word_of_zero : (p : ℕ → Bool) → word_of 0 p ≡ 0
unfolding word_of
word_of_zero p = refl

pub word_of_more : (n : ℕ) (p : ℕ → Bool) → word_of (n + 1) p ≡ word_of n p + one (p n) * 2 ^ n
unfolding word_of
word_of_more n p = ap (λ (k : ℕ). word_of k p) (add-one n)

has_top : (b : Bool) (r n : ℕ) → r < 2 ^ n → has (r + one b * 2 ^ n) n ≡ b
unfolding has
has_top b r n h =
    ap (λ (x : ℕ). eqb (x / 2 ^ n % 2) 1) (add_comm r (one b * 2 ^ n)) ∙ ap (λ (x : ℕ). eqb (x % 2) 1) (high (one b) n h) ∙ bit b
  where
    bit : (t : Bool) → eqb (one t % 2) 1 ≡ t
    bit true = refl
    bit false = refl

has_rest : (b : Bool) (r n c : ℕ) → r < 2 ^ n → c < n → has (r + one b * 2 ^ n) c ≡ has r c
has_rest b r n c h l =
    sym (has_low (r + one b * 2 ^ n) n c l)
    ∙ ap (λ (x : ℕ). has x c) (ap (λ (x : ℕ). x % 2 ^ n) (add_comm r (one b * 2 ^ n)) ∙ low (one b) n h)

-- it has just those columns
pub has_word_of : (n : ℕ) (p : ℕ → Bool) (c : ℕ) → c < n → has (word_of n p) c ≡ p c
unfolding word_of
has_word_of zero p c h = absurd (not-suc-le-zero h)
has_word_of (suc n) p c h =
    ⊎_elim (λ (e : c ≡ n). subst (λ (x : ℕ). has (word_of n p + one (p n) * 2 ^ n) x ≡ p x) (sym e) (has_top (p n) (word_of n p) n (word_of_lt n p)))
    (λ (l : c < n). has_rest (p n) (word_of n p) n c (word_of_lt n p) l ∙ has_word_of n p c l) (eq-or-lt_of_le (le_of_suc-le-suc h))

-- and is the only word of n columns that does
pub word_is : (n w : ℕ) (p : ℕ → Bool) → w < 2 ^ n → ((c : ℕ) → c < n → has w c ≡ p c) → w ≡ word_of n p
word_is n w p h e = word_ext n w (word_of n p) h (word_of_lt n p) (λ c l. e c l ∙ sym (has_word_of n p c l))

pub word_of_same : (n : ℕ) (p q : ℕ → Bool) → ((c : ℕ) → c < n → p c ≡ q c) → word_of n p ≡ word_of n q
word_of_same n p q e = word_is n (word_of n p) q (word_of_lt n p) (λ c l. has_word_of n p c l ∙ e c l)

pub word_of_has : (n w : ℕ) → w < 2 ^ n → word_of n (has w) ≡ w
word_of_has n w h = sym (word_is n w (has w) h (λ c l. refl))

pub word_of_none : (n : ℕ) → word_of n (λ c. false) ≡ 0
word_of_none n = sym (word_is n 0 (λ c. false) (pow_pos n) (λ c l. has_zero c))

-- ---- the order in which words are ORed does not matter

own_power : (n : ℕ) → n < 2 ^ n
own_power zero = omega arith
own_power (suc n) = omega (arith, pow-suc 2 n, own_power n)

pub or_words : (a b c : ℕ) → bit_or (bit_or a b) c ≡ bit_or a (bit_or b c)
or_words a b c =
    word_ext n (bit_or (bit_or a b) c) (bit_or a (bit_or b c)) (or_lt n _ _ (or_lt n a b ha hb) hc) (or_lt n _ _ ha (or_lt n b c hb hc))
    (λ d l.
    has_or (bit_or a b) c d ∙ ap (λ (t : Bool). t || has c d) (has_or a b d) ∙ or_assoc (has a d) (has b d) (has c d)
    ∙ sym (has_or a (bit_or b c) d ∙ ap (λ (t : Bool). has a d || t) (has_or b c d)))
  where
    n : ℕ
    n = a + b + c

    below : (x : ℕ) → x ≤ n → x < 2 ^ n
    below x h = let p : 2 ^ x ≤ 2 ^ n = pow_mono {i = x} {j = n} h in omega (arith, own_power x)

    ha : a < 2 ^ n
    ha = below a (omega arith)

    hb : b < 2 ^ n
    hb = below b (omega arith)

    hc : c < 2 ^ n
    hc = below c (omega arith)
