-- Sums over the numbers below a bound. Assumes nothing.
use mathlib.Core.Path.{◌≡◌, refl, sym, ap, ap₂, ◌∙◌, subst}
use mathlib.Core.Logic.{⊎_elim}
use Prim.Native.Nat.{ℕ, zero, suc, ◌+◌, ◌*◌, ◌%◌, ◌≤◌, ◌<◌}
use native.Mathlib.Nat.{add-zero, add-suc}
use native.Mathlib.Omega.{arith}
use borrow.Author.Tests.{eq-eqb, ne_eqb}
use lib.Dec.{eqb}
use lib.Arith.{digits_mod}
use Rattle.laws.specs.Below.{one, sum_below}
use Rattle.laws.proofs.Orders.{lt_or_le}

pub sum_zero : (n : ℕ) → sum_below n (λ i. 0) ≡ 0
unfolding sum_below
sum_zero zero = refl
sum_zero (suc n) = omega (arith, sum_zero n)

pub sum_add : (n : ℕ) (f g : ℕ → ℕ) → sum_below n (λ i. f i + g i) ≡ sum_below n f + sum_below n g
unfolding sum_below
sum_add zero f g = refl
sum_add (suc n) f g = omega (arith, sum_add n f g)

pub sum_same : (n : ℕ) (f g : ℕ → ℕ) → ((i : ℕ) → i < n → f i ≡ g i) → sum_below n f ≡ sum_below n g
unfolding sum_below
sum_same zero f g h = refl
sum_same (suc n) f g h = ap₂ ◌+◌ (sum_same n f g (λ i l. h i (omega arith))) (h n (omega arith))

pub sum_mono : (n : ℕ) (f g : ℕ → ℕ) → ((i : ℕ) → i < n → f i ≤ g i) → sum_below n f ≤ sum_below n g
unfolding sum_below
sum_mono zero f g h = omega arith
sum_mono (suc n) f g h = omega (arith, sum_mono n f g (λ i l. h i (omega arith)), h n (omega arith))

pub sum_split : (a b : ℕ) (f : ℕ → ℕ) → sum_below (a + b) f ≡ sum_below a f + sum_below b (λ i. f (a + i))
unfolding sum_below
sum_split a zero f = ap (λ (m : ℕ). sum_below m f) (add-zero a) ∙ sym (add-zero (sum_below a f))
sum_split a (suc b) f = ap (λ (m : ℕ). sum_below m f) (add-suc a b) ∙ omega (arith, sum_split a b f)

-- all ones
pub sum_ones : (n : ℕ) (f : ℕ → ℕ) → ((i : ℕ) → i < n → f i ≡ 1) → sum_below n f ≡ n
unfolding sum_below
sum_ones zero f h = refl
sum_ones (suc n) f h = omega (arith, sum_ones n f (λ i l. h i (omega arith)), h n (omega arith))

pub sum_most : (n : ℕ) (f : ℕ → ℕ) → ((i : ℕ) → i < n → f i ≤ 1) → sum_below n f ≤ n
unfolding sum_below
sum_most zero f h = omega arith
sum_most (suc n) f h = omega (arith, sum_most n f (λ i l. h i (omega arith)), h n (omega arith))

-- numbers of at most one that make n together are all one
pub sum_full : (n : ℕ) (f : ℕ → ℕ) → ((i : ℕ) → i < n → f i ≤ 1) → sum_below n f ≡ n → (i : ℕ) → i < n → f i ≡ 1
unfolding sum_below
sum_full zero f h e i l = absurd (omega arith)
sum_full (suc n) f h e i l =
    let less : (j : ℕ) → j < n → f j ≤ 1 = λ j k. h j (omega arith) in
    let most = sum_most n f less in
    ⊎_elim (λ (k : i < n). sum_full n f less (omega (arith, h n (omega arith))) i k)
    (λ (k : n ≤ i). let q : n ≡ i = omega arith in subst (λ (j : ℕ). f j ≡ 1) q (omega (arith, h n (omega arith)))) (lt_or_le i n)

-- one number of those below s is c
single_none : (s c : ℕ) → s ≤ c → sum_below s (λ i. one (eqb i c)) ≡ 0
unfolding sum_below
single_none zero c l = refl
single_none (suc s) c l = omega (arith, single_none s c (omega arith), ap one (ne_eqb s c (λ (e : s ≡ c). omega arith)))

pub single : (s c : ℕ) → c < s → sum_below s (λ i. one (eqb i c)) ≡ 1
unfolding sum_below
single zero c l = absurd (omega arith)
single (suc s) c l =
    ⊎_elim (λ (h : c < s). omega (arith, single s c h, ap one (ne_eqb s c (λ (e : s ≡ c). omega arith))))
    (λ (h : s ≤ c). omega (arith, single_none s c h, ap one (eq-eqb s c (omega arith)))) (lt_or_le c s)

-- of q * s numbers, q have the low part c
pub low_parts : (q s c : ℕ) → c < s → sum_below (q * s) (λ n. one (eqb (n % s) c)) ≡ q
low_parts zero s c l = ap (λ (m : ℕ). sum_below m (λ n. one (eqb (n % s) c))) (omega arith) ∙ none
  where
    none : sum_below zero (λ n. one (eqb (n % s) c)) ≡ 0
    none = sum_same zero (λ n. one (eqb (n % s) c)) (λ n. 0) (λ i h. absurd (omega arith)) ∙ sum_zero zero
low_parts (suc q) s c l =
    let f : ℕ → ℕ = λ n. one (eqb (n % s) c) in
    let block : sum_below s (λ i. f (q * s + i)) ≡ 1 =
    sum_same s (λ i. f (q * s + i)) (λ i. one (eqb i c)) (λ i h. ap (λ (m : ℕ). one (eqb m c)) (digits_mod q h)) ∙ single s c l in
    let long : suc q * s ≡ q * s + s = omega arith in
    ap (λ (m : ℕ). sum_below m f) long ∙ sum_split (q * s) s f ∙ omega (arith, low_parts q s c l, block)

-- numbers of at least one that make n together are all one
pub sum_least : (n : ℕ) (f : ℕ → ℕ) → ((i : ℕ) → i < n → 1 ≤ f i) → n ≤ sum_below n f
unfolding sum_below
sum_least zero f h = omega arith
sum_least (suc n) f h = omega (arith, sum_least n f (λ i l. h i (omega arith)), h n (omega arith))

pub sum_tight : (n : ℕ) (f : ℕ → ℕ) → ((i : ℕ) → i < n → 1 ≤ f i) → sum_below n f ≡ n → (i : ℕ) → i < n → f i ≡ 1
unfolding sum_below
sum_tight zero f h e i l = absurd (omega arith)
sum_tight (suc n) f h e i l =
    let less : (j : ℕ) → j < n → 1 ≤ f j = λ j k. h j (omega arith) in
    let least = sum_least n f less in
    ⊎_elim (λ (k : i < n). sum_tight n f less (omega (arith, h n (omega arith))) i k)
    (λ (k : n ≤ i). let q : n ≡ i = omega arith in subst (λ (j : ℕ). f j ≡ 1) q (omega (arith, h n (omega arith)))) (lt_or_le i n)
