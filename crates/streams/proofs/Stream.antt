-- The number that a list of bytes is, and its fields of bits. Assumes nothing.
use mathlib.Core.Path.{◌≡◌, refl, sym, ap, ap₂, ◌∙◌}
use mathlib.Core.List.{List, [], ◌∷◌, ◌++◌}
use Prim.Native.Nat.{ℕ, zero, suc, ◌+◌, ◌-◌, ◌*◌, ◌/◌, ◌%◌, ◌^◌, ◌≤◌, ◌<◌}
use native.Mathlib.Nat.{add-mul-mod_self_right, div-one, zero-add, mul-one, mul-suc, mul_assoc, mod-lt, mod-eq_of_lt, pow-succ', div-div-eq-div-mul}
use native.Mathlib.Omega.{arith}
use lib.ListN.{length, get_or}
use lib.Pow.{pow_pos, pow-add, mod-pow-add, mod-mod-pow, shr-shr, field}
use Rattle.laws.specs.Lists.{list_of}
use Rattle.laws.proofs.Lists.{length_list_of}
use Rattle.streams.specs.Stream.{number, bits_at, bytes_of}

-- ---- fields of bits

-- a field of w bits above one of the bits below it
pub refill : (n at held w : ℕ) → bits_at n (at + held) w * 2 ^ held + bits_at n at held ≡ bits_at n at (w + held)
refill n at held w =
    sym (mod-pow-add (n / 2 ^ at) w held ∙ ap (λ (x : ℕ). x % 2 ^ w * 2 ^ held + n / 2 ^ at % 2 ^ held) (shr-shr n at held))

-- the low bits taken off
pub past : (n at count rest : ℕ) → bits_at n at (rest + count) / 2 ^ count ≡ bits_at n (at + count) rest
past n at count rest = field (n / 2 ^ at) rest count ∙ ap (λ (x : ℕ). x % 2 ^ rest) (shr-shr n at count)

-- the low bits alone
pub front : (n at count rest : ℕ) → bits_at n at (rest + count) % 2 ^ count ≡ bits_at n at count
front n at count rest = mod-mod-pow (n / 2 ^ at) rest count

pub bits_at_lt : (n at count : ℕ) → bits_at n at count < 2 ^ count
bits_at_lt n at count = mod-lt (n / 2 ^ at) (pow_pos count)

-- a field is a field of the bits up to any bit past it
pub within : (n at count last : ℕ) → at + count ≤ last → bits_at n at count ≡ bits_at n 0 last / 2 ^ at % 2 ^ count
within n at count last h =
    let j : ℕ = last - at in
    let i : ℕ = j - count in
    let ej : last ≡ j + at = omega arith in
    let ei : j ≡ i + count = omega arith in
    sym
    (ap (λ (x : ℕ). x % 2 ^ last / 2 ^ at % 2 ^ count) (div-one n) ∙ ap (λ (k : ℕ). n % 2 ^ k / 2 ^ at % 2 ^ count) ej
    ∙ ap (λ (x : ℕ). x % 2 ^ count) (field n j at) ∙ ap (λ (k : ℕ). n / 2 ^ at % 2 ^ k % 2 ^ count) ei ∙ mod-mod-pow (n / 2 ^ at) i count)

-- two streams that agree up to a bit have the same fields before it
pub same_field : (n n' last at count : ℕ) → bits_at n 0 last ≡ bits_at n' 0 last → at + count ≤ last → bits_at n at count ≡ bits_at n' at count
same_field n n' last at count e h = within n at count last h ∙ ap (λ (x : ℕ). x / 2 ^ at % 2 ^ count) e ∙ sym (within n' at count last h)

-- ---- lists of bytes

-- every element is a byte
abbrev pub AllBytes : List ℕ → Type 0
AllBytes s = (i : ℕ) → get_or s i 0 < 256

-- the bits of one byte more
one_more : (bytes : ℕ) → 2 ^ (8 * suc bytes) ≡ 2 ^ (8 * bytes) * 256
one_more bytes = ap (λ (k : ℕ). 2 ^ k) (mul-suc 8 bytes) ∙ pow-add 2 (8 * bytes) 8

-- the number of two lists, one after the other
pub number_append : (a b : List ℕ) → number (a ++ b) ≡ number a + number b * 2 ^ (8 * length a)
unfolding number
number_append [] b = sym (zero-add (number b * 1) ∙ mul-one (number b))
number_append (x ∷ xs) b =
    let p = one_more (length xs) in
    let q : number b * 2 ^ (8 * suc (length xs)) ≡ number b * 2 ^ (8 * length xs) * 256 =
    ap (λ (y : ℕ). number b * y) p ∙ sym (mul_assoc (number b) (2 ^ (8 * length xs)) 256) in
    omega (arith, number_append xs b)

-- what comes after a list is above its bits
pub append_same : (a b : List ℕ) (last : ℕ) → last ≤ 8 * length a → bits_at (number a) 0 last ≡ bits_at (number (a ++ b)) 0 last
append_same a b last l =
    let j : ℕ = 8 * length a - last in
    let e : 8 * length a ≡ j + last = omega arith in
    let high : number b * 2 ^ (8 * length a) ≡ number b * 2 ^ j * 2 ^ last =
    ap (λ (i : ℕ). number b * 2 ^ i) e ∙ ap (λ (x : ℕ). number b * x) (pow-add 2 j last) ∙ sym (mul_assoc (number b) (2 ^ j) (2 ^ last)) in
    ap (λ (x : ℕ). x % 2 ^ last) (div-one (number a)) ∙ sym (add-mul-mod_self_right (number a) (number b * 2 ^ j) (2 ^ last))
    ∙ ap (λ (x : ℕ). x % 2 ^ last) (sym (div-one (number (a ++ b)) ∙ number_append a b ∙ ap (λ (x : ℕ). number a + x) high))

pub number_lt : (s : List ℕ) → AllBytes s → number s < 2 ^ (8 * length s)
unfolding number
number_lt [] all = omega arith
number_lt (x ∷ xs) all =
    let p = one_more (length xs) in
    omega (arith, all 0, number_lt xs (λ i. all (suc i)))

-- ---- a number as bytes

list_same : (count : ℕ) (f g : ℕ → ℕ) → ((i : ℕ) → f i ≡ g i) → list_of count f ≡ list_of count g
unfolding list_of
list_same zero f g e = refl
list_same (suc count) f g e = ap₂ (λ (x : ℕ) (xs : List ℕ). x ∷ xs) (e 0) (list_same count (λ i. f (suc i)) (λ i. g (suc i)) (λ i. e (suc i)))

pub length_bytes_of : (count n : ℕ) → length (bytes_of count n) ≡ count
unfolding bytes_of
length_bytes_of count n = length_list_of count (λ i. n / 256 ^ i % 256)

bytes_of_zero : (n : ℕ) → bytes_of 0 n ≡ []
unfolding bytes_of list_of
bytes_of_zero n = refl

-- the lowest byte, and the bytes of the rest
pub bytes_of_suc : (count n : ℕ) → bytes_of (suc count) n ≡ n % 256 ∷ bytes_of count (n / 256)
unfolding bytes_of list_of
bytes_of_suc count n =
    ap₂ (λ (x : ℕ) (xs : List ℕ). x ∷ xs) (ap (λ (x : ℕ). x % 256) (div-one n))
    (list_same count (λ i. n / 256 ^ suc i % 256) (λ i. n / 256 / 256 ^ i % 256)
    (λ i. ap (λ (x : ℕ). x % 256) (ap (λ (p : ℕ). n / p) (pow-succ' 256 i) ∙ sym (div-div-eq-div-mul n 256 (256 ^ i)))))

pub number_bytes_of : (count n : ℕ) → number (bytes_of count n) ≡ n % 2 ^ (8 * count)
unfolding number bytes_of list_of
number_bytes_of zero n = omega arith
number_bytes_of (suc count) n =
    ap number (bytes_of_suc count n)
    ∙ (let e : n % 2 ^ (8 * suc count) ≡ n / 256 % 2 ^ (8 * count) * 256 + n % 256 = ap (λ (k : ℕ). n % 2 ^ k) (mul-suc 8 count) ∙ mod-pow-add n (8 * count) 8 in
    omega (arith, number_bytes_of count (n / 256)))

-- of a number that fits
pub number_fits : (count n : ℕ) → n < 2 ^ (8 * count) → number (bytes_of count n) ≡ n
number_fits count n l = number_bytes_of count n ∙ mod-eq_of_lt l

-- a list of bytes is the bytes of its number
pub bytes_number : (s : List ℕ) → AllBytes s → s ≡ bytes_of (length s) (number s)
unfolding number
bytes_number [] all = sym (bytes_of_zero 0)
bytes_number (x ∷ xs) all =
    let l = all 0 in
    let low : x ≡ (x + 256 * number xs) % 256 = omega arith in
    let high : number xs ≡ (x + 256 * number xs) / 256 = omega arith in
    ap₂ (λ (y : ℕ) (ys : List ℕ). y ∷ ys) low (bytes_number xs (λ i. all (suc i)) ∙ ap (bytes_of (length xs)) high)
    ∙ sym (bytes_of_suc (length xs) (x + 256 * number xs))
