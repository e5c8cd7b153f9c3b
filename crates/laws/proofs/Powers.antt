-- Remainders by powers of two and other numbers, and a number that doubles. Assumes nothing.
use mathlib.Core.Path.{◌≡◌, sym, ap, ◌∙◌}
use mathlib.Core.Logic.{⊎_elim}
use Prim.Native.Nat.{ℕ, suc, ◌+◌, ◌-◌, ◌*◌, ◌/◌, ◌%◌, ◌^◌, ◌≤◌, ◌<◌}
use native.Mathlib.Nat.{mul-add-mod_self_right, mul-le-mul_right, mod-add-div'}
use native.Mathlib.Omega.{arith}
use lib.Pow.{pow-add, pow_mono}
use Rattle.laws.proofs.Orders.{lt_or_le}

-- the low bits do not see a bit above them
pub below_top : (len bits n : ℕ) → len ≤ bits → (2 ^ bits + n) % 2 ^ len ≡ n % 2 ^ len
below_top len bits n l =
    let e : bits ≡ bits - len + len = omega arith in
    ap (λ (p : ℕ). (p + n) % 2 ^ len) (ap (λ (b : ℕ). 2 ^ b) e ∙ pow-add 2 (bits - len) len) ∙ mul-add-mod_self_right (2 ^ (bits - len)) (2 ^ len) n

-- a half that is doubled at each turn
pub half_most : (top bits half : ℕ) → half ≡ 2 ^ bits → bits ≤ top → half ≤ 2 ^ top
half_most top bits half e l = let p : 2 ^ bits ≤ 2 ^ top = pow_mono {i = bits} {j = top} l in omega arith

pub twice_half : (bits half : ℕ) → half ≡ 2 ^ bits → half * 2 ≡ 2 ^ (bits + 1)
twice_half bits half e = ap (λ (h : ℕ). h * 2) e ∙ sym (pow-add 2 bits 1)

-- of s numbers in a row no two have the same remainder
pub same_part : (s n m : ℕ) → n ≤ m → m < n + s → m % s ≡ n % s → m ≡ n
same_part s n m l h e =
    let en : n % s + n / s * s ≡ n = mod-add-div' n s in
    let em : m % s + m / s * s ≡ m = mod-add-div' m s in
    ⊎_elim
    (λ (q : n / s < m / s).
    let more : suc (n / s) * s ≤ m / s * s = mul-le-mul_right s q in
    absurd (omega arith))
    (λ (q : m / s ≤ n / s).
    let less : m / s * s ≤ n / s * s = mul-le-mul_right s q in
    omega arith) (lt_or_le (n / s) (m / s))
