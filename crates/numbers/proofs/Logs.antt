-- floor_log2 is the floor of the logarithm, and the base bits leave room for the rows. Assumes nothing.
use mathlib.Core.Path.{◌≡◌, refl, sym, ap}
use mathlib.Core.Logic.{⊎_elim}
use mathlib.Core.Bool.{Bool, true, false, ◌||◌}
use Prim.Native.Nat.{ℕ, zero, suc, ◌+◌, ◌*◌, ◌/◌, ◌^◌, ◌≤◌, ◌<◌}
use native.Mathlib.Numerals.{add-one}
use native.Mathlib.Nat.{pow-suc, le_of_eq, le_trans, div-le_self, div-lt_iff_lt-mul, le-div_iff_mul-le}
use native.Mathlib.Omega.{arith}
use borrow.Author.Tests.{lt-ltb, le-ltb, ne_eqb}
use lib.Dec.{ltb, eqb}
use Rattle.laws.specs.Choose.{choose}
use Rattle.laws.proofs.Orders.{lt_or_le}
use Rattle.laws.proofs.Exponents.{exponent_once, exponent_le}
use Rattle.laws.proofs.Quotients.{quotient_pos}
use Rattle.numbers.specs.Numbers.{halvings, floor_log2, base_bits_at}

-- 2^b is at most q, and the next power above it where so many halvings are enough
halvings_bounds : (times q : ℕ) → 0 < q → (2 ^ halvings times q ≤ q) × (q < 2 ^ suc times → q < 2 ^ suc (halvings times q))
unfolding halvings
halvings_bounds zero q p = (p, λ h. h)
halvings_bounds (suc times) q p =
    ⊎_elim (λ (l : q < 2). rw (lt-ltb q 2 l) (omega arith, λ h. omega arith))
    (λ (g : 2 ≤ q).
    let half = halvings_bounds times (q / 2) (omega arith) in
    let b = halvings times (q / 2) in
    rw (le-ltb q 2 g)
    (omega (arith, half.0, pow-suc 2 b), λ h. omega (arith, half.1 (omega (arith, pow-suc 2 (suc times))), pow-suc 2 (suc b))))
    (lt_or_le q 2)

choose_most : (t : Bool) (n b : ℕ) → b ≤ n → choose t 0 b ≤ n
choose_most true n b h = omega arith
choose_most false n b h = h

halvings_most : (times q : ℕ) → halvings times q ≤ times
unfolding halvings
halvings_most zero q = omega arith
halvings_most (suc times) q = choose_most (ltb q 2) _ _ (omega (arith, halvings_most times (q / 2)))

pub log_bounds : (q : ℕ) → 0 < q → q ≤ 2 ^ 26 → (2 ^ floor_log2 q ≤ q) × (q < 2 ^ suc (floor_log2 q))
unfolding floor_log2
log_bounds q p h = let at = halvings_bounds 26 q p in (at.0, at.1 (omega arith))

pub log_once : (q b : ℕ) → 0 < q → q ≤ 2 ^ 26 → 2 ^ b ≤ q → q < 2 ^ suc b → b ≡ floor_log2 q
log_once q b p h l m = let at = log_bounds q p h in exponent_once l m at.0 at.1

pub log_most : (q : ℕ) → floor_log2 q ≤ 26
unfolding floor_log2
log_most q = halvings_most 26 q

pub base_bits_most : (k n : ℕ) → base_bits_at k n ≤ 26
unfolding base_bits_at
base_bits_most k n = choose_most (eqb n 0 || ltb k n) 26 _ (log_most (k / n))

-- there are 2^b rows for each of n pairs
pub base_bits_fit : (k n : ℕ) → 1 ≤ n → n ≤ k → 2 ^ base_bits_at k n * n ≤ k
unfolding base_bits_at floor_log2
base_bits_fit k n p h =
    rw (ne_eqb n 0 (omega arith), le-ltb k n h) ((le-div_iff_mul-le p).0 (halvings_bounds 26 (k / n) (quotient_pos p h)).0)

-- k is below 2^(b+1) rows for each of n pairs
pub base_bits_reach : (k n : ℕ) → 1 ≤ n → n ≤ k → k ≤ 2 ^ 26 → k < 2 ^ suc (base_bits_at k n) * n
unfolding base_bits_at
base_bits_reach k n p h m =
    rw (ne_eqb n 0 (omega arith), le-ltb k n h) ((div-lt_iff_lt-mul p).0 (log_bounds (k / n) (quotient_pos p h) (le_trans (div-le_self k n) m)).1)

pub base_bits_none : (k n : ℕ) → k < n → base_bits_at k n ≡ 0
unfolding base_bits_at
base_bits_none k n h = rw (ne_eqb n 0 (omega arith), lt-ltb k n h)

-- doubling from 1: the power of so many bits, and its half is below q
pub record Doubled (q bits power : ℕ) : Type 0 where
  pub is : power ≡ 2 ^ bits
  pub near : power < 2 * q

pub doubled_start : (q : ℕ) → 0 < q → Doubled q 0 1
doubled_start q p = record { is = refl; near = omega arith }

pub doubled_turn : {q bits power : ℕ} → Doubled q bits power → power < q → Doubled q (bits + 1) (power * 2)
doubled_turn d l = record { is = rw (add-one, pow-suc) (ap (λ (x : ℕ). x * 2) d.is); near = omega arith }

pub doubled_most : {q bits power : ℕ} → Doubled q bits power → q ≤ 2 ^ 26 → bits ≤ 26
doubled_most d h = exponent_le {b = 26} (le_of_eq (sym d.is)) (omega arith)

-- the doubling ends at q itself, or one doubling past
pub doubled_met : {q bits power : ℕ} → Doubled q bits power → q ≤ 2 ^ 26 → power ≡ q → bits ≡ floor_log2 q
doubled_met {q} {bits} d h e = log_once q bits (omega arith) h (omega arith) (omega (arith, pow-suc 2 bits))

pub doubled_past : {q power : ℕ} (bits : ℕ) → Doubled q bits power → q ≤ 2 ^ 26 → q < power → bits ≡ suc (floor_log2 q)
doubled_past {q} zero d h l = absurd (omega arith)
doubled_past {q} (suc bits) d h l = ap suc (log_once q bits (omega arith) h (omega (arith, pow-suc 2 bits)) (omega arith))
