-- Quotients. Assumes nothing.
use Prim.Native.Nat.{ℕ, ◌/◌, ◌≤◌, ◌<◌}
use native.Mathlib.Nat.{le-div_iff_mul-le, one-mul}

-- what is not above a number goes into it
pub quotient_pos : {k n : ℕ} → 0 < n → n ≤ k → 0 < k / n
quotient_pos p h = (le-div_iff_mul-le p).1 (rw one-mul h)
