-- Exponents of two. Assumes nothing.
use mathlib.Core.Path.{◌≡◌}
use Prim.Native.Nat.{ℕ, suc, ◌^◌, ◌≤◌, ◌<◌}
use native.Mathlib.Nat.{le_antisymm, le_of_suc-le-suc, lt_of_not-le, not-le_of_lt, le_trans}
use lib.Pow.{pow_mono}

pub exponent_le : {a b q : ℕ} → 2 ^ a ≤ q → q < 2 ^ suc b → a ≤ b
exponent_le {a} {b} h l = le_of_suc-le-suc (lt_of_not-le (λ (g : suc b ≤ a). not-le_of_lt l (le_trans (pow_mono g) h)))

-- a number lies between one power of two and the next
pub exponent_once : {a b q : ℕ} → 2 ^ a ≤ q → q < 2 ^ suc a → 2 ^ b ≤ q → q < 2 ^ suc b → a ≡ b
exponent_once h k l m = le_antisymm (exponent_le h m) (exponent_le l k)
