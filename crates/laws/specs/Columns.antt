-- A word as a set of columns: the digits of a number. Assumes nothing.
use Rattle.std.specs.Prelude.{ℕ, zero, suc, ◌+◌, ◌*◌, ◌/◌, ◌%◌, ◌^◌, Bool, true, false, not, eqb}
use Rattle.laws.specs.Below.{one}

-- column c of the word w is set: digit c of w, lowest first, is 1
unfoldable pub has : ℕ → ℕ → Bool
has w c = eqb (w / 2 ^ c % 2) 1

-- the word of n columns that has just the columns that pass the test
unfoldable pub word_of : ℕ → (ℕ → Bool) → ℕ
word_of zero f = 0
word_of (suc n) f = word_of n f + one (f n) * 2 ^ n

-- one or the other, and not both
abbrev pub differs : Bool → Bool → Bool
differs true b = not b
differs false b = b
