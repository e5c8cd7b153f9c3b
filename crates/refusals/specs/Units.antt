-- Bits and words of 32 bits. Assumes nothing.
use Rattle.std.specs.Prelude.{ℕ, ◌+◌, ◌-◌, ◌*◌, ◌/◌, ◌^◌, ltb}
use Rattle.laws.specs.Choose.{choose}

-- the words that so many bits fill, the last one with zeros
abbrev pub words_for : ℕ → ℕ
words_for bits = (bits + 31) / 32

-- the bits of so many words, as far as a u64 holds their number
abbrev pub bits_in : ℕ → ℕ
bits_in words = choose (ltb words (2 ^ 59)) (words * 32) (2 ^ 64 - 1)
