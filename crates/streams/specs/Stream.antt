-- Bytes as a stream of bits: one number, whose bit 0 is the low bit of the first byte. Bits fill 32-bit little-endian words from the low end. Assumes nothing.
use Rattle.std.specs.Prelude.{ℕ, ◌+◌, ◌*◌, ◌/◌, ◌%◌, ◌^◌, List, [], ◌∷◌, length}
use Rattle.laws.specs.Lists.{list_of}

-- the bytes as one number, lowest byte first
unfoldable pub number : List ℕ → ℕ
number [] = 0
number (byte ∷ bytes) = byte + 256 * number bytes

-- the bits of the whole 32-bit words
abbrev pub word_bits : List ℕ → ℕ
word_bits stream = length stream / 4 * 32

-- the number that the count bits at bit `at` make, low bit first
abbrev pub bits_at : ℕ → ℕ → ℕ → ℕ
bits_at n at count = n / 2 ^ at % 2 ^ count

-- a number as so many bytes, lowest byte first
unfoldable pub bytes_of : ℕ → ℕ → List ℕ
bytes_of count n = list_of count (λ i. n / 256 ^ i % 256)
