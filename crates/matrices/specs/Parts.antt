-- A matrix split at an offset o: a window byte for each row, and the increasing list of the surprises. Assumes nothing.
use Rattle.std.specs.Prelude.{ℕ, ◌+◌, ◌*◌, ◌/◌, ◌%◌, Bool, true, false, not, ◌&&◌, List, [], ◌∷◌, map, ltb, length, get_or}
use Rattle.std.specs.Int.Bits.{bit_or}
use Rattle.std.specs.Int.Count.{count_trailing_zeros}
use Rattle.laws.specs.Choose.{choose}
use Rattle.laws.specs.Columns.{has, word_of, differs}
use Rattle.numbers.specs.declared.Flavor.{Flavor}
use Rattle.numbers.specs.declared.Flavor.TheVariants.{Empty, Sparse, Hybrid, Pinned, Sliding}
use Rattle.matrices.specs.Matrix.{in_window}
use Rattle.matrices.specs.Listing.{list_from}

-- Empty and Sparse have no window
abbrev pub windowed : Flavor → Bool
windowed Empty = false
windowed Sparse = false
windowed Hybrid = true
windowed Pinned = true
windowed Sliding = true

-- window byte = (word >> o) mod 256: the eight columns from o on
abbrev pub window_at : ℕ → ℕ → ℕ
window_at o w = word_of 8 (λ i. has w (o + i))

-- the surprises of a word: window columns cleared, columns below o flipped
abbrev pub surprises_at : ℕ → ℕ → ℕ
surprises_at o w = word_of 64 (λ c. not (in_window o c) && differs (has w c) (ltb c o))

-- the surprise word of a row: where there is no window, the word itself
abbrev pub surprise_word : Bool → ℕ → ℕ → ℕ
surprise_word wide o w = choose wide (surprises_at o w) w

-- pairs increasing
unfoldable pub surprise_pairs : Bool → ℕ → List ℕ → List ℕ
surprise_pairs wide o m = list_from 0 (64 * length m) (λ x. has (surprise_word wide o (get_or m (x / 64) 0)) (x % 64))

unfoldable pub ored : List ℕ → ℕ
ored [] = 0
ored (w ∷ more) = bit_or w (ored more)

-- the first interesting column: the trailing zero count of all surprise words ORed, 64 if none
unfoldable pub first_column : Bool → ℕ → List ℕ → ℕ
first_column wide o m = count_trailing_zeros 64 (ored (map (surprise_word wide o) m))
