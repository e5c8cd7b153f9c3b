-- A matrix is k words of 64 columns, read as a set of pairs (row, column). Assumes nothing.
use Rattle.std.specs.Prelude.{ℕ, zero, suc, ◌+◌, Bool, ◌&&◌, List, [], ◌∷◌, eqb, leb, ltb, length, get_or}
use Rattle.laws.specs.Below.{sum_below, count_below}
use Rattle.laws.specs.Columns.{has, word_of}

-- (row r, column c) is in the matrix m
abbrev pub at : List ℕ → ℕ → ℕ → Bool
at m r c = has (get_or m r 0) c

-- the matrix of k rows that holds just the pairs that pass the test
unfoldable pub matrix_of : ℕ → (ℕ → ℕ → Bool) → List ℕ
matrix_of zero f = []
matrix_of (suc k) f = word_of 64 (f zero) ∷ matrix_of k (λ r. f (suc r))

-- coupons are the set bits of all its words
unfoldable pub coupons : List ℕ → ℕ
coupons m = sum_below (length m) (λ r. count_below 64 (at m r))

-- the reserved number's bit in a matrix at lg_k 26: row 67108863, column 63
abbrev pub reserved : ℕ → List ℕ → Bool
reserved lg m = eqb lg 26 && at m 67108863 63

-- column c is one of the eight window columns o .. o+7
abbrev pub in_window : ℕ → ℕ → Bool
in_window o c = leb o c && ltb c (o + 8)
