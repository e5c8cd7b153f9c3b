-- Pairs and windows, written. Assumes nothing.
use Rattle.std.specs.Prelude.{ℕ, ◌+◌, ◌-◌, ◌*◌, ◌/◌, ◌%◌, ◌^◌, List, [], ◌∷◌, ◌++◌, eqb, length}
use Rattle.laws.specs.Choose.{choose}
use Rattle.refusals.specs.Units.{words_for}
use Rattle.numbers.specs.Numbers.{base_bits_at}
use Rattle.streams.specs.Stream.{bytes_of}
use Rattle.streams.specs.Codes.{Code, total, pack, book_code, zeros_one, low_bits}

-- column prediction returns to 0 when the row changes
abbrev pub predicted : ℕ → ℕ → ℕ
predicted row_step next = choose (eqb row_step 0) next 0

-- per pair: book code of the column step, then (row step >> b) zeros and a one, then b low bits
abbrev pub step_codes : List ℕ → ℕ → ℕ → ℕ → List Code
step_codes book b column_step row_step = book_code book column_step ∷ zeros_one (row_step / 2 ^ b) ∷ low_bits b row_step ∷ []

-- a pair after a row, where the column `next` is predicted in that row
abbrev pub pair_codes : List ℕ → ℕ → ℕ → ℕ → ℕ → List Code
pair_codes book b row next pair = step_codes book b (pair % 64 - predicted (pair / 64 - row) next) (pair / 64 - row)

-- prediction is column+1 after each pair
unfoldable pub codes_from : List ℕ → ℕ → ℕ → ℕ → List ℕ → List Code
codes_from book b row next [] = []
codes_from book b row next (pair ∷ more) = pair_codes book b row next pair ++ codes_from book b (pair / 64) (pair % 64 + 1) more

-- row and prediction start at 0
abbrev pub pairs_codes : List ℕ → ℕ → List ℕ → List Code
pairs_codes book k pairs = codes_from book (base_bits_at k (length pairs)) 0 0 pairs

-- after the last pair come max(10-b, 0) zero bits; n = 0 writes nothing
abbrev pub pairs_pad : ℕ → ℕ → ℕ
pairs_pad k n = choose (eqb n 0) 0 (10 - base_bits_at k n)

-- the bit total, counted with pad, before filling the word
abbrev pub pairs_bits : List ℕ → ℕ → List ℕ → ℕ
pairs_bits book k pairs = total (pairs_codes book k pairs) + pairs_pad k (length pairs)

-- a window: a code per byte, 11 zero bits
unfoldable pub window_codes : List ℕ → List ℕ → List Code
window_codes book [] = []
window_codes book (byte ∷ more) = book_code book byte ∷ window_codes book more

abbrev pub window_bits : List ℕ → List ℕ → ℕ
window_bits book window = total (window_codes book window) + 11

-- the words that so many bits of codes and pad fill, as bytes
abbrev pub words_of : List Code → ℕ → List ℕ
words_of codes bits = bytes_of (4 * words_for bits) (pack codes)
