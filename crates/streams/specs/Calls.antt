-- What the four stream calls answer, and what they leave. Assumes nothing.
use Rattle.std.specs.Prelude.{ℕ, ◌*◌, ◌^◌, not, ◌&&◌, List, [], ◌∷◌, ◌++◌, eqb, leb, ltb, length, drop}
use Rattle.laws.specs.Choose.{choose}
use Rattle.refusals.specs.Outcome.{Outcome, accepted, refused, stopped, if_accepted, and_then}
use Rattle.refusals.specs.Units.{words_for}
use Rattle.numbers.specs.Numbers.{base_bits_at}
use Rattle.numbers.specs.Calls.{outside}
use Rattle.books.specs.Calls.{check_of, check_table_of}
use Rattle.pair_lists.specs.Lists.{pairs_judged}
use Rattle.streams.specs.Stream.{number, word_bits}
use Rattle.streams.specs.Codes.{Code}
use Rattle.streams.specs.Written.{pairs_codes, pairs_bits, window_codes, window_bits, words_of}
use Rattle.streams.specs.Read.{Ending, whole, faulty, Reading, pairs_from, bytes_from}

-- 5 if the output has no room for the words of so many bits; else the bits and the words
abbrev pub written_if : ℕ → List ℕ → Outcome
written_if bits out = choose (ltb (length out) (4 * words_for bits)) (refused 5 0) (accepted (bits ∷ words_for bits ∷ []))

-- the words stand at the front, and output past them stays
abbrev pub words_into : List Code → ℕ → List ℕ → List ℕ
words_into codes bits out = words_of codes bits ++ drop (4 * words_for bits) out

-- Pair writer: 1, 2, 3, 4, then the first faulty pair (8, 11, 10), then 5
unfoldable pub write_pairs_of : List ℕ → ℕ → List ℕ → List ℕ → Outcome
write_pairs_of book lg pairs out =
    choose (outside lg) (refused 1 0)
    (choose (not (eqb (length book) 65)) (refused 2 0)
    (and_then (check_of book)
    (choose (ltb (2 ^ 28) (length pairs)) (refused 4 0) (and_then (pairs_judged (2 ^ lg) pairs) (written_if (pairs_bits book (2 ^ lg) pairs) out)))))

abbrev pub pairs_written : List ℕ → ℕ → List ℕ → List ℕ → List ℕ
pairs_written book lg pairs out =
    if_accepted (write_pairs_of book lg pairs out) (words_into (pairs_codes book (2 ^ lg) pairs) (pairs_bits book (2 ^ lg) pairs) out) out

-- Window writer: 1, 2, 3, then 5
unfoldable pub write_window_of : List ℕ → ℕ → List ℕ → List ℕ → Outcome
write_window_of book lg window out =
    choose (outside lg) (refused 1 0)
    (choose (not (eqb (length book) 256 && eqb (length window) (2 ^ lg))) (refused 2 0) (and_then (check_of book) (written_if (window_bits book window) out)))

abbrev pub window_written : List ℕ → ℕ → List ℕ → List ℕ → List ℕ
window_written book lg window out =
    if_accepted (write_window_of book lg window out) (words_into (window_codes book window) (window_bits book window) out) out

-- how a reading ended: accepted, or a reader's refusal with the index of the item that could not be read, and its bit
abbrev pub ended_by : ℕ → Ending → Outcome
ended_by place (whole next) = accepted []
ended_by place (faulty number bit) = stopped number place bit

abbrev pub read_outcome : Reading → Outcome
read_outcome reading = ended_by (length reading.items) reading.ending

-- the items before the fault stand at the front, and output past them stays
abbrev pub read_into : Reading → List ℕ → List ℕ
read_into reading out = reading.items ++ drop (length reading.items) out

-- the pairs of a stream, read
abbrev pub pairs_reading : List ℕ → ℕ → ℕ → List ℕ → Reading
pairs_reading book k count stream = pairs_from (number stream) (word_bits stream) book (base_bits_at k count) k count 0 0 0

-- Pair reader: 1, 2, 3, 4, 5, then for each pair 6, 7, 8, 9, 10
unfoldable pub read_pairs_judged : List ℕ → List ℕ → ℕ → ℕ → List ℕ → List ℕ → Outcome
read_pairs_judged book table lg count stream out =
    choose (outside lg) (refused 1 0)
    (choose (not (eqb (length book) 65 && (eqb (length table) 4096 && leb (length stream) (2 ^ 30)))) (refused 2 0)
    (and_then (check_table_of book table) (choose (ltb (2 ^ 28) count) (refused 4 0) (choose (ltb (length out) count) (refused 5 0) (accepted [])))))

abbrev pub read_pairs_of : List ℕ → List ℕ → ℕ → ℕ → List ℕ → List ℕ → Outcome
read_pairs_of book table lg count stream out =
    and_then (read_pairs_judged book table lg count stream out) (read_outcome (pairs_reading book (2 ^ lg) count stream))

abbrev pub pairs_read : List ℕ → List ℕ → ℕ → ℕ → List ℕ → List ℕ → List ℕ
pairs_read book table lg count stream out =
    if_accepted (read_pairs_judged book table lg count stream out) (read_into (pairs_reading book (2 ^ lg) count stream) out) out

-- the bytes of a window, read
abbrev pub window_reading : List ℕ → ℕ → List ℕ → Reading
window_reading book k stream = bytes_from (number stream) (word_bits stream) book k 0

-- Window reader: 1, 2, 3, then 6
unfoldable pub read_window_judged : List ℕ → List ℕ → ℕ → List ℕ → List ℕ → Outcome
read_window_judged book table lg stream window =
    choose (outside lg) (refused 1 0)
    (choose (not (eqb (length book) 256 && (eqb (length table) 4096 && (leb (length stream) (2 ^ 30) && eqb (length window) (2 ^ lg))))) (refused 2 0)
    (check_table_of book table))

abbrev pub read_window_of : List ℕ → List ℕ → ℕ → List ℕ → List ℕ → Outcome
read_window_of book table lg stream window = and_then (read_window_judged book table lg stream window) (read_outcome (window_reading book (2 ^ lg) stream))

abbrev pub window_read : List ℕ → List ℕ → ℕ → List ℕ → List ℕ → List ℕ
window_read book table lg stream window =
    if_accepted (read_window_judged book table lg stream window) (read_into (window_reading book (2 ^ lg) stream) window) window
