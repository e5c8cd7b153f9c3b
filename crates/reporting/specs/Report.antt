-- What the program writes. Assumes nothing.
use Rattle.std.specs.Prelude.{ℕ, zero, suc, ◌*◌, ◌^◌, List, [], ◌∷◌, ◌++◌, length}
use Rattle.refusals.specs.Outcome.{Outcome, accepted, refused, stopped, and_then}
use Rattle.refusals.specs.Units.{words_for}
use Rattle.numbers.specs.Numbers.{flavor_at, offset_at, base_bits_at}
use Rattle.numbers.specs.Calls.{offset_of}
use Rattle.numbers.specs.declared.Flavor.{Flavor}
use Rattle.numbers.specs.declared.Flavor.TheVariants.{Empty, Sparse, Hybrid, Pinned, Sliding}
use Rattle.practice.specs.Practice.{pair_book}
use Rattle.streams.specs.Stream.{bits_at}
use Rattle.streams.specs.Codes.{pack}
use Rattle.streams.specs.Written.{pairs_codes, pairs_bits}
use Rattle.streams.specs.Calls.{write_pairs_of}
use Rattle.reporting.specs.Lines.{decimal, line, lg_name, pairs_name}
use Rattle.reporting.specs.Asked.{Asked, asked, unasked, asked_by}

-- flavor
abbrev pub flavor_name : List ℕ
flavor_name = 102 ∷ 108 ∷ 97 ∷ 118 ∷ 111 ∷ 114 ∷ []

-- offset
abbrev pub offset_name : List ℕ
offset_name = 111 ∷ 102 ∷ 102 ∷ 115 ∷ 101 ∷ 116 ∷ []

-- base_bits
abbrev pub base_bits_name : List ℕ
base_bits_name = 98 ∷ 97 ∷ 115 ∷ 101 ∷ 95 ∷ 98 ∷ 105 ∷ 116 ∷ 115 ∷ []

-- bits
abbrev pub bits_name : List ℕ
bits_name = 98 ∷ 105 ∷ 116 ∷ 115 ∷ []

-- words
abbrev pub words_name : List ℕ
words_name = 119 ∷ 111 ∷ 114 ∷ 100 ∷ 115 ∷ []

-- w, before a word's index
abbrev pub word_name : List ℕ
word_name = 119 ∷ []

-- refused
abbrev pub refused_name : List ℕ
refused_name = 114 ∷ 101 ∷ 102 ∷ 117 ∷ 115 ∷ 101 ∷ 100 ∷ []

-- empty, sparse, hybrid, pinned, sliding
abbrev pub flavor_word : Flavor → List ℕ
flavor_word Empty = 101 ∷ 109 ∷ 112 ∷ 116 ∷ 121 ∷ []
flavor_word Sparse = 115 ∷ 112 ∷ 97 ∷ 114 ∷ 115 ∷ 101 ∷ []
flavor_word Hybrid = 104 ∷ 121 ∷ 98 ∷ 114 ∷ 105 ∷ 100 ∷ []
flavor_word Pinned = 112 ∷ 105 ∷ 110 ∷ 110 ∷ 101 ∷ 100 ∷ []
flavor_word Sliding = 115 ∷ 108 ∷ 105 ∷ 100 ∷ 105 ∷ 110 ∷ 103 ∷ []

-- the lines before the words: lg_k, the pairs, which are the coupons too, and the bits of their stream
unfoldable pub head_lines : ℕ → ℕ → ℕ → List (List ℕ)
head_lines lg n bits =
    line lg_name (decimal lg)
    ∷ line pairs_name (decimal n)
    ∷ line flavor_name (flavor_word (flavor_at (2 ^ lg) n))
    ∷ line offset_name (decimal (offset_at (2 ^ lg) n))
    ∷ line base_bits_name (decimal (base_bits_at (2 ^ lg) n))
    ∷ line bits_name (decimal bits)
    ∷ line words_name (decimal (words_for bits))
    ∷ []

-- word i of a stream
abbrev pub word_line : ℕ → ℕ → List ℕ
word_line stream i = line (word_name ++ decimal i) (decimal (bits_at stream (32 * i) 32))

-- so many words of a stream, from word i on
unfoldable pub word_lines : ℕ → ℕ → ℕ → List (List ℕ)
word_lines stream i zero = []
word_lines stream i (suc left) = word_line stream i ∷ word_lines stream (suc i) left

-- of a list that was written
unfoldable pub report_lines : ℕ → List ℕ → List (List ℕ)
report_lines lg pairs =
    head_lines lg (length pairs) (pairs_bits pair_book (2 ^ lg) pairs)
    ++ word_lines (pack (pairs_codes pair_book (2 ^ lg) pairs)) 0 (words_for (pairs_bits pair_book (2 ^ lg) pairs))

-- a refusal writes a single line
abbrev pub refused_lines : ℕ → List (List ℕ)
refused_lines number = line refused_name (decimal number) ∷ []

-- the writer goes before the offset; out is where the stream goes
abbrev pub decided : ℕ → List ℕ → List ℕ → Outcome
decided lg pairs out = and_then (write_pairs_of pair_book lg pairs out) (offset_of lg (length pairs))

abbrev pub lines_of : Outcome → List (List ℕ) → List (List ℕ)
lines_of (accepted values) lines = lines
lines_of (refused number place) lines = refused_lines number
lines_of (stopped number place bit) lines = refused_lines number

abbrev pub answered : List ℕ → Asked → List (List ℕ)
answered out (asked lg pairs) = lines_of (decided lg pairs out) (report_lines lg pairs)
answered out (unasked number) = refused_lines number

-- the lines that are written of a text, where there is room for so many pairs, and a place for the stream
abbrev pub report_of : ℕ → List ℕ → List ℕ → List (List ℕ)
report_of room out text = answered out (asked_by room text)
