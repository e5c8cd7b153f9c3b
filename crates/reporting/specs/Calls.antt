-- What deciding and each line answer, and what they leave. Assumes nothing.
use Rattle.std.specs.Prelude.{ℕ, zero, suc, ◌-◌, ◌/◌, ◌^◌, List, [], ◌∷◌, ◌++◌, ltb, length, take, drop, Option, Some, None, Result, Ok, Err}
use Rattle.laws.specs.Choose.{choose}
use Rattle.refusals.specs.Outcome.{Outcome, accepted, refused, and_then, numbers_in}
use Rattle.refusals.specs.Units.{words_for}
use Rattle.refusals.specs.Told.{told}
use Rattle.refusals.specs.declared.Refusal.{Refusal}
use Rattle.refusals.specs.declared.Refusal.TheVariants.{WrongLength, NoRoom}
use Rattle.numbers.specs.Numbers.{flavor_at, offset_at, base_bits_at}
use Rattle.numbers.specs.Calls.{offset_of, base_bits_of}
use Rattle.numbers.specs.Told.{flavor_number}
use Rattle.practice.specs.Practice.{pair_book}
use Rattle.streams.specs.Stream.{number}
use Rattle.streams.specs.Written.{pairs_bits}
use Rattle.streams.specs.Calls.{write_pairs_of, pairs_written}
use Rattle.reporting.specs.Lines.{decimal, line, lg_name, pairs_name}
use Rattle.reporting.specs.Report.{flavor_name, offset_name, base_bits_name, bits_name, words_name, refused_name, flavor_word, word_line}
use Rattle.reporting.specs.Machine.{Progress, done}
use Rattle.reporting.specs.declared.Reading.{Reading}
use Rattle.reporting.specs.declared.Report.{Report}

-- the numbers of a list that was written, or why it is refused
abbrev pub Decision : Type 0
Decision = Result Report Refusal

-- the length of a line, none past the last one, or a refusal
abbrev pub LineAnswer : Type 0
LineAnswer = Result (Option ℕ) Refusal

-- Document 01's numbers for a decision
abbrev pub told_decision : Decision → Outcome
told_decision (Ok r) =
    accepted (r.lg ∷ r.count ∷ flavor_number r.flavor ∷ r.offset ∷ r.base ∷ r.length.bits.0 ∷ r.length.words.0 ∷ [])
told_decision (Err why) = told why

-- the offset of n pairs, which are the coupons too, and their other numbers
abbrev pub rest_of : ℕ → ℕ → ℕ → ℕ → ℕ → Outcome
rest_of lg n offset bits words =
    and_then (base_bits_of lg n) (accepted (lg ∷ n ∷ flavor_number (flavor_at (2 ^ lg) n) ∷ offset ∷ base_bits_at (2 ^ lg) n ∷ bits ∷ words ∷ []))

-- the offset goes before the others
abbrev pub numbers_of : ℕ → ℕ → ℕ → ℕ → Outcome
numbers_of lg n bits words = and_then (offset_of lg n) (rest_of lg n (offset_at (2 ^ lg) n) bits words)

-- what is decided, and what the lent stream holds afterwards
pub record Decided : Type 0 where
  pub outcome : Outcome
  pub stream : List ℕ

abbrev pub decided_as : Outcome → List ℕ → Decided
decided_as outcome stream = record { outcome = outcome; stream = stream }

-- the writer goes before the offset
unfoldable pub written_of : ℕ → List ℕ → List ℕ → Decided
written_of lg pairs stream =
    decided_as
    (and_then (write_pairs_of pair_book lg pairs stream)
    (numbers_of lg (length pairs) (pairs_bits pair_book (2 ^ lg) pairs) (words_for (pairs_bits pair_book (2 ^ lg) pairs))))
    (pairs_written pair_book lg pairs stream)

-- 5 if there are fewer pairs than the text said, 15 if a line is missing or not whole
unfoldable pub read_decided : Reading → List ℕ → List ℕ → Decided
read_decided r pairs stream =
    choose (ltb (length pairs) r.count) (decided_as (refused 5 0) stream)
    (choose (done r) (written_of r.lg (take r.count pairs) stream) (decided_as (refused 15 0) stream))

abbrev pub decide_of : Progress → List ℕ → List ℕ → Decided
decide_of (Ok r) pairs stream = read_decided r pairs stream
decide_of (Err why) pairs stream = decided_as (told why) stream

-- a line, none as the last one is past, or none as the stream is shorter than its words
pub data Said : Type 0 where
  says : List ℕ → Said
  ended : Said
  cut : Said

-- line i of some lines
abbrev pub nth : List (List ℕ) → ℕ → Said
nth [] i = ended
nth (text ∷ lines) zero = says text
nth (text ∷ lines) (suc i) = nth lines i

-- the lines before the words
unfoldable pub report_head : Report → List (List ℕ)
report_head r =
    line lg_name (decimal r.lg)
    ∷ line pairs_name (decimal r.count)
    ∷ line flavor_name (flavor_word r.flavor)
    ∷ line offset_name (decimal r.offset)
    ∷ line base_bits_name (decimal r.base)
    ∷ line bits_name (decimal r.length.bits.0)
    ∷ line words_name (decimal r.length.words.0)
    ∷ []

-- word i, where the stream has it
abbrev pub word_said : List ℕ → ℕ → Said
word_said stream i = choose (ltb i (length stream / 4)) (says (word_line (number stream) i)) cut

unfoldable pub report_said : Report → List ℕ → ℕ → Said
report_said r stream i = choose (ltb i 7) (nth (report_head r) i) (choose (ltb (i - 7) r.length.words.0) (word_said stream (i - 7)) ended)

-- a refusal is a single line
abbrev pub refused_said : Refusal → ℕ → Said
refused_said why i = nth (line refused_name (decimal (numbers_in (told why)).number) ∷ []) i

-- line i of a decision
abbrev pub line_of : Decision → List ℕ → ℕ → Said
line_of (Ok r) stream i = report_said r stream i
line_of (Err why) stream i = refused_said why i

-- what is answered, and what the lent output holds afterwards
pub record Laid : Type 0 where
  pub answer : LineAnswer
  pub out : List ℕ

abbrev pub laid : LineAnswer → List ℕ → Laid
laid a out = record { answer = a; out = out }

-- 5 if the output is shorter than the line; else the line stands at the front, and output past it stays
abbrev pub line_into : List ℕ → List ℕ → Laid
line_into text out = choose (ltb (length out) (length text)) (laid (Err NoRoom) out) (laid (Ok (Some (length text))) (text ++ drop (length text) out))

abbrev pub said_into : Said → List ℕ → Laid
said_into (says text) out = line_into text out
said_into ended out = laid (Ok None) out
said_into cut out = laid (Err WrongLength) out
