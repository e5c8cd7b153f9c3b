-- A text read byte by byte: the machine that the calls are. Assumes nothing.
use Rattle.std.specs.Prelude.{ℕ, ◌+◌, ◌-◌, ◌*◌, Bool, true, false, ◌&&◌, ◌||◌, List, [], ◌∷◌, ◌++◌, ltb, leb, eqb, length, get_or, set, Option, Some, None, Result, Ok, Err}
use Rattle.laws.specs.Choose.{choose}
use Rattle.refusals.specs.declared.Refusal.{Refusal}
use Rattle.refusals.specs.declared.Refusal.TheVariants.{LgOutside, NoRoom, NotLawful}
use Rattle.reporting.specs.Lines.{newline, equals, lg_name, pairs_name, pair_name}
use Rattle.reporting.specs.Asked.{digit_follows}
use Rattle.reporting.specs.declared.Digits.{Digits}
use Rattle.reporting.specs.declared.Field.{Field}
use Rattle.reporting.specs.declared.Field.TheVariants as field
use Rattle.reporting.specs.declared.Reading.{Reading}
use Rattle.reporting.specs.declared.matching.Move.{Move}
use Rattle.reporting.specs.declared.matching.Move.TheVariants as move
use Rattle.reporting.specs.declared.matching.Letter.{Letter}
use Rattle.reporting.specs.declared.matching.Letter.TheVariants as letter

-- no digit yet
abbrev pub none : Digits
none = record { begun = false; sofar = 0 }

-- the digits with one more, where it may follow
abbrev pub next_digits : Digits → ℕ → Option Digits
next_digits digits byte =
    choose (digit_follows digits.begun digits.sofar byte) (Some (record { begun = true; sofar = 10 * digits.sofar + (byte - 48) })) None

-- a byte held against the letter at a place of a name
abbrev pub lettered : List ℕ → ℕ → ℕ → Option Letter
lettered name place byte =
    choose (ltb place (length name) && eqb byte (get_or name place 0)) (choose (eqb (place + 1) (length name)) (Some letter.Last) (Some (letter.Inside (place + 1)))) None

-- what stands before a line's first digit
abbrev pub name_of : ℕ → List ℕ
name_of line = choose (eqb line 0) (lg_name ++ (equals ∷ [])) (choose (eqb line 1) (pairs_name ++ (equals ∷ [])) pair_name)

abbrev pub named : ℕ → ℕ → ℕ → Option Letter
named line place byte = lettered (name_of line) place byte

-- a pair's name goes on with its index, another one with the number
abbrev pub after_name : ℕ → Field
after_name line = choose (ltb line 2) (field.Number none) (field.Index none)

abbrev pub letter_move : ℕ → Option Letter → Option Move
letter_move line (Some letter.Last) = Some (move.To (after_name line))
letter_move line (Some (letter.Inside next)) = Some (move.To (field.Name next))
letter_move line None = None

abbrev pub digits_move : (Digits → Field) → Option Digits → Option Move
digits_move to (Some digits) = Some (move.To (to digits))
digits_move to None = None

-- an equals sign ends the index, which is that of the line's pair
abbrev pub index_move : ℕ → Digits → ℕ → Option Move
index_move line digits byte =
    choose (digits.begun && eqb byte equals) (choose (leb 2 line && eqb digits.sofar (line - 2)) (Some (move.To (field.Number none))) None)
    (digits_move field.Index (next_digits digits byte))

-- a newline ends the number and the line
abbrev pub number_move : Digits → ℕ → Option Move
number_move digits byte = choose (digits.begun && eqb byte newline) (Some (move.Ends digits.sofar)) (digits_move field.Number (next_digits digits byte))

-- where a byte leaves a line
unfoldable pub move_of : ℕ → Field → ℕ → Option Move
move_of line (field.Name place) byte = letter_move line (named line place byte)
move_of line (field.Index digits) byte = index_move line digits byte
move_of line (field.Number digits) byte = number_move digits byte

-- how far a text is read, or why it is refused
abbrev pub Progress : Type 0
Progress = Result Reading Refusal

-- all the lines are read
abbrev pub done : Reading → Bool
done r = leb 2 r.lines && leb r.count (r.lines - 2)

-- what is held between two bytes: how far the text is read, and the pairs
pub record Held : Type 0 where
  pub progress : Progress
  pub pairs : List ℕ

abbrev pub held : Progress → List ℕ → Held
held p pairs = record { progress = p; pairs = pairs }

abbrev pub in_field : Reading → Field → Progress
in_field r f = Ok (record { lines = r.lines; lg = r.lg; count = r.count; field = f })

abbrev pub next_line : Reading → ℕ → ℕ → Progress
next_line r lg count = Ok (record { lines = r.lines + 1; lg = lg; count = count; field = field.Name 0 })

-- lg_k from 4 up to 12, else 1
abbrev pub lg_read : Reading → ℕ → Progress
lg_read r n = choose (ltb n 4 || ltb 12 n) (Err LgOutside) (next_line r n r.count)

-- up to 4,096 pairs, and no more than there is room for, else 5
abbrev pub count_read : ℕ → Reading → ℕ → Progress
count_read room r n = choose (ltb 4096 n || ltb room n) (Err NoRoom) (next_line r r.lg n)

-- a line is whole, and says a number
unfoldable pub line_read : Reading → ℕ → List ℕ → Held
line_read r n pairs =
    choose (eqb r.lines 0) (held (lg_read r n) pairs)
    (choose (eqb r.lines 1) (held (count_read (length pairs) r n) pairs) (held (next_line r r.lg r.count) (set pairs (r.lines - 2) n)))

abbrev pub moved : Reading → List ℕ → Option Move → Held
moved r pairs (Some (move.To f)) = held (in_field r f) pairs
moved r pairs (Some (move.Ends n)) = line_read r n pairs
moved r pairs None = held (Err NotLawful) pairs

-- one byte more; the room for pairs is that of the lent list, and nothing comes after the last line
unfoldable pub reading_step : Reading → ℕ → List ℕ → Held
reading_step r byte pairs =
    choose (ltb (length pairs) r.count) (held (Err NoRoom) pairs)
    (choose (done r) (held (Err NotLawful) pairs) (moved r pairs (move_of r.lines r.field byte)))

abbrev pub step_of : Progress → ℕ → List ℕ → Held
step_of (Ok r) byte pairs = reading_step r byte pairs
step_of (Err why) byte pairs = held (Err why) pairs

-- byte after byte
unfoldable pub taken_of : Progress → List ℕ → List ℕ → Held
taken_of p [] pairs = held p pairs
taken_of p (byte ∷ bytes) pairs = taken_of (step_of p byte pairs).progress bytes (step_of p byte pairs).pairs

-- before the first byte
abbrev pub begun : Progress
begun = Ok (record { lines = 0; lg = 0; count = 0; field = field.Name 0 })
