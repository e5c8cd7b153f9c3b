-- What the private functions of the reading half promise each other: no public contract cites it, so there is nothing here to believe. Assumes nothing.
use Rattle.std.specs.Prelude.{◌≡◌, not, ◌&&◌, List, [], ℕ, ◌+◌, ◌-◌, ◌*◌, ◌%◌, ◌^◌, ◌≤◌, ◌<◌, eqb, leb, ltb, length, get_or, Option, Some, None, Result, Ok, Err, ⊤}
use Rattle.laws.specs.Choose.{choose}
use Rattle.refusals.specs.Outcome.{Outcome, accepted, refused, stopped}
use Rattle.refusals.specs.Told.{told_reason, told_plain}
use Rattle.refusals.specs.declared.Reason.{Reason}
use Rattle.refusals.specs.declared.Refusal.{Refusal}
use Rattle.books.specs.Table.{decoded}
use Rattle.books.specs.Calls.{check_table_of}
use Rattle.streams.specs.Stream.{number, word_bits, bits_at}
use Rattle.streams.specs.Written.{predicted}
use Rattle.streams.specs.Looks.{Looked, found, cut, code_at}
use Rattle.streams.specs.Read.{Step, pair, fault, step_judged, pair_at, Reading}
use Rattle.streams.specs.Calls.{read_outcome, read_into}
use Rattle.compression.specs.declared.reader.Cursor.{Cursor}
use Rattle.compression.specs.declared.reader.Cut.{Cut}
use Rattle.compression.specs.declared.step_reader.Steps.{Steps}
use Rattle.compression.specs.declared.pair_reader.State.{State}

-- ---- the cursor

-- the bit of the stream that comes next
abbrev pub place_of : Cursor → ℕ
place_of c = 8 * c.next - c.held

-- the buffer holds the bits from the cursor's place up to a whole word's end
pub record Stands (s : List ℕ) (c : Cursor) : Type 0 where
  pub few : c.held < 64
  pub from : c.held ≤ 8 * c.next
  pub whole : c.next % 4 ≡ 0
  pub inside : c.next ≤ length s
  pub holds : c.buffer ≡ bits_at (number s) (place_of c) c.held

-- a cursor at the same place with enough bits, or the stream ends before them
abbrev pub FilledBy : List ℕ → Cursor → ℕ → Option Cursor → Type 0
FilledBy s c needed (Some f) = Stands s f × (place_of f ≡ place_of c) × (needed ≤ f.held)
FilledBy s c needed None = word_bits s < place_of c + needed

-- the bits at the cursor's place, and a cursor there that holds them; or the stream ends before them, and the place is told
abbrev pub SeenBy : List ℕ → Cursor → ℕ → Result (ℕ × Cursor) Cut → Type 0
SeenBy s c count (Ok p) =
    (place_of c + count ≤ word_bits s) × (p.0 ≡ bits_at (number s) (place_of c) count) × Stands s p.1 × (place_of p.1 ≡ place_of c) × (count ≤ p.1.held)
SeenBy s c count (Err e) = (word_bits s < place_of c + count) × (e.bit ≡ place_of c)

-- what is found there: a value below a bound, and the cursor after it; or the bit at which the look that failed begins
abbrev pub TakenBy : List ℕ → (Looked → Type 0) → ℕ → Result (ℕ × Cursor) Cut → Type 0
TakenBy s Finds bound (Ok p) = Finds (found p.0 (place_of p.1)) × Stands s p.1 × (p.0 < bound)
TakenBy s Finds bound (Err e) = Finds (cut e.bit)

-- the table holds what the book says
abbrev pub Holds : List ℕ → List ℕ → Type 0
Holds book table = (n : ℕ) → n < 4096 → get_or table n 0 ≡ decoded book n

-- a look for a code finds this, whatever book it is that the table holds
abbrev pub code_is : List ℕ → List ℕ → ℕ → Looked → Type 0
code_is s table at looked = (book : List ℕ) → Holds book table → code_at (number s) (word_bits s) book at ≡ looked

-- ---- one pair

-- a pair: its row is below k; the column after it is predicted next
pub record Paired (k : ℕ) (Is : Step → Type 0) (item : ℕ) (state : State) : Type 0 where
  pub column : ℕ
  pub is : Is (pair state.before.row column (place_of state.cursor))
  pub item_is : item ≡ 64 * state.before.row + column
  pub next_is : state.before.column ≡ column + 1
  pub row_below : state.before.row < k
  pub column_below : column < 64

-- a fault: its number and bit, and the pair's place, stand in the reason
pub record Faulted (place : ℕ) (Is : Step → Type 0) (reason : Reason) : Type 0 where
  pub number : ℕ
  pub bit : ℕ
  pub is : Is (fault number bit)
  pub told_as : told_reason reason ≡ stopped number place bit

abbrev pub SteppedBy : ℕ → ℕ → (Step → Type 0) → Result (State × ℕ) Reason → Type 0
SteppedBy k place Is (Ok p) = Paired k Is p.1 p.0
SteppedBy k place Is (Err reason) = Faulted place Is reason

-- the cursor after a pair
abbrev pub CursorAfter : (Cursor → Type 0) → Result (State × ℕ) Reason → Type 0
CursorAfter P (Ok p) = P p.0.cursor
CursorAfter P (Err reason) = Unit {0}

-- the verdict on two steps
abbrev pub judged_step : ℕ → ℕ → ℕ → ℕ → ℕ → ℕ → Step
judged_step k row next column_step row_step bit =
    choose (not (ltb row_step (2 ^ 32))) (fault 7 bit) (step_judged k (row + row_step) (predicted row_step next + column_step) bit)

-- the two steps of a pair, and the cursor after them: by them the pair is judged, whatever the row before; or the bit at which the look that failed begins
abbrev pub StepsBy : List ℕ → List ℕ → ℕ → ℕ → Result Steps Cut → Type 0
StepsBy s table b at (Ok t) =
    ((book : List ℕ) → Holds book table → (k row next : ℕ)
    → pair_at (number s) (word_bits s) book b k row next at ≡ judged_step k row next t.across t.down (place_of t.last)) × Stands s t.last × (t.across < 256)
StepsBy s table b at (Err e) =
    (book : List ℕ) → Holds book table → (k row next : ℕ) → pair_at (number s) (word_bits s) book b k row next at ≡ fault 6 e.bit

-- a pair is this, whatever book it is that the table holds
abbrev pub pair_is : List ℕ → List ℕ → ℕ → ℕ → State → Step → Type 0
pair_is s table b k state step =
    (book : List ℕ) → Holds book table → pair_at (number s) (word_bits s) book b k state.before.row state.before.column (place_of state.cursor) ≡ step

-- ---- many

-- the answer and the output, of what a reading finds
abbrev pub ReadBy : Reading → List ℕ → List ℕ → Result ⊤ Refusal → Type 0
ReadBy reading out out' answer = (told_plain answer ≡ read_outcome reading) × (out' ≡ read_into reading out)

-- ---- before reading

-- 2, 3
abbrev pub parts_judged : ℕ → List ℕ → List ℕ → List ℕ → Outcome
parts_judged symbols book table stream =
    choose (not (eqb (length book) symbols && (eqb (length table) 4096 && leb (length stream) (2 ^ 30)))) (refused 2 0) (check_table_of book table)

-- 4, then 5
abbrev pub room_judged : ℕ → ℕ → Outcome
room_judged count room = choose (ltb (2 ^ 28) count) (refused 4 0) (choose (ltb room count) (refused 5 0) (accepted []))
