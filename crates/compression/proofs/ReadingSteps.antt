-- The verdict on two steps, by the tests that led to it, and one pair by what its parts found. Assumes nothing.
use mathlib.Core.Path.{◌≡◌, sym, ap, ◌∙◌}
use mathlib.Core.List.{List}
use Prim.Native.Nat.{ℕ, ◌+◌, ◌*◌, ◌^◌, ◌≤◌, ◌<◌}
use borrow.Author.Tests.{lt-ltb, le-ltb, eq-eqb, ne_eqb}
use Rattle.std.specs.Prelude.{Result, Ok, Err}
use Rattle.refusals.specs.declared.Reason.{Reason}
use Rattle.streams.specs.Written.{predicted}
use Rattle.streams.specs.Looks.{Looked, found, code_at, row_step_at}
use Rattle.streams.specs.Read.{Step, pair, fault, then_step, step_judged, pair_at}
use Rattle.compression.specs.Reading.{SteppedBy, CursorAfter, judged_step}
use Rattle.compression.specs.declared.reader.Cursor.{Cursor}
use Rattle.compression.specs.declared.pair_reader.State.{State}

module _ (k row next across down bit : ℕ) where
  pub judged_7 : 2 ^ 32 ≤ down → judged_step k row next across down bit ≡ fault 7 bit
  judged_7 h = simp (le-ltb down (2 ^ 32) h)

  pub judged_8 : down < 2 ^ 32 → k ≤ row + down → judged_step k row next across down bit ≡ fault 8 bit
  judged_8 a h = simp (lt-ltb down (2 ^ 32) a, le-ltb (row + down) k h)

  module _ (column : ℕ) (e : column ≡ predicted down next + across) (a : down < 2 ^ 32) (b : row + down < k) where
    past_8 : judged_step k row next across down bit ≡ step_judged k (row + down) column bit
    past_8 = simp (lt-ltb down (2 ^ 32) a) (ap (λ (x : ℕ). step_judged k (row + down) x bit) (sym e))

    pub judged_9 : 64 ≤ column → judged_step k row next across down bit ≡ fault 9 bit
    judged_9 h = past_8 ∙ simp (lt-ltb (row + down) k b, le-ltb column 64 h)

    pub judged_10 : column < 64 → 64 * (row + down) + column ≡ 4294967295 → judged_step k row next across down bit ≡ fault 10 bit
    judged_10 l h = past_8 ∙ simp (lt-ltb (row + down) k b, lt-ltb column 64 l, eq-eqb (64 * (row + down) + column) 4294967295 h)

    pub judged_pair : column < 64 → (64 * (row + down) + column ≡ 4294967295 → ⊥) → judged_step k row next across down bit ≡ pair (row + down) column bit
    judged_pair l h = past_8 ∙ simp (lt-ltb (row + down) k b, lt-ltb column 64 l, ne_eqb (64 * (row + down) + column) 4294967295 h)

module _ (n end : ℕ) (book : List ℕ) (b k row next at : ℕ) where
  abbrev after_row : ℕ → ℕ → ℕ → Step
  after_row across down bit = judged_step k row next across down bit

  abbrev after_code : ℕ → ℕ → Step
  after_code across after = then_step (row_step_at n end b after) (after_row across)

  pub pair_judged : (across after down bit : ℕ) → code_at n end book at ≡ found across after → row_step_at n end b after ≡ found down bit
      → pair_at n end book b k row next at ≡ judged_step k row next across down bit
  pair_judged across after down bit e f = ap (λ (l : Looked). then_step l after_code) e ∙ ap (λ (l : Looked). then_step l (after_row across)) f

-- what the verdict answers is what the whole step answers
pub stepped_as : (k place : ℕ) (Is Is' : Step → Type 0) → ((step : Step) → Is step → Is' step) → (r : Result (State × ℕ) Reason) → SteppedBy k place Is r → SteppedBy k place Is' r
stepped_as k place Is Is' f (Ok item) p = record {
  column = p.column;
  is = f _ p.is;
  item_is = p.item_is;
  next_is = p.next_is;
  row_below = p.row_below;
  column_below = p.column_below;
}
stepped_as k place Is Is' f (Err reason) p = record { number = p.number; bit = p.bit; is = f _ p.is; told_as = p.told_as }

pub cursor_as : (P Q : Cursor → Type 0) → ((c : Cursor) → P c → Q c) → (r : Result (State × ℕ) Reason) → CursorAfter P r → CursorAfter Q r
cursor_as P Q f (Ok item) p = f _ p
cursor_as P Q f (Err reason) p = tt
