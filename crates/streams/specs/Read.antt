-- Pairs and windows, read: n is the stream as one number, `end` the end of its last whole word. Assumes nothing.
use Rattle.std.specs.Prelude.{ℕ, zero, suc, ◌+◌, ◌*◌, ◌^◌, not, List, [], ◌∷◌, ltb, eqb}
use Rattle.laws.specs.Choose.{choose}
use Rattle.streams.specs.Written.{predicted}
use Rattle.streams.specs.Looks.{Looked, found, cut, code_at, row_step_at}

-- a pair's row and column and the bit after the pair, or a fault: its number and bit position
pub data Step : Type 0 where
  pair : (row column next : ℕ) → Step
  fault : (number bit : ℕ) → Step

abbrev pub then_step : Looked → (ℕ → ℕ → Step) → Step
then_step (found value next) more = more value next
then_step (cut bit) more = fault 6 bit

-- 7 row step is 2^32 or more, 8 row not below k, 9 column not below 64, 10 the reserved number
abbrev pub step_judged : ℕ → ℕ → ℕ → ℕ → Step
step_judged k row column bit =
    choose (not (ltb row k)) (fault 8 bit)
    (choose (not (ltb column 64)) (fault 9 bit) (choose (eqb (64 * row + column) 4294967295) (fault 10 bit) (pair row column bit)))

-- one pair, after a row, where the column `next` is predicted in that row: a code, then zeros and b low bits
abbrev pub pair_at : ℕ → ℕ → List ℕ → ℕ → ℕ → ℕ → ℕ → ℕ → Step
pair_at n end book b k row next at =
    then_step (code_at n end book at)
    (λ column_step after. then_step (row_step_at n end b after)
    (λ row_step bit. choose (not (ltb row_step (2 ^ 32))) (fault 7 bit) (step_judged k (row + row_step) (predicted row_step next + column_step) bit)))

-- how a reading ended: all was read, up to a bit; or a fault
pub data Ending : Type 0 where
  whole : (next : ℕ) → Ending
  faulty : (number bit : ℕ) → Ending

-- the items before the first fault, and the ending
pub record Reading : Type 0 where
  pub items : List ℕ
  pub ending : Ending

abbrev pub item_then : ℕ → Reading → Reading
item_then item rest = record { items = item ∷ rest.items; ending = rest.ending }

abbrev pub on_pair : Step → (ℕ → ℕ → ℕ → Reading) → Reading
on_pair (pair row column next) more = item_then (64 * row + column) (more row column next)
on_pair (fault number bit) more = record { items = []; ending = faulty number bit }

-- so many pairs from a bit on
module _ (n end : ℕ) (book : List ℕ) (b k : ℕ) where
  unfoldable pub pairs_from : ℕ → ℕ → ℕ → ℕ → Reading
  pairs_from zero row next at = record { items = []; ending = whole at }
  pairs_from (suc count) row next at = on_pair (pair_at n end book b k row next at) (λ row' column after. pairs_from count row' (column + 1) after)

abbrev pub on_byte : Looked → (ℕ → ℕ → Reading) → Reading
on_byte (found byte next) more = item_then byte (more byte next)
on_byte (cut bit) more = record { items = []; ending = faulty 6 bit }

-- so many window bytes from a bit on, each a code
module _ (n end : ℕ) (book : List ℕ) where
  unfoldable pub bytes_from : ℕ → ℕ → Reading
  bytes_from zero at = record { items = []; ending = whole at }
  bytes_from (suc count) at = on_byte (code_at n end book at) (λ byte next. bytes_from count next)
