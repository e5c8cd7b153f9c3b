-- A table that a caller holds, calls on it one after the other, and the plain set that it answers as. Assumes nothing.
use Rattle.std.specs.Prelude.{ℕ, ◌+◌, ◌^◌, Bool, true, false, not, ◌&&◌, ◌||◌, List, [], ◌∷◌, get_or, eqb}
use Rattle.refusals.specs.Outcome.{Outcome, accepted, refused, stopped}
use Rattle.tables.specs.Slots.{empty, holds}
use Rattle.tables.specs.Calls.{table_judged, insert_of, delete_of, clear_of, insert_region, delete_region, spare_after, blank_if}

-- what a caller holds: the record (lg, valid bits, items), the region and the spare
pub record Table : Type 0 where
  pub lg : ℕ
  pub bits : ℕ
  pub count : ℕ
  pub slots : List ℕ
  pub spare : List ℕ

pub data Call : Type 0 where
  insert delete : ℕ → Call
  clear : Call

-- what a call answers
abbrev pub answer_of : Table → Call → Outcome
answer_of t (insert x) = insert_of t.slots t.spare t.lg t.bits t.count x
answer_of t (delete x) = delete_of t.slots t.spare t.lg t.bits t.count x
answer_of t clear = clear_of t.slots t.spare t.lg t.bits t.count

-- the values of an answer: none in a refusal
abbrev pub values_in : Outcome → List ℕ
values_in (accepted values) = values
values_in (refused number place) = []
values_in (stopped number place bit) = []

-- with the record that an answer holds from its value i on, or where it holds none with that of t
abbrev pub recorded : Outcome → ℕ → Table → List ℕ → List ℕ → Table
recorded outcome i t s e = record {
  lg = get_or (values_in outcome) i t.lg;
  bits = get_or (values_in outcome) (i + 1) t.bits;
  count = get_or (values_in outcome) (i + 2) t.count;
  slots = s;
  spare = e;
}

-- what the caller holds after a call
abbrev pub after : Table → Call → Table
after t (insert x) =
    recorded (answer_of t (insert x)) 1 t (insert_region t.slots t.spare t.lg t.bits t.count x) (spare_after (answer_of t (insert x)) t.spare)
after t (delete x) =
    recorded (answer_of t (delete x)) 1 t (delete_region t.slots t.spare t.lg t.bits t.count x) (spare_after (answer_of t (delete x)) t.spare)
after t clear = recorded (answer_of t clear) 0 t (blank_if (answer_of t clear) t.slots) (blank_if (answer_of t clear) t.spare)

-- 2, 15
abbrev pub judged : Table → Outcome
judged t = table_judged t.slots t.spare t.lg t.bits t.count

abbrev pub is_accepted : Outcome → Bool
is_accepted (accepted values) = true
is_accepted (refused number place) = false
is_accepted (stopped number place bit) = false

-- true or false, as insert and delete answer; clear answers neither, and counts as true
abbrev pub said_by : Call → Outcome → Bool
said_by (insert x) outcome = eqb (get_or (values_in outcome) 0 0) 1
said_by (delete x) outcome = eqb (get_or (values_in outcome) 0 0) 1
said_by clear outcome = true

-- calls one after the other: whether all are accepted, what they say, and what the caller holds at the end
unfoldable pub all_accepted : Table → List Call → Bool
all_accepted t [] = true
all_accepted t (c ∷ more) = is_accepted (answer_of t c) && all_accepted (after t c) more

unfoldable pub said_all : Table → List Call → List Bool
said_all t [] = []
said_all t (c ∷ more) = said_by c (answer_of t c) ∷ said_all (after t c) more

unfoldable pub after_all : Table → List Call → Table
after_all t [] = t
after_all t (c ∷ more) = after_all (after t c) more

-- the set that a table stands for: the empty slot is no item
abbrev pub set_of : Table → ℕ → Bool
set_of t y = not (eqb y empty) && holds t.slots (2 ^ t.lg) y

-- a plain set: what it says, and what it is afterwards
abbrev pub plain_says : (ℕ → Bool) → Call → Bool
plain_says set (insert x) = not (set x)
plain_says set (delete x) = set x
plain_says set clear = true

abbrev pub plain_after : (ℕ → Bool) → Call → ℕ → Bool
plain_after set (insert x) y = eqb y x || set y
plain_after set (delete x) y = not (eqb y x) && set y
plain_after set clear y = false

unfoldable pub plain_says_all : (ℕ → Bool) → List Call → List Bool
plain_says_all set [] = []
plain_says_all set (c ∷ more) = plain_says set c ∷ plain_says_all (plain_after set c) more

unfoldable pub plain_after_all : (ℕ → Bool) → List Call → ℕ → Bool
plain_after_all set [] = set
plain_after_all set (c ∷ more) = plain_after_all (plain_after set c) more
