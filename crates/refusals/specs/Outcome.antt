-- What a public call says, in document 01's numbers. Assumes nothing.
use Rattle.std.specs.Prelude.{ℕ, List}
use Rattle.refusals.specs.declared.Numbered.{Numbered}

pub data Outcome : Type 0 where
  -- the call is accepted, with the values that it answers
  accepted : List ℕ → Outcome
  -- it is refused by a number, with a place, 0 where it has none
  refused : (number place : ℕ) → Outcome
  -- a reader's refusal has the bit position too
  stopped : (number place bit : ℕ) → Outcome

-- the same as three numbers: 0 for what it does not carry
abbrev pub numbers_in : Outcome → Numbered
numbers_in (accepted values) = record { number = 0; place = 0; bit = 0 }
numbers_in (refused number place) = record { number = number; place = place; bit = 0 }
numbers_in (stopped number place bit) = record { number = number; place = place; bit = bit }

-- what lent memory holds afterwards: as the call says where it is accepted, else as before
abbrev pub if_accepted {ℓ} : {A : Type ℓ} → Outcome → A → A → A
if_accepted (accepted values) after before = after
if_accepted (refused number place) after before = before
if_accepted (stopped number place bit) after before = before

-- one judgement after another: a refusal ends both
abbrev pub and_then : Outcome → Outcome → Outcome
and_then (accepted values) more = more
and_then (refused number place) more = refused number place
and_then (stopped number place bit) more = stopped number place bit
