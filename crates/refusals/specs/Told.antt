-- Document 01's number and place of each refusal, and the bit position of a reader's. Assumes nothing.
use Rattle.std.specs.Prelude.{ℕ, List, [], ◌∷◌, Result, Ok, Err}
use Rattle.refusals.specs.Outcome.{Outcome, accepted, refused, stopped}
use Rattle.refusals.specs.declared.Reason.{Reason}
use Rattle.refusals.specs.declared.Reason.TheVariants as reason
use Rattle.refusals.specs.declared.Refusal.{Refusal}
use Rattle.refusals.specs.declared.units.StreamLength.{StreamLength}
use Rattle.refusals.specs.declared.Refusal.TheVariants.{LgOutside, WrongLength, WrongBook, TooManyPairs, NoRoom, Reading, RowNotBelow, Reserved, NotAbove, ItemNotBelow, CannotGrow, WrongWindow, NotLawful, SeedsDiffer, WrongCoupons}

abbrev pub told_reason : Reason → Outcome
told_reason (reason.StreamEnds place bit) = stopped 6 place bit
told_reason (reason.RowStepTooLarge place bit) = stopped 7 place bit
told_reason (reason.RowNotBelow place bit) = stopped 8 place bit
told_reason (reason.ColumnNotBelow place bit) = stopped 9 place bit
told_reason (reason.Reserved place bit) = stopped 10 place bit

abbrev pub told : Refusal → Outcome
told LgOutside = refused 1 0
told WrongLength = refused 2 0
told (WrongBook place) = refused 3 place
told TooManyPairs = refused 4 0
told NoRoom = refused 5 0
told (Reading why) = told_reason why
told (RowNotBelow place) = refused 8 place
told (Reserved place) = refused 10 place
told (NotAbove place) = refused 11 place
told (ItemNotBelow place) = refused 12 place
told CannotGrow = refused 13 0
told (WrongWindow place) = refused 14 place
told NotLawful = refused 15 0
told SeedsDiffer = refused 16 0
told WrongCoupons = refused 17 0

-- what a public call answers: the values of an accepted call, or its refusal
abbrev pub told_by : {A : Type 0} → (A → List ℕ) → Result A Refusal → Outcome
told_by values (Ok answer) = accepted (values answer)
told_by values (Err why) = told why

-- an acceptance that is told without values, whatever it gives
abbrev pub told_plain : {A : Type 0} → Result A Refusal → Outcome
told_plain answer = told_by (λ _. []) answer

-- one number
abbrev pub told_number : Result ℕ Refusal → Outcome
told_number answer = told_by (λ n. n ∷ []) answer

-- the length of a stream: its bits, and its words
abbrev pub told_length : Result StreamLength Refusal → Outcome
told_length answer = told_by (λ s. s.bits.0 ∷ s.words.0 ∷ []) answer
