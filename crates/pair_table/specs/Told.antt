-- Document 01's number and values for each answer that is not one number. Assumes nothing.
use Rattle.std.specs.Prelude.{ℕ, List, [], ◌∷◌, Option, Some, None, Result}
use Rattle.refusals.specs.Outcome.{Outcome}
use Rattle.refusals.specs.Told.{told_by}
use Rattle.refusals.specs.declared.Refusal.{Refusal}
use Rattle.pair_table.specs.declared.PairTable.{PairTable}

abbrev pub record_values : PairTable → List ℕ
record_values t = t.lg ∷ t.valid ∷ t.items ∷ []

abbrev pub told_table : Result PairTable Refusal → Outcome
told_table answer = told_by record_values answer

-- an answer of true has the new record with it
abbrev pub change_values : Option PairTable → List ℕ
change_values (Some t) = 1 ∷ record_values t
change_values None = 0 ∷ []

abbrev pub told_change : Result (Option PairTable) Refusal → Outcome
told_change answer = told_by change_values answer
