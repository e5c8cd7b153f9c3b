-- Document 01's number and values for the answer of a pick. Assumes nothing.
use Rattle.std.specs.Prelude.{ℕ, [], ◌∷◌, Result}
use Rattle.refusals.specs.Outcome.{Outcome}
use Rattle.refusals.specs.Told.{told_by}
use Rattle.refusals.specs.declared.Refusal.{Refusal}

-- where the part starts, and its length
abbrev pub told_pick : Result ℕ Refusal → Outcome
told_pick answer = told_by (λ start. start ∷ 256 ∷ []) answer
