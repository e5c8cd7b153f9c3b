-- Document 01's number and values for each answer. Assumes nothing.
use Rattle.std.specs.Prelude.{[], ◌∷◌, Result}
use Rattle.refusals.specs.Outcome.{Outcome}
use Rattle.refusals.specs.Told.{told_by}
use Rattle.refusals.specs.declared.Refusal.{Refusal}
use Rattle.numbers.specs.Told.{flavor_number}
use Rattle.unions.specs.declared.Summary.{Summary}
use Rattle.unions.specs.declared.CpcUnion.{CpcUnion}

-- coupons, flavor, offset, first interesting column, number of pairs
abbrev pub told_split : Result Summary Refusal → Outcome
told_split answer = told_by (λ s. s.coupons ∷ flavor_number s.flavor ∷ s.offset ∷ s.column ∷ s.pairs ∷ []) answer

-- configured lg_k, present lg_k, seed
abbrev pub told_union : Result CpcUnion Refusal → Outcome
told_union answer = told_by (λ u. u.lg ∷ u.present ∷ u.seed ∷ []) answer
