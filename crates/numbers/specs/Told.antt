-- Document 01's number and values for each answer that is not one number. Assumes nothing.
use Rattle.std.specs.Prelude.{ℕ, [], ◌∷◌, Result}
use Rattle.refusals.specs.Outcome.{Outcome}
use Rattle.refusals.specs.Told.{told_by}
use Rattle.refusals.specs.declared.Refusal.{Refusal}
use Rattle.numbers.specs.declared.Flavor.{Flavor}
use Rattle.numbers.specs.declared.Flavor.TheVariants.{Empty, Sparse, Hybrid, Pinned, Sliding}
use Rattle.numbers.specs.declared.size.SketchSize.{SketchSize}

-- the flavors in their order
abbrev pub flavor_number : Flavor → ℕ
flavor_number Empty = 0
flavor_number Sparse = 1
flavor_number Hybrid = 2
flavor_number Pinned = 3
flavor_number Sliding = 4

abbrev pub told_flavor : Result Flavor Refusal → Outcome
told_flavor answer = told_by (λ f. flavor_number f ∷ []) answer

-- a size is told as its rows
abbrev pub told_size : Result SketchSize Refusal → Outcome
told_size answer = told_by (λ size. size.k ∷ []) answer
