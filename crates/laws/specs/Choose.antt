-- A choice by a test: what a chain of refusals is written in. Assumes nothing.
use Rattle.std.specs.Prelude.{Bool, true, false}

-- if the test holds the first, else the second
abbrev pub choose {ℓ} : {A : Type ℓ} → Bool → A → A → A
choose true a b = a
choose false a b = b
