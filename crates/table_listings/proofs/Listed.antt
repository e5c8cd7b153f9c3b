-- The two calls, from what their judgement says. Assumes nothing.
use mathlib.Core.Path.{◌≡◌, sym, ap, ◌∙◌}
use mathlib.Core.List.{List, [], ◌∷◌}
use Prim.Native.Nat.{ℕ}
use Rattle.refusals.specs.Outcome.{Outcome, accepted, and_then, if_accepted}
use Rattle.refusals.specs.Told.{told}
use Rattle.refusals.specs.declared.Refusal.{Refusal}
use Rattle.refusals.proofs.Refusing.{kept, stays}
use Rattle.tables.specs.Shapes.{Lawful}
use Rattle.tables.proofs.Bridges.{lawful_is}
use Rattle.tables.proofs.Extract.{onward_none, placed_in}
use Rattle.tables.proofs.Walking.{stride_near, stride_over}
use Rattle.pair_table.specs.declared.judged.JudgedTable.{JudgedTable}

-- what a judged table holds
pub lawful_table : (t : JudgedTable) → Lawful t.slots.now t.shape.lg t.shape.valid t.items
lawful_table t = lawful_is t.slots.now t.shape.lg t.shape.valid t.items t.passed

module _ (whole more : Outcome) (after out : List ℕ) where
  pub list_refused : (why : Refusal) → whole ≡ and_then (told why) more → (told why ≡ whole) × (out ≡ if_accepted whole after out)
  list_refused why chain =
      let is : whole ≡ told why = chain ∙ stays why more in
      (sym is, sym (ap (λ (o : Outcome). if_accepted o after out) is ∙ kept why after out))

  pub list_done : (c : ℕ) (u : List ℕ) → whole ≡ accepted (c ∷ []) → u ≡ after → (accepted (c ∷ []) ≡ whole) × (u ≡ if_accepted whole after out)
  list_done c u is p = (sym is, p ∙ sym (ap (λ (o : Outcome). if_accepted o after out) is))

-- ---- what the loops use

pub ruleset restings = (onward_none, placed_in)

pub ruleset onwards = (stride_near, stride_over)
