-- `pair_table::judging::judge_table` meets its contract. Assumes nothing.
use mathlib.Core.Path.{◌≡◌, sym, ◌∙◌}
use mathlib.Core.Bool.{false}
use borrow.Author.Tests.{eq-eqb}
use Rattle.std.proofs.lemmas.Result.{err_from_is_err_and}
use Rattle.tables.specs.Slots.{lawful, sized}
use Rattle.tables.specs.Calls.{table_judged}
use Rattle.tables.proofs.Bridges.{lawful_by}
use Rattle.pair_table.proofs.Passing.{unsized}
use Rattle.pair_table.proofs.judging.judge_table.Goals.{After-is_lawful}
use Rattle.pair_table.proofs.judging.judge_table.Goals as goal

-- what the test of the region says
said : (c : After-is_lawful) → c.is_lawful.result ≡ lawful c.args.region.now c.in_ok-shape.shape.lg c.in_ok-shape.shape.valid c.args.table.items
said c = lawful_by c.args.region.now c.in_ok-shape.shape.lg c.in_ok-shape.shape.valid c.args.table.items c.is_lawful.result c.is_lawful.ensures

pub returns-in_err-shape-clause-says : goal.returns-in_err-shape-clause-says
unfolding table_judged lawful
returns-in_err-shape-clause-says c = let p = err_from_is_err_and c.from_residual.result c.from_residual.ensures.1 in
    let a = c.args in
    rw (p.1, p.2) (simp (eq-eqb _ _ c.if-region-spare.false) (unsized _ (sized a.table.lg a.table.valid) _ c.in_err-shape.ensures.says))

pub returns-then-not-is_lawful-clause-says : goal.returns-then-not-is_lawful-clause-says
unfolding table_judged
returns-then-not-is_lawful-clause-says c = let a = c.args in
    let same = c.in_ok-shape.ensures.same in
    let e : lawful a.region.now a.table.lg a.table.valid a.table.items ≡ false = rw (same.0, same.1) at (sym (said (goal.at.returns-then-not-is_lawful-clause-says c).After-is_lawful) ∙ c.if-not-is_lawful.true) in
    simp (eq-eqb _ _ c.if-region-spare.false, e)

pub invariant_of-result : goal.invariant_of-result
invariant_of-result c = record { room = (c.is_lawful.ensures.holds c.if-not-is_lawful.false).room; passed = sym (said (goal.at.invariant_of-result c).After-is_lawful) ∙ c.if-not-is_lawful.false }
