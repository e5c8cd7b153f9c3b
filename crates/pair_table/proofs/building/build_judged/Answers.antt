-- `pair_table::building::build_judged` meets its contract. Assumes nothing.
use mathlib.Core.Path.{◌≡◌, sym, ap, ◌∙◌}
use Prim.Native.Nat.{ℕ}
use Rattle.std.proofs.lemmas.Result.{err_from_is_err_and}
use lib.ListN.{length}
use Rattle.tables.specs.Changes.{build_lg}
use Rattle.tables.specs.Calls.{growth_judged}
use Rattle.tables.proofs.Sizes.{build_fits}
use Rattle.pair_table.proofs.StoringLists.{growth_refused, growth_done}
use Rattle.pair_table.proofs.building.build_judged.Goals as goal

pub returns-in_err-shape : goal.returns-in_err-shape
returns-in_err-shape c = let p = err_from_is_err_and c.from_residual.result c.from_residual.ensures.1 in
    let a = c.args in
    rw (p.1, p.2) (growth_refused a.region.now a.spare.now a.judged.valid a.judged.list.now _ (c.in_err-shape.ensures.says ∙ ap (λ (lg : ℕ). growth_judged a.region.now lg a.judged.valid) c.lg_for-lg.ensures.0))

pub invariant_of-store : goal.invariant_of-store
invariant_of-store c =
    let g = c.in_ok-shape.ensures.grown in
    let lg : c.in_ok-shape.shape.lg ≡ build_lg (length c.args.judged.list.now) = g.0 ∙ c.lg_for-lg.ensures.0 in
    record { fine = rw g.1 c.args.judged.buildable.fine; load = rw lg (build_fits (length c.args.judged.list.now) (rw lg at c.in_ok-shape.shape.lg_most)) }

pub returns : goal.returns
returns c = let a = c.args in
    let g = c.in_ok-shape.ensures in
    let r = c.store in
    growth_done a.region.now a.spare.now a.judged.valid a.judged.list.now r.new.region r.new.spare r.result
    (ap (λ (lg : ℕ). growth_judged a.region.now lg a.judged.valid) (sym c.lg_for-lg.ensures.0) ∙ sym g.says) (rw g.grown.1 at r.ensures)
