-- `table_listings::walk` meets its contract. Assumes nothing.
use mathlib.Core.List.{[], ◌∷◌, ◌++◌}
use lib.ListN.{drop}
use Rattle.tables.specs.Listings.{walk_order}
use Rattle.std.proofs.lemmas.Result.{err_from_is_err_and}
use Rattle.refusals.specs.Outcome.{accepted}
use Rattle.tables.specs.Calls.{list_of_items}
use Rattle.table_listings.proofs.Listed.{list_refused, list_done}
use Rattle.table_listings.proofs.walk.Goals as goal

pub returns-in_err-judged : goal.returns-in_err-judged
returns-in_err-judged c = let p = err_from_is_err_and c.from_residual.result c.from_residual.ensures.1 in
    let a = c.args in
    let t = a.table in
    rw (p.1, p.2) (list_refused (list_of_items a.region.now a.spare.now t.lg t.valid t.items a.out.now) (accepted (t.items ∷ []))
    (walk_order a.region.now t.lg ++ drop t.items a.out.now) a.out.now _ c.in_err-judged.ensures.says)

pub returns : goal.returns
returns c = let a = c.args in
    let t = a.table in
    let j = c.in_ok-judged.ensures in
    list_done (list_of_items a.region.now a.spare.now t.lg t.valid t.items a.out.now) (accepted (t.items ∷ []))
    (walk_order a.region.now t.lg ++ drop t.items a.out.now) a.out.now t.items c.walk_into.new.out j.says (rw (j.same.0, j.same.1, j.same.3) at c.walk_into.ensures)
