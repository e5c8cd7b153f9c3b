-- `pair_table::item::Item::grow` meets its contract. Assumes nothing.
use mathlib.Core.Path.{sym}
use Rattle.std.proofs.lemmas.Result.{err_from_is_err_and}
use Rattle.pair_table.proofs.Inserting.{grown_refused, grown_done}
use Rattle.pair_table.proofs.item.Item.grow.Goals as goal

pub returns-in_err-grown : goal.returns-in_err-grown
returns-in_err-grown c = let p = err_from_is_err_and c.from_residual.result c.from_residual.ensures.1 in
    let a = c.args in
    let i = c.args.self in
    let l = c.requires.lawful in
    let f = c.requires.found in
    rw (p.1, p.2) (grown_refused a.region.now a.spare.now i.shape.lg i.shape.valid a.items i.value a.at l.0 l.1 i.small f.0 f.1 _ c.in_err-grown.ensures.says)

pub returns : goal.returns
returns c = let a = c.args in
    let i = c.args.self in
    let l = c.requires.lawful in
    let f = c.requires.found in
    let r = c.rebuild in
    let g = c.in_ok-grown.ensures in
    grown_done a.region.now a.spare.now i.shape.lg i.shape.valid a.items i.value a.at l.0 l.1 i.small f.0 f.1
    r.new.region r.new.spare c.wipe.new.slots _ (cc) (sym g.says) c.wipe.ensures (rw (g.grown.0, g.grown.1) at r.ensures.0) r.ensures.1
