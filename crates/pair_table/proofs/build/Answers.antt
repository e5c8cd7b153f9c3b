-- `pair_table::build` meets its contract. Assumes nothing.
use mathlib.Core.Path.{◌≡◌, sym, ap, ◌∙◌}
use Rattle.std.proofs.lemmas.Result.{err_from_is_err_and}
use Rattle.refusals.specs.Outcome.{Outcome, and_then}
use Rattle.tables.specs.Calls.{build_of}
use Rattle.pair_table.specs.Steps.{lent_judged, build_on}
use Rattle.pair_table.proofs.StoringLists.{lent_leaves, built_refused, build_chain, made_as}
use Rattle.pair_table.proofs.build.Goals as goal

pub returns-in_err-judged : goal.returns-in_err-judged
returns-in_err-judged c = let p = err_from_is_err_and c.from_residual.result c.from_residual.ensures.1 in
    let a = c.args in
    let s = a.region.now in
    let e = a.spare.now in
    let w = built_refused (build_of s e a.valid a.list.now) (lent_judged s e a.valid a.list.now) (build_on s a.valid a.list.now) a.valid a.list.now s e _ (build_chain s e a.valid a.list.now)
    c.in_err-judged.ensures.says (lent_leaves s e a.valid a.list.now) in
    rw (p.1, p.2) (w.says, w.region, w.spare)

pub returns : goal.returns
returns c = let a = c.args in
    let s = a.region.now in
    let e = a.spare.now in
    let r = c.build_judged in
    let same = c.in_ok-judged.ensures.same in
    let more = build_on s a.valid a.list.now in
    let is : build_of s e a.valid a.list.now ≡ more = build_chain s e a.valid a.list.now ∙ ap (λ (o : Outcome). and_then o more) (sym c.in_ok-judged.ensures.says) in
    let w = made_as more (build_of s e a.valid a.list.now) a.valid a.list.now s e r.new.region r.new.spare r.result is (rw (same.0, same.1) at r.ensures) in
    (w.says, w.region, w.spare)
