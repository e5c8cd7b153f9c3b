-- `pair_table::insert` meets its contract. Assumes nothing.
use mathlib.Core.Path.{◌≡◌, sym, ap, ◌∙◌}
use Rattle.std.proofs.lemmas.Result.{err_from_is_err_and}
use Rattle.refusals.specs.Outcome.{Outcome, and_then}
use Rattle.tables.specs.Changes.{inserted}
use Rattle.tables.specs.Calls.{insert_of}
use Rattle.pair_table.specs.Steps.{insert_on}
use Rattle.pair_table.proofs.Passing.{call_passed}
use Rattle.pair_table.proofs.Called.{change_refused, change_done, insert_chain}
use Rattle.pair_table.proofs.insert.Goals as goal

pub insert-requires : goal.insert-requires
insert-requires c = let a = c.args in
    let t = a.table in
    let same = c.in_ok-judge_call.ensures.same in
    let w = call_passed a.region.now a.spare.now t.lg t.valid t.items a.item (sym c.in_ok-judge_call.ensures.says) in
    rw (same.0, same.1) (w.0.1, w.0.0)

pub returns-in_err-judge_call : goal.returns-in_err-judge_call
returns-in_err-judge_call c = let p = err_from_is_err_and c.from_residual.result c.from_residual.ensures.1 in
    let a = c.args in
    let t = a.table in
    let s = a.region.now in
    let e = a.spare.now in
    let more = insert_on s t.lg t.valid t.items a.item in
    rw (p.1, p.2) (change_refused (insert_of s e t.lg t.valid t.items a.item) more s e (inserted s t.lg t.valid t.items a.item) _
    (insert_chain s e t.lg t.valid t.items a.item ∙ ap (λ (o : Outcome). and_then o more) (sym c.in_err-judge_call.ensures.says)))

pub returns : goal.returns
returns c = let a = c.args in
    let t = a.table in
    let s = a.region.now in
    let e = a.spare.now in
    let more = insert_on s t.lg t.valid t.items a.item in
    let r = c.insert in
    let same = c.in_ok-judge_call.ensures.same in
    let is : insert_of s e t.lg t.valid t.items a.item ≡ more = insert_chain s e t.lg t.valid t.items a.item ∙ ap (λ (o : Outcome). and_then o more) (sym c.in_ok-judge_call.ensures.says) in
    change_done (insert_of s e t.lg t.valid t.items a.item) more s e (inserted s t.lg t.valid t.items a.item) r.new.region r.new.spare r.result is (rw (same.0, same.1, same.2) at r.ensures)
