-- `pair_table::clear` meets its contract. Assumes nothing.
use mathlib.Core.Path.{◌≡◌, sym, ap, ◌∙◌}
use Rattle.std.proofs.lemmas.Result.{err_from_is_err_and}
use Rattle.refusals.specs.Outcome.{Outcome, accepted, and_then}
use Rattle.tables.specs.Calls.{clear_of, record_of}
use Rattle.pair_table.specs.Told.{record_values}
use Rattle.pair_table.proofs.Called.{table_refused, table_made}
use Rattle.pair_table.proofs.clear.Goals as goal

pub returns-in_err-shape : goal.returns-in_err-shape
unfolding clear_of
returns-in_err-shape c = let p = err_from_is_err_and c.from_residual.result c.from_residual.ensures.1 in
    let a = c.args in
    let t = a.table in
    let more = record_of t.lg t.valid 0 in
    rw (p.1, p.2) (table_refused (clear_of a.region.now a.spare.now t.lg t.valid t.items) more a.region.now a.spare.now _ (ap (λ (o : Outcome). and_then o more) (sym c.in_err-shape.ensures.says)))

pub returns : goal.returns
unfolding clear_of
returns c = let a = c.args in
    let t = a.table in
    let more = record_of t.lg t.valid 0 in
    let whole = clear_of a.region.now a.spare.now t.lg t.valid t.items in
    let is : whole ≡ more = ap (λ (o : Outcome). and_then o more) (sym c.in_ok-shape.ensures.says) in
    let same = c.in_ok-shape.ensures.same in
    let w = c.empty_table in
    let lg : w.result.lg ≡ t.lg = w.ensures.record.0 ∙ same.1 in
    let valid : w.result.valid ≡ t.valid = w.ensures.record.1 ∙ same.2 in
    let told : accepted (record_values w.result) ≡ more = cc in
    let made = table_made whole more a.region.now a.spare.now t.lg t.valid _ _ is w.ensures.region w.ensures.spare in
    (told ∙ made.0, made.1, made.2)
