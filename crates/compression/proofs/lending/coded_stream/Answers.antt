-- `compression::lending::coded_stream` meets its contract. Assumes nothing.
use native.Mathlib.Omega.{arith}
use mathlib.Core.Path.{◌≡◌, refl, sym, ◌∙◌, subst}
use borrow.Author.Rules.{rules}
use lib.ListN.{length}
use Rattle.refusals.specs.Told.{told}
use Rattle.compression.specs.Reading.{parts_judged}
use Rattle.compression.proofs.ReadingCalls.{Lent, lent, parts_right}
use Rattle.compression.proofs.lending.coded_stream.Given.{Over}
use Rattle.compression.proofs.lending.coded_stream.Goals.{In_ok-check_table}
use Rattle.compression.proofs.lending.coded_stream.Goals as goal

-- the table that passes is the one that was lent
passes : {g : Over} (c : In_ok-check_table g) → Lent c.args.book.now c.in-Ok.entries.now
passes c = let same : c.in-Ok.entries.now ≡ c.args.table.now = search rules in
    subst (Lent c.args.book.now) (sym same) (lent c.args.book.now c.args.table.now c.in_ok-check_table.ensures)

pub returns-in_err-check_table-clause-told : goal.returns-in_err-check_table-clause-told
returns-in_err-check_table-clause-told g c = let a = c.args in
    let long : length a.table.now ≡ 4096 = search rules in
    let is : told c.in_err-check_table.field-0.0 ≡ parts_judged g.row.SYMBOLS a.book.now a.table.now a.stream.now =
    c.in_err-check_table.ensures ∙ sym (parts_right g.row.SYMBOLS a.book.now a.table.now a.stream.now (omega arith) long (omega arith)) in
    search rules

pub invariant_of-result : goal.invariant_of-result
invariant_of-result g c = let l = passes (goal.at.invariant_of-result g c).In_ok-check_table in record { short = omega arith; decodes = l.decodes }

pub returns-clause-lent : goal.returns-clause-lent
returns-clause-lent g c = let l = passes (goal.at.returns-clause-lent g c).In_ok-check_table in (refl, l.holds)
