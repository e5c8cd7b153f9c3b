-- `reporting::lines::put_number` meets its contract. Assumes nothing.
use lib.ListN.{length}
use mathlib.Core.Path.{ap}
use Rattle.reporting.proofs.Laying.{few, short}
use Rattle.reporting.proofs.Laying.{printed, said_printed}
use native.Mathlib.Omega.{arith}
use borrow.Author.Rules.{rules}
use Rattle.reporting.proofs.lines.put_number.Goals as goal

pub put_line-requires : goal.put_line-requires
put_line-requires c = let a = c.args in
    let d = c.decimal-length in
    (search rules, omega (arith, short a.number, ap length (printed a.number d.result _ (few a.number d.result c.ranges.number.fits d.ensures.len) d.ensures.len d.ensures.digits)))

pub returns : goal.returns
returns c = let a = c.args in
    let d = c.decimal-length in
    said_printed a.name.now _ a.out.now a.number _ c.put_line.ensures
    (printed a.number d.result _ (few a.number d.result c.ranges.number.fits d.ensures.len) d.ensures.len d.ensures.digits)
