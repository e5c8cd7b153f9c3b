-- `numbers::size::SketchSize::of` meets its contract: what `rows` answers fits a size. Assumes nothing.
use Rattle.std.proofs.lemmas.Result.{err_from_is_err_and}
use Rattle.numbers.proofs.RowsTold.{RowsAt, rows_given, rows_outside}
use Rattle.numbers.proofs.size.SketchSize.of.Goals as goal

pub invariant_of-result : goal.invariant_of-result
invariant_of-result c =
    let at : RowsAt c.args.lg c.in_ok-k.k = rows_given c.args.lg c.in_ok-k.k c.in_ok-k.ensures in
    record {
      low = at.low;
      high = at.high;
      power = at.power;
      least = at.least;
      most = at.most;
    }

pub returns-in_err-k-clause-refused : goal.returns-in_err-k-clause-refused
returns-in_err-k-clause-refused c = let p = err_from_is_err_and c.from_residual.result c.from_residual.ensures.1 in
    let why = rows_outside c.args.lg c.in_err-k.field-0.0 c.in_err-k.ensures in
    rw (p.1, p.2) why
