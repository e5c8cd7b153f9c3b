-- `reporting::lines::write_line` meets its contract. Assumes nothing.
use Rattle.reporting.proofs.Laying.{line_put}
use Rattle.reporting.proofs.lines.write_line.Goals as goal

pub returns : goal.returns
returns c = let a = c.args in
    line_put a.name.now a.said.now a.out.now c.put-named.new.out c.put-equalled.new.out c.put-told.new.out c.put.new.out
    c.put-named.result c.put-equalled.result c.put-told.result c.put.result c.put-named.ensures c.put-equalled.ensures c.put-told.ensures c.put.ensures
