-- `pair_table::judging::judge_call` meets its contract. Assumes nothing.
use mathlib.Core.Path.{sym}
use Rattle.tables.proofs.Items.{fine_item}
use Rattle.pair_table.proofs.judging.judge_call.Goals as goal

pub invariant_of-result : goal.invariant_of-result
invariant_of-result c =
    let f = fine_item c.args.table.valid c.args.item 0 (sym c.in_ok-judge_item.ensures) in
    record { small = rw c.in_ok-shape.ensures.same.2 f.small; full = f.full }
