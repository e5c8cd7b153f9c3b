-- `pair_table::building::judge_lent` meets its contract. Assumes nothing.
use native.Mathlib.Omega.{arith}
use Rattle.pair_table.proofs.StoringLists.{buildable}
use Rattle.pair_table.proofs.building.judge_lent.Goals as goal

pub invariant_of-result : goal.invariant_of-result
invariant_of-result c = record { buildable = buildable c.args.valid c.args.list.now (omega arith) (omega arith) c.in_ok-judge_items.ensures }
