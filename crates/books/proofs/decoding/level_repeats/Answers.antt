-- `books::decoding::level_repeats` meets its contract. Assumes nothing.
use Rattle.books.proofs.Repeating.{halved_turn}
use Rattle.books.proofs.decoding.level_repeats.Goals as goal

pub loop-a-preserved : goal.loop-a-preserved
loop-a-preserved c = halved_turn c.args.table.now c.args.half c.args.limit c.loop-a.count c.one_if_broken-count.result c.in-Some.a.now c.in-Some.b.now _ _ _ _
    c.in-Some.ensures.steps.0 c.in-Some.ensures.steps.1 c.loop-a.invariant c.one_if_broken-count.ensures.0
