-- `books::decoding::fill` meets its contract. Assumes nothing.
use native.Mathlib.Omega.{arith}
use mathlib.Core.Path.{refl}
use Rattle.books.proofs.Agreement.{whole}
use Rattle.books.proofs.Filling.{filling_turn, filling_end}
use Rattle.books.proofs.decoding.fill.Goals as goal

pub loop-x-preserved : goal.loop-x-preserved
loop-x-preserved c = filling_turn c.args.book.entries.now c.loop-x.table c.enter.new.table c.loop-x.x _ c.requires.0 (omega arith) refl
    c.enter.auto.table c.enter.ensures c.loop-x.invariant

pub returns : goal.returns
returns c = whole c.args.book.entries.now c.requires.0 c.loop-x.table c.loop-x.invariant.size
    (filling_end c.args.book.entries.now c.loop-x.table c.loop-x.x c.loop-x.invariant (omega arith))
