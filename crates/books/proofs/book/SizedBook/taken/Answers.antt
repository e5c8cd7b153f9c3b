-- `books::book::SizedBook::taken` meets its contract. Assumes nothing.
use native.Mathlib.Omega.{arith}
use mathlib.Core.Path.{sym, ap, ◌∙◌}
use Rattle.refusals.specs.Outcome.{refused}
use Rattle.books.proofs.Shaping.{passing_turn, passing_stop, passing_end}
use Rattle.books.proofs.book.SizedBook.taken.Goals as goal

pub returns-then-not-is_shaped : goal.returns-then-not-is_shaped
returns-then-not-is_shaped c =
    let is = passing_stop c.args.self.entries.now c.loop-x.sum c.loop-x.x c.loop-x.invariant (omega arith) (sym c.is_shaped.ensures ∙ c.if-not-is_shaped.true) in
    (ap (refused 3) (sym is), omega arith)

pub loop-x-preserved : goal.loop-x-preserved
loop-x-preserved c = passing_turn c.args.self.entries.now c.loop-x.sum c.loop-x.x c.loop-x.invariant (omega arith) (sym c.is_shaped.ensures ∙ c.if-not-is_shaped.false)

pub returns : goal.returns
returns c = passing_end c.args.self.entries.now c.loop-x.sum c.loop-x.x c.loop-x.invariant (omega arith)
