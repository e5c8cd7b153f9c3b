-- `books::book::SizedBook::judge_shapes` meets its contract. Assumes nothing.
use mathlib.Core.Path.{sym, ◌∙◌}
use Rattle.books.proofs.Shaping.{all_shaped}
use Rattle.books.proofs.book.SizedBook.judge_shapes.Goals as goal

pub invariant_of-result : goal.invariant_of-result
invariant_of-result c = record {
  short = c.args.self.short;
  shaped = all_shaped c.args.self.entries.now c.in_ok-taken.ensures.0;
  whole = sym c.in_ok-taken.ensures.1 ∙ c.if-branch-ne4096.false;
}
