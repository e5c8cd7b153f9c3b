-- `pair_table::shape::Shape::rebuild` meets its contract. Assumes nothing.
use mathlib.Core.Path.{◌≡◌, ap, ◌∙◌}
use Prim.Native.Nat.{ℕ}
use native.Mathlib.Omega.{arith}
use lib.ListN.{replicate}
use Rattle.tables.specs.Slots.{empty}
use Rattle.tables.specs.Changes.{rebuilt}
use Rattle.pair_table.proofs.Rebuilding.{refilled, refilled_fits}
use Rattle.pair_table.proofs.shape.Shape.rebuild.Goals.{After-refill}
use Rattle.pair_table.proofs.shape.Shape.rebuild.Goals as goal

filled : (c : After-refill) → c.refill.new.to ≡ rebuilt c.args.region.now c.args.self.lg c.args.to.lg c.args.to.valid
filled c = refilled c.args.region.now c.args.spare.now c.refill.new.to c.size-n.result c.args.self.lg c.args.to.lg c.args.to.valid
    c.refill.ensures c.size-n.ensures (omega arith) c.requires.lent.1 c.requires.lent.0

pub move_back-requires-clause-empty_from : goal.move_back-requires-clause-empty_from
move_back-requires-clause-empty_from c =
    let a = c.args in
    let f = filled (goal.at.move_back-requires-clause-empty_from c).After-refill in
    ((λ p h l. c.requires.lent.2 p (omega arith) l), (refilled_fits a.region.now c.refill.new.to c.max.result a.self.lg a.to.lg a.to.valid f (omega arith) (omega arith) (omega arith) c.requires.lent.3).1)

pub returns : goal.returns
returns c = (
  c.move_back.ensures.0 ∙ filled (goal.at.returns c).After-refill,
  c.move_back.ensures.1 ∙ ap (λ (i : ℕ). replicate i empty) c.refill.auto.to,
)
