-- `unions::words::Offset::join` meets its contract. Assumes nothing.
use mathlib.Core.Path.{◌∙◌}
use Rattle.matrices.proofs.Parting.{joined_steps}
use Rattle.unions.proofs.offset.Offset.join.Goals as goal

pub returns : goal.returns
returns c = c.with_window.ensures
    ∙ joined_steps c.args.self.column c.args.b c.args.s _ _ c.ranges.b.fits c.flip_below.ensures c.clear_window.ensures
