-- `pair_table::changing::move_back` meets its contract. Assumes nothing.
use mathlib.Core.Path.{◌≡◌}
use native.Mathlib.Omega.{arith}
use Rattle.pair_table.proofs.Rebuilding.{moving_start, moving_turn, moved, emptied}
use Rattle.pair_table.proofs.changing.move_back.Goals as goal

pub loop-i-init : goal.loop-i-init
loop-i-init c = moving_start c.args.region.now c.args.spare.now

pub loop-i-preserved : goal.loop-i-preserved
loop-i-preserved c = moving_turn c.args.region.now c.args.spare.now _ _ c.args.n c.loop-i.i c.loop-i.invariant c.requires.region_len.0 c.requires.region_len.1 (omega arith)

pub returns : goal.returns
returns c = let level = c.requires.region_len in
    let vacant = c.requires.empty_from in
    let all : c.loop-i.i ≡ c.args.n = omega arith in
    (moved c.args.region.now c.args.spare.now _ _ c.args.n _ all c.loop-i.invariant level.0 level.1 vacant.0 vacant.1, emptied c.args.region.now c.args.spare.now _ _ c.args.n _ all c.loop-i.invariant level.0 level.1 vacant.1)
