-- `books::decoding::repeats` meets its contract. Assumes nothing.
use native.Mathlib.Omega.{arith}
use mathlib.Core.Path.{refl, subst}
use lib.Pow.{pow_mono}
use Rattle.laws.proofs.Shifts.{one_shl}
use Rattle.books.specs.Steps.{Decides, Repeats}
use Rattle.books.proofs.Repeating.{levels_turn, levels_stop}
use Rattle.books.proofs.decoding.repeats.Goals as goal

pub level_repeats-requires : goal.level_repeats-requires
level_repeats-requires c = omega (arith, one_shl c.loop-bits.bits (omega arith), pow_mono {i = c.loop-bits.bits} {j = 11} (omega arith))

pub returns-then-not-level_repeats : goal.returns-then-not-level_repeats
returns-then-not-level_repeats c = let b = c.loop-bits.bits in
    levels_stop c.args.table.now b _ _ (one_shl b (omega arith)) refl (omega arith)
    (subst (Decides (Repeats c.args.table.now _ _)) c.if-not-level_repeats.true c.level_repeats.ensures)

pub loop-bits-preserved : goal.loop-bits-preserved
loop-bits-preserved c = let b = c.loop-bits.bits in
    levels_turn c.args.table.now b _ _ (one_shl b (omega arith)) refl c.loop-bits.invariant
    (subst (Decides (Repeats c.args.table.now _ _)) c.if-not-level_repeats.false c.level_repeats.ensures)
