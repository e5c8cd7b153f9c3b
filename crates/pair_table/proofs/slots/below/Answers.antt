-- `pair_table::slots::below` meets its contract: beyond 32 bits, every item is below. Assumes nothing.
use mathlib.Core.Logic.{⊎_elim}
use Prim.Native.Nat.{ℕ, ◌^◌, ◌<◌, ◌≤◌, min}
use native.Mathlib.Omega.{arith}
use lib.Dec.{ltb}
use lib.Pow.{pow_mono}
use borrow.Author.Tests.{ltb-true, ltb-false}
use Rattle.laws.proofs.Orders.{le_or_lt}
use Rattle.laws.proofs.Shifts.{one_shl}
use Rattle.tables.specs.Shapes.{Decides}
use Rattle.pair_table.proofs.slots.below.Goals as goal

capped : (x v : ℕ) → x < 2 ^ 32 → Decides (x < 2 ^ v) (ltb x (2 ^ min v 32))
capped x v word = record {
  holds = λ e. let small : x < 2 ^ min v 32 = ltb-true x (2 ^ min v 32) e in omega (arith, small, pow_mono {i = min v 32} {j = v} (omega arith));
  fails = λ e h. let large : 2 ^ min v 32 ≤ x = ltb-false x (2 ^ min v 32) e in ⊎_elim
      (λ (l : v ≤ 32). omega (arith, large, h, pow_mono {i = v} {j = min v 32} (omega arith)))
      (λ (l : 32 < v). omega (arith, large, word, pow_mono {i = 32} {j = min v 32} (omega arith)))
      (le_or_lt v 32);
}

pub returns : goal.returns
returns c =
    let few : c.min.result < 64 = omega arith in
    rw (one_shl c.min.result few, c.min.ensures, c.from.ensures) (capped c.args.item c.args.valid c.ranges.item.fits)
