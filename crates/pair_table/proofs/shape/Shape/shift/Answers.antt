-- `pair_table::shape::Shape::shift` meets its contract. Assumes nothing.
use mathlib.Core.Path.{◌≡◌, sym, ◌∙◌}
use Prim.Native.Nat.{◌-◌, ◌+◌, ◌^◌, ◌<◌}
use native.Mathlib.Omega.{arith}
use lib.ListN.{get_or}
use lib.Dec.{leb}
use Rattle.tables.specs.Slots.{home}
use Rattle.tables.specs.Shapes.{apart}
use Rattle.pair_table.proofs.Deleting.{shift_ends, shift_out, shift_moves, shift_stays}
use Rattle.pair_table.proofs.shape.Shape.shift.Goals as goal
use Rattle.pair_table.proofs.shape.Shape.shift.Goals.{then-is_on_way, else-is_on_way}

pub returns-then-y : goal.returns-then-y
returns-then-y c = let k = c.loop-passed in
    let s = c.args.self in
    shift_ends c.args.slots.now k.slots s.lg s.valid c.args.hole k.h k.p _ k.invariant c.requires.room.0 c.if-y.true

pub loop-passed-preserved : goal.loop-passed-preserved
loop-passed-preserved c =
    let k = c.loop-passed in
    let s = c.args.self in
    let q = c.step-p-in-loop-passed in
    let less : 2 ^ s.lg - k._passed - 1 ≡ 2 ^ s.lg - (k._passed + 1) = omega arith in
    let more : 0 < 2 ^ s.lg - k._passed = omega arith in
    let full = c.if-y.false in
    let room = c.requires.room.0 in
    let w : c.is_on_way.result ≡ leb (apart (2 ^ s.lg) k.h k.p) (apart (2 ^ s.lg) (home s.lg s.valid (get_or k.slots k.p 0)) k.p) = rw c.home.ensures.0 at c.is_on_way.ensures in
    elim c.if-is_on_way.branch [
      | then-is_on_way i ↦ rw (i.slots-is, i.h-is, ← less) (shift_moves c.args.slots.now k.slots s.lg s.valid c.args.hole k.h k.p _ k.invariant room more full q.result q.ensures.0 (sym w ∙ i.if-is_on_way.true))
      | else-is_on_way i ↦ rw (i.slots-is, i.h-is, ← less) (shift_stays c.args.slots.now k.slots s.lg s.valid c.args.hole k.h k.p _ k.invariant room more full q.result q.ensures.0 (sym w ∙ i.if-is_on_way.false))
    ]

pub returns : goal.returns
returns c = let k = c.loop-passed in
    let s = c.args.self in
    shift_out c.args.slots.now k.slots s.lg s.valid c.args.hole k.h k.p _ k.invariant c.requires.room.0 (omega arith)
