-- `table_listings::walking::walk_into` meets its contract. Assumes nothing.
use mathlib.Core.Path.{◌≡◌, ◌∙◌}
use Prim.Native.Nat.{◌+◌, ◌*◌, ◌^◌, ◌%◌}
use native.Mathlib.Omega.{arith}
use lib.Pow.{pow_pos}
use Rattle.tables.specs.Listings.{stride_at}
use Rattle.tables.proofs.Walking.{met_room, walking_start, walking_skip, walking_write, walking_end}
use Rattle.table_listings.proofs.Listed.{lawful_table}
use Rattle.table_listings.proofs.walking.walk_into.Goals as goal
use Rattle.table_listings.proofs.walking.walk_into.Goals.{then-x, else-x}

pub loop-met-init : goal.loop-met-init
loop-met-init c = (pow_pos c.args.table.shape.lg, walking_start _ _ _)

pub bounds-out-next : goal.bounds-out-next
bounds-out-next c = let t = c.args.table in
    let k = c.loop-met in
    let w = k.invariant.1 in
    omega (arith, met_room t.slots.now t.shape.lg t.shape.valid t.items k._met k.k (lawful_table t) (omega arith) w.slot c.if-x.true, w.count, w.long, c.requires)

pub loop-met-preserved : goal.loop-met-preserved
loop-met-preserved c =
    let t = c.args.table in
    let k = c.loop-met in
    let s = t.slots.now in
    let lg = t.shape.lg in
    let w = k.invariant.1 in
    let q = c.onward-k in
    let g = c.stride-g.ensures.0 in
    let next : q.result ≡ (k._met + 1) * stride_at lg % 2 ^ lg = rw g at (q.ensures.1 k._met (w.slot ∙ rw g)) in (
      q.ensures.0,
      elim c.if-x.branch [
        | then-x i ↦ rw (i.out-is, i.next-is) (walking_write s c.args.out.now k.out lg k._met k.k k.next q.result w i.if-x.true
            (omega (arith, met_room s lg t.shape.valid t.items k._met k.k (lawful_table t) (omega arith) w.slot i.if-x.true, w.count, c.requires)) next)
        | else-x i ↦ rw (i.out-is, i.next-is) (walking_skip s c.args.out.now k.out lg k._met k.k k.next q.result w i.if-x.false next)
      ],
    )

pub returns : goal.returns
returns c = let t = c.args.table in
    let k = c.loop-met in
    let end : k._met ≡ 2 ^ t.shape.lg = omega arith in
    (walking_end t.slots.now c.args.out.now k.out t.shape.lg t.shape.valid t.items k.k k.next (lawful_table t) (rw end at k.invariant.1)).1
