-- `compression::pair_writer::PairWriterCoding::count` meets its contract. Assumes nothing.
use native.Mathlib.Omega.{arith}
use mathlib.Core.Path.{refl, ap, ◌∙◌}
use Prim.Native.Nat.{ℕ}
use lib.ListN.{length}
use Rattle.streams.specs.Codes.{total}
use Rattle.streams.specs.Written.{codes_from}
use Rattle.streams.proofs.Granted.{granted_shaped, most_small}
use Rattle.compression.proofs.CountingBits.{pairs_start, pairs_turn, pairs_end, pair_follows, pair_below}
use Rattle.compression.proofs.pair_writer.PairWriterCoding.count.Goals as goal

pub loop-pair-init : goal.loop-pair-init
loop-pair-init c = let w = c.args.self.now in
    rw (c.start-before.ensures.0, c.start-before.ensures.1) (pairs_start w.book.entries.now w.base.count w.list.size.k w.list.pairs.now w.list.lawful)

pub of-requires : goal.of-requires
of-requires c = let w = c.args.self.now in
    let l = c.loop-pair in
    let f = pair_follows w.book.entries.now w.base.count w.list.size.k w.list.pairs.now l.sum l.before.row l.before.column l.pair-index l.invariant c.loop-pair-test.true in
    (f.rises, f.right)

pub overflow_add-sum : goal.overflow_add-sum
overflow_add-sum c = let w = c.args.self.now in
    let l = c.loop-pair in
    let pairs = w.list.pairs.now in
    let below =
    pair_below w.book.entries.now w.base.count w.list.size.k pairs l.sum l.before.row l.before.column l.pair-index l.invariant c.loop-pair-test.true
    _ c.bits-sum.result refl (c.bits-sum.ensures.same ∙ ap total c.of.ensures) in
    let granted = granted_shaped w.book.entries.now w.list.size.k pairs w.book.shaped w.book.sized w.list.size.most w.list.lawful in
    omega (arith, below, granted, most_small w.list.size.k (length pairs) w.list.few, ap (λ (b : ℕ). total (codes_from w.book.entries.now b 0 0 pairs)) w.based)

pub loop-pair-preserved : goal.loop-pair-preserved
loop-pair-preserved c = let w = c.args.self.now in
    let l = c.loop-pair in
    rw (c.after-before.ensures.0, c.after-before.ensures.1)
    (pairs_turn w.book.entries.now w.base.count w.list.size.k w.list.pairs.now l.sum l.before.row l.before.column l.pair-index l.invariant c.loop-pair-test.true
    _ c.bits-sum.result refl (c.bits-sum.ensures.same ∙ ap total c.of.ensures))

pub returns : goal.returns
returns c = let w = c.args.self.now in
    let l = c.loop-pair in
    pairs_end w.book.entries.now w.base.count w.list.size.k w.list.pairs.now l.sum l.before.row l.before.column l.pair-index l.invariant c.loop-pair-test.false
    ∙ ap (λ (b : ℕ). total (codes_from w.book.entries.now b 0 0 w.list.pairs.now)) w.based
