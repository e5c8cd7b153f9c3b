-- `compression::pair_writer::PairWriterCoding::put_all` meets its contract. Assumes nothing.
use native.Mathlib.Omega.{arith}
use mathlib.Core.Path.{ap, subst}
use mathlib.Core.List.{List}
use Prim.Native.Nat.{ℕ}
use Rattle.streams.specs.Codes.{Code, total}
use Rattle.streams.specs.Written.{codes_from}
use Rattle.compression.specs.Writing.{PutsBy}
use Rattle.compression.proofs.PuttingPairs.{start, end, first, room, more}
use Rattle.compression.proofs.pair_writer.PairWriterCoding.put_all.Goals as goal

pub loop-pair-init : goal.loop-pair-init
loop-pair-init c = let w = c.args.self.now in
    rw (c.start-before.ensures.0, c.start-before.ensures.1)
    (start w.book.entries.now w.base.count w.list.size.k w.list.pairs.now c.args.out.now c.args.w c.requires.0 w.list.lawful)

pub of-requires : goal.of-requires
of-requires c = let w = c.args.self.now in
    let l = c.loop-pair in
    let f =
    first w.book.entries.now w.base.count w.list.size.k w.list.pairs.now c.args.out.now c.args.w l.out l.at l.before.row l.before.column l.pair-index l.invariant
    c.loop-pair-test.true in
    (f.rises, f.right)

pub put-at-requires : goal.put-at-requires
put-at-requires c = let w = c.args.self.now in
    let l = c.loop-pair in
    let pairs = w.list.pairs.now in
    let fits =
    room w.book.entries.now w.base.count w.list.size.k pairs c.args.out.now c.args.w l.out l.at l.before.row l.before.column l.pair-index l.invariant
    c.loop-pair-test.true in (
      l.invariant.puts.lawful,
      omega (
        arith,
        fits,
        c.requires.1,
        l.invariant.puts.size,
        ap total c.of.ensures,
        ap (λ (b : ℕ). total (codes_from w.book.entries.now b 0 0 pairs)) w.based,
      ),
    )

pub loop-pair-preserved : goal.loop-pair-preserved
loop-pair-preserved c = let w = c.args.self.now in
    let l = c.loop-pair in
    rw (c.after-before.ensures.0, c.after-before.ensures.1)
    (more w.book.entries.now w.base.count w.list.size.k w.list.pairs.now c.args.out.now c.args.w l.out l.at l.before.row l.before.column l.pair-index
    l.invariant c.loop-pair-test.true c.put-at.new.out c.put-at.result
    (subst (λ (codes : List Code). PutsBy l.out c.put-at.new.out l.at c.put-at.result codes) c.of.ensures c.put-at.ensures))

pub returns : goal.returns
returns c = let w = c.args.self.now in
    let l = c.loop-pair in
    subst (λ (b : ℕ). PutsBy c.args.out.now l.out c.args.w l.at (codes_from w.book.entries.now b 0 0 w.list.pairs.now)) w.based
    (end w.book.entries.now w.base.count w.list.size.k w.list.pairs.now c.args.out.now c.args.w l.out l.at l.before.row l.before.column l.pair-index
    l.invariant c.loop-pair-test.false)
