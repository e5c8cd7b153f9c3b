-- `compression::window_writer::WindowWriterCoding::count` meets its contract. Assumes nothing.
use native.Mathlib.Omega.{arith}
use mathlib.Core.Path.{sym, subst}
use Prim.Native.Nat.{ℕ, ◌+◌, ◌/◌}
use Rattle.compression.proofs.CountingBits.{CountingWindow, window_turn, window_end, window_most, byte_below}
use Rattle.compression.proofs.window_writer.WindowWriterCoding.count.Goals as goal

pub overflow_add-sum : goal.overflow_add-sum
overflow_add-sum c = let w = c.args.self.now in
    let below = byte_below w.book.entries.now w.window.bytes.now c.loop-byte.sum c.loop-byte.byte-index c.loop-byte.invariant c.loop-byte-test.true in
    let most = window_most w.book.entries.now w.window.bytes.now w.book.shaped in
    omega (arith, below, most, w.window.few, c.entry.ensures.0)

pub loop-byte-preserved : goal.loop-byte-preserved
loop-byte-preserved c = let w = c.args.self.now in
    subst (λ (x : ℕ). CountingWindow w.book.entries.now w.window.bytes.now (c.loop-byte.sum + x / 4096) (c.loop-byte.byte-index + 1)) (sym c.entry.ensures.0)
    (window_turn w.book.entries.now w.window.bytes.now c.loop-byte.sum c.loop-byte.byte-index c.loop-byte.invariant c.loop-byte-test.true)

pub returns : goal.returns
returns c = let w = c.args.self.now in
    window_end w.book.entries.now w.window.bytes.now c.loop-byte.sum c.loop-byte.byte-index c.loop-byte.invariant c.loop-byte-test.false
