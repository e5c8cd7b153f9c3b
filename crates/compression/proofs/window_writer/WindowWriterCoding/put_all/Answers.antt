-- `compression::window_writer::WindowWriterCoding::put_all` meets its contract. Assumes nothing.
use native.Mathlib.Omega.{arith}
use mathlib.Core.Path.{◌≡◌, ap, ◌∙◌, subst}
use mathlib.Core.List.{[]}
use Prim.Native.Nat.{ℕ, ◌+◌, ◌*◌, ◌/◌, ◌<◌}
use native.Mathlib.Nat.{add-zero}
use lib.ListN.{length, get_or}
use Rattle.compression.proofs.PuttingWindow.{WindowHead, byte_at, begins, ends, two_room, two_more}
use Rattle.compression.proofs.window_writer.WindowWriterCoding.put_all.Goals.{After-entry-in-loop-two}
use Rattle.compression.proofs.window_writer.WindowWriterCoding.put_all.Goals as goal

-- the two entries are those of the next two bytes
inside : (c : After-entry-in-loop-two) → c.loop-two.two-index < length c.args.self.now.window.bytes.now / 2
inside c = omega (arith, c.loop-two-test.true, c.as_chunks.ensures.front_len)

first : (c : After-entry-in-loop-two) → c.entry.result ≡ get_or c.args.self.now.book.entries.now (get_or c.args.self.now.window.bytes.now (2 * c.loop-two.two-index) 0) 0
first c = let w = c.args.self.now in
    c.entry.ensures.0
    ∙ ap (λ (x : ℕ). get_or w.book.entries.now x 0)
    (rw add-zero at (byte_at c.as_chunks.result.0.now w.window.bytes.now c.loop-two.two-index 0 [] c.as_chunks.ensures.front (inside c) (omega arith)))

second : (c : After-entry-in-loop-two) → c.entry-in-loop-two.result ≡ get_or c.args.self.now.book.entries.now (get_or c.args.self.now.window.bytes.now (2 * c.loop-two.two-index + 1) 0) 0
second c = let w = c.args.self.now in
    c.entry-in-loop-two.ensures.0
    ∙ ap (λ (x : ℕ). get_or w.book.entries.now x 0)
    (byte_at c.as_chunks.result.0.now w.window.bytes.now c.loop-two.two-index 1 [] c.as_chunks.ensures.front (inside c) (omega arith))

pub loop-two-init : goal.loop-two-init
loop-two-init c = let w = c.args.self.now in begins w.book.entries.now w.window.bytes.now c.args.out.now c.args.w c.requires.0

pub put_two-at-requires : goal.put_two-at-requires
put_two-at-requires c = let w = c.args.self.now in
    let l = c.loop-two in
    let x = c.entry in
    let y = c.entry-in-loop-two in
    let two = (goal.at.put_two-at-requires c).After-entry-in-loop-two in
    let fits =
    two_room w.book.entries.now w.window.bytes.now c.args.out.now c.args.w l.out l.at (2 * l.two-index) l.invariant w.window.even (omega (arith, inside two))
    x.result y.result (first two) (second two) in
    (l.invariant.puts.lawful, x.ensures.1, y.ensures.1, omega (arith, fits, c.requires.1, l.invariant.puts.size))

pub loop-two-preserved : goal.loop-two-preserved
loop-two-preserved c = let w = c.args.self.now in
    let l = c.loop-two in
    let two = (goal.at.loop-two-preserved c).After-entry-in-loop-two in
    subst (WindowHead w.book.entries.now w.window.bytes.now c.args.out.now c.args.w c.put_two-at.new.out c.put_two-at.result) (omega arith)
    (two_more w.book.entries.now w.window.bytes.now c.args.out.now c.args.w l.out l.at (2 * l.two-index) l.invariant w.window.even (omega (arith, inside two))
    c.entry.result c.entry-in-loop-two.result (first two) (second two) c.put_two-at.new.out c.put_two-at.result c.put_two-at.ensures)

pub returns : goal.returns
returns c = let w = c.args.self.now in
    ends w.book.entries.now w.window.bytes.now c.args.out.now c.args.w c.loop-two.out c.loop-two.at (2 * c.loop-two.two-index) c.loop-two.invariant
    (omega (arith, c.loop-two-test.false, c.as_chunks.ensures.front_len, w.window.even))
