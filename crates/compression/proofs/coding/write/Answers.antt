-- `compression::coding::write` meets its contract. Assumes nothing.
use native.Mathlib.Omega.{arith}
use mathlib.Core.Path.{sym, subst}
use Prim.Native.Nat.{ℕ, ◌+◌, ◌/◌, ◌≤◌}
use borrow.Author.Tests.{leb-true}
use lib.ListN.{length}
use Rattle.refusals.specs.Units.{words_for}
use Rattle.streams.specs.Codes.{total}
use Rattle.compression.specs.Writing.{ClosedBy}
use Rattle.compression.proofs.WrittenCalls.{last_written}
use Rattle.compression.proofs.WrittenWords.{written, bits_told, words_told}
use Rattle.compression.proofs.coding.write.Given.{Over}
use Rattle.compression.proofs.coding.write.Goals.{Else-not-has_room}
use Rattle.compression.proofs.coding.write.Goals as goal

-- there is room
fitting : (g : Over) (c : Else-not-has_room g) → words_for (total (g.C.Coding.codes c.args.coding.now) + g.C.Coding.padding c.args.coding.now) ≤ length c.args.out.now / 4
fitting g c = leb-true _ _ (sym c.if-not-has_room.ensures.fits)

pub close-requires : goal.close-requires
close-requires g c = let p = c.put_all-listed.ensures in
    let e = c.new.ensures in
    let fits = fitting g (goal.at.close-requires g c).Else-not-has_room in
    (p.lawful, c.pad.ensures.1, omega (arith, p.sum, p.size, e, c.pad.ensures.0, fits), omega (arith, p.sum, e, c.pad.ensures.0, c.has_room.ensures.few))

pub returns : goal.returns
returns g c =
    let e = c.new.ensures in
    let o = c.args.out.now in
    let put = c.put_all-listed in
    let codes = g.C.Coding.codes c.args.coding.now in
    let pad = g.C.Coding.padding c.args.coding.now in
    let fits = fitting g (goal.at.returns g c).Else-not-has_room in
    let room : words_for (total codes + pad) ≤ length o / 4 = fits in
    let closed = subst (λ (n : ℕ). ClosedBy put.new.out c.close.new.out put.result n c.close.result) c.pad.ensures.0 c.close.ensures in
    let stands = written o put.new.out c.close.new.out c.new.result put.result pad codes c.close.result e.0 e.1 e.2 put.ensures closed (omega (arith, room)) in
    let bits = bits_told o put.new.out c.close.new.out c.new.result put.result pad codes c.close.result e.0 e.1 e.2 put.ensures closed (omega (arith, room)) in
    let words = words_told o put.new.out c.close.new.out c.new.result put.result pad codes c.close.result e.0 e.1 e.2 put.ensures closed (omega (arith, room)) in
    last_written codes (total codes + pad) o c.close.new.out c.close.result (omega (arith, room)) bits words stands
