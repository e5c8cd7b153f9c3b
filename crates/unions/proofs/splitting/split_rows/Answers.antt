-- `unions::splitting::split_rows` meets its contract. Assumes nothing.
use mathlib.Core.Path.{◌≡◌, sym, ap, ◌∙◌}
use mathlib.Core.List.{◌++◌}
use Prim.Native.Nat.{ℕ, ◌*◌, ◌^◌, ◌≤◌, ◌<◌}
use native.Mathlib.Omega.{arith}
use Rattle.std.proofs.Common.{rules}
use lib.Dec.{ltb}
use lib.ListN.{length, drop}
use Rattle.matrices.specs.Matrix.{coupons, reserved}
use Rattle.matrices.specs.Parts.{windowed, surprise_pairs}
use Rattle.matrices.proofs.Fits.{coupons_fit}
use Rattle.matrices.proofs.Undone.{coupons_most}
use Rattle.unions.specs.Steps.{SurpriseSum, room_judged}
use Rattle.unions.proofs.Answered.{kept_as}
use Rattle.unions.proofs.ShapeTold.{shape_never}
use Rattle.unions.proofs.SplitTold.{room_short, room_enough, count_fits, of_cut, at_size}
use Rattle.unions.proofs.splitting.split_rows.Goals.{Start, In_ok-shape, After-lacks_room, After-write_pairs-found}
use Rattle.unions.proofs.splitting.split_rows.Goals as goal

small : (c : Start) → coupons c.args.matrix.words.now < 2 ^ 32
small c = let size = c.args.matrix.size in coupons_fit size.lg c.args.matrix.words.now size.high (c.args.matrix.long ∙ size.power) c.requires.1

-- the shape is that of the matrix
counted : (c : In_ok-shape) → c.in_ok-shape.shape.coupons ≡ coupons c.args.matrix.words.now
counted c = c.in_ok-shape.ensures.given.1 ∙ c.coupons-ones.ensures

short : (c : After-lacks_room) → c.lacks_room.result ≡ ltb (length c.args.pairs.now) (length (surprise_pairs (windowed c.in_ok-shape.shape.flavor) c.in_ok-shape.shape.offset.column c.args.matrix.words.now))
short c = of_cut c.of-cut.result c.args.matrix.words.now c.in_ok-shape.shape c.of-cut.ensures
    (λ s m. c.lacks_room.result ≡ ltb (length c.args.pairs.now) (length (surprise_pairs (windowed s.flavor) s.offset.column m))) c.lacks_room.ensures

written : (c : After-write_pairs-found) → SurpriseSum (windowed c.in_ok-shape.shape.flavor) c.in_ok-shape.shape.offset.column c.args.matrix.words.now c.write_pairs-found.result
    × (c.write_pairs-found.new.out ≡ surprise_pairs (windowed c.in_ok-shape.shape.flavor) c.in_ok-shape.shape.offset.column c.args.matrix.words.now
    ++ drop (length (surprise_pairs (windowed c.in_ok-shape.shape.flavor) c.in_ok-shape.shape.offset.column c.args.matrix.words.now)) c.args.pairs.now)
written c = let w = c.write_pairs-found in
    of_cut c.of-cut.result c.args.matrix.words.now c.in_ok-shape.shape c.of-cut.ensures
    (λ s m. SurpriseSum (windowed s.flavor) s.offset.column m w.result
    × (w.new.out ≡ surprise_pairs (windowed s.flavor) s.offset.column m ++ drop (length (surprise_pairs (windowed s.flavor) s.offset.column m)) c.args.pairs.now)) w.ensures

pub overflow_cast-ones : goal.overflow_cast-ones
overflow_cast-ones c = record { fits = rw c.coupons-ones.ensures (small (goal.at.overflow_cast-ones c).Start) }

pub returns-in_err-shape : goal.returns-in_err-shape
returns-in_err-shape c = let n = c.coupons-ones in
    let a = c.args in
    let why = c.in_err-shape.field-0.0 in
    let most : n.result ≤ 64 * a.matrix.size.k = omega (arith, n.ensures, coupons_most a.matrix.words.now, c.args.matrix.long) in
    let e = shape_never a.matrix.size n.result why (room_judged a.matrix.size.lg a.matrix.words.now (length a.pairs.now)) most c.in_err-shape.ensures.told in
    record { told = search rules; parted = kept_as why _ a.window.now e; written = kept_as why _ a.pairs.now e }

pub returns-then-lacks_room : goal.returns-then-lacks_room
returns-then-lacks_room c = let a = c.args in
    let s = c.in_ok-shape.shape in
    at_size c.in_ok-shape.ensures.given.0
    (room_short a.matrix.words.now a.window.now a.pairs.now s (counted (goal.at.returns-then-lacks_room c).In_ok-shape) (sym (short (goal.at.returns-then-lacks_room c).After-lacks_room) ∙ c.if-lacks_room.true))

pub overflow_cast-result-3 : goal.overflow_cast-result-3
overflow_cast-result-3 c = let a = c.args in
    let s = c.in_ok-shape.shape in
    let is : s.size.lg ≡ a.matrix.size.lg = c.in_ok-shape.ensures.given.0 in
    record {
      fits = count_fits a.matrix.words.now s c.write_pairs-found.result (c.args.matrix.long ∙ a.matrix.size.power ∙ sym (s.size.power ∙ ap (λ (n : ℕ). 2 ^ n) is)) (ap (λ (n : ℕ). reserved n a.matrix.words.now) is ∙ c.requires.1)
          (written (goal.at.overflow_cast-result-3 c).After-write_pairs-found).0;
    }

pub returns : goal.returns
returns c = let a = c.args in
    let s = c.in_ok-shape.shape in
    let w = written (goal.at.returns c).After-write_pairs-found in
    at_size c.in_ok-shape.ensures.given.0
    (room_enough a.matrix.words.now a.window.now a.pairs.now s (counted (goal.at.returns c).In_ok-shape) c.write_pairs-found.result w.0
    (sym (short (goal.at.returns c).After-lacks_room) ∙ c.if-lacks_room.false) _ _ c.write_windows_if_any.ensures w.1)
