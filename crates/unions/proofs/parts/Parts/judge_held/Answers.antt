-- `unions::parts::Parts::judge_held` meets its contract. Assumes nothing.
use mathlib.Core.Path.{◌≡◌, sym, ap, ◌∙◌}
use mathlib.Core.Bool.{false}
use Prim.Native.Nat.{ℕ, ◌+◌, ◌*◌, ◌%◌, ◌^◌}
use native.Mathlib.Omega.{arith}
use lib.ListN.{length}
use Rattle.matrices.specs.Matrix.{matrix_of, coupons, reserved}
use Rattle.matrices.specs.Source.{held}
use Rattle.unions.proofs.EightBytes.{eights}
use Rattle.unions.proofs.HeldCounted.{wide_source, held_reserved, held_count}
use Rattle.unions.proofs.JudgedSteps.{held_late, held_wrong, held_right}
use Rattle.unions.proofs.parts.Parts.judge_held.Goals.{Else-late_bit, After-from}
use Rattle.unions.proofs.parts.Parts.judge_held.Goals as goal

-- the late bit is clear
clear : (c : Else-late_bit) → reserved c.args.self.shape.size.lg (matrix_of (2 ^ c.args.self.shape.size.lg) (held (2 ^ c.args.self.shape.size.lg) c.args.self.shape.coupons c.args.self.window.now c.args.self.pairs.now)) ≡ false
clear c = let p = c.args.self in
    held_reserved p.shape.size.lg p.shape.coupons p.shape.offset.column p.window.now p.pairs.now (wide_source p c.requires.0 c.requires.1) ∙ sym c.late_bit.ensures ∙ c.if-late_bit.false

-- the coupons held, as they are summed
counted : (c : After-from) → coupons (matrix_of (2 ^ c.args.self.shape.size.lg) (held (2 ^ c.args.self.shape.size.lg) c.args.self.shape.coupons c.args.self.window.now c.args.self.pairs.now))
    + 2 * c.count_below-below.result
    ≡ c.args.self.shape.offset.column * length c.args.self.window.now + c.count_window.result + length c.args.self.pairs.now
counted c = let p = c.args.self in
    let all = held_count p.shape.size.lg p.shape.coupons p.shape.offset.column p.window.now p.pairs.now (wide_source p c.requires.0 c.requires.1) p.bytes c.requires.2 c.requires.3 in
    omega (arith, all, c.count_window.ensures.0, c.count_below-below.ensures.0)

pub returns-then-late_bit : goal.returns-then-late_bit
returns-then-late_bit c = let p = c.args.self in
    held_late p.shape.size.lg p.shape.coupons p.window.now p.pairs.now
    (held_reserved p.shape.size.lg p.shape.coupons p.shape.offset.column p.window.now p.pairs.now (wide_source p c.requires.0 c.requires.1) ∙ sym c.late_bit.ensures ∙ c.if-late_bit.true)

pub count_window-requires : goal.count_window-requires
count_window-requires c = let p = c.args.self in
    let w = wide_source p c.requires.0 c.requires.1 in
    (omega (arith, w.long, p.shape.size.power, p.shape.size.most), ap (λ (n : ℕ). n % 8) w.long ∙ eights p.shape.size.lg p.shape.size.low)

pub returns-then-sum-from : goal.returns-then-sum-from
returns-then-sum-from c = let p = c.args.self in
    held_wrong p.shape.size.lg p.shape.coupons p.window.now p.pairs.now (clear (goal.at.returns-then-sum-from c).Else-late_bit)
    (λ q. omega (arith, counted (goal.at.returns-then-sum-from c).After-from, q, c.if-sum-from.true, c.from.ensures))

pub returns : goal.returns
returns c = let p = c.args.self in
    held_right p.shape.size.lg p.shape.coupons p.window.now p.pairs.now (clear (goal.at.returns c).Else-late_bit)
    (omega (arith, counted (goal.at.returns c).After-from, c.if-sum-from.false, c.from.ensures))
