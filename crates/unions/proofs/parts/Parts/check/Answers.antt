-- `unions::parts::Parts::check` meets its contract. Assumes nothing.
use mathlib.Core.Path.{◌≡◌, sym, ◌∙◌, subst}
use mathlib.Core.Bool.{false}
use mathlib.Core.List.{[]}
use Prim.Native.Nat.{ℕ, ◌^◌}
use native.Mathlib.Omega.{arith}
use Rattle.std.proofs.Common.{rules}
use Rattle.refusals.specs.Outcome.{accepted}
use Rattle.pair_lists.specs.Lists.{pairs_judged}
use Rattle.matrices.specs.Source.{has_window}
use Rattle.matrices.proofs.LateReserved.{late_none}
use Rattle.unions.proofs.HeldCounted.{listed_count}
use Rattle.unions.proofs.JudgedSteps.{pairs_told, source_refused, source_wide, source_listed, held_wrong, held_right}
use Rattle.unions.proofs.ShapeTold.{inside_of, window_is, offset_is}
use Rattle.unions.proofs.parts.Parts.check.Goals.{In_ok-judge_pairs, Else-is_wide}
use Rattle.unions.proofs.parts.Parts.check.Goals as goal

pairs_ok : (c : In_ok-judge_pairs) → pairs_judged (2 ^ c.args.self.shape.size.lg) c.args.self.pairs.now ≡ accepted []
pairs_ok c = let p = c.args.self in
    sym (c.in_ok-judge_pairs.ensures ∙ pairs_told p.shape.size.lg p.shape.coupons p.window.now p.pairs.now (inside_of p.shape.size))

-- there is no window
narrow : (c : Else-is_wide) → has_window (2 ^ c.args.self.shape.size.lg) c.args.self.shape.coupons ≡ false
narrow c = sym (window_is c.args.self.shape) ∙ sym c.is_wide.ensures ∙ c.if-is_wide.false

pub returns-in_err-judge_pairs : goal.returns-in_err-judge_pairs
returns-in_err-judge_pairs c = let p = c.args.self in
    let e = source_refused p.shape.size.lg p.shape.coupons p.window.now p.pairs.now c.in_err-judge_pairs.field-0.0
    (c.in_err-judge_pairs.ensures ∙ pairs_told p.shape.size.lg p.shape.coupons p.window.now p.pairs.now (inside_of p.shape.size)) in
    search rules

pub judge_wide-requires : goal.judge_wide-requires
judge_wide-requires c = let size = c.args.self.shape.size in
    (sym c.is_wide.ensures ∙ c.if-is_wide.true, subst (λ (k : ℕ). pairs_judged k c.args.self.pairs.now ≡ accepted []) (sym size.power) (pairs_ok (goal.at.judge_wide-requires c).In_ok-judge_pairs))

pub returns-then-is_wide : goal.returns-then-is_wide
returns-then-is_wide c = let p = c.args.self in
    source_wide p.shape.size.lg p.shape.coupons p.window.now p.pairs.now p.shape.offset.column (pairs_ok (goal.at.returns-then-is_wide c).In_ok-judge_pairs) _
    (sym (window_is p.shape) ∙ sym c.is_wide.ensures ∙ c.if-is_wide.true) (offset_is p.shape) c.judge_wide.ensures

pub returns-then-self-from : goal.returns-then-self-from
returns-then-self-from c = let p = c.args.self in
    let lg = p.shape.size.lg in
    let ok = pairs_ok (goal.at.returns-then-self-from c).In_ok-judge_pairs in
    let none = narrow (goal.at.returns-then-self-from c).Else-is_wide in
    let n = listed_count (2 ^ lg) p.shape.coupons p.window.now p.pairs.now none ok in
    source_listed lg p.shape.coupons p.window.now p.pairs.now p.shape.offset.column ok _ none
    (held_wrong lg p.shape.coupons p.window.now p.pairs.now (late_none lg p.shape.coupons p.window.now p.pairs.now ok none)
    (λ q. omega (arith, n, q, c.if-self-from.true, c.from.ensures)))

pub returns : goal.returns
returns c = let p = c.args.self in
    let lg = p.shape.size.lg in
    let ok = pairs_ok (goal.at.returns c).In_ok-judge_pairs in
    let none = narrow (goal.at.returns c).Else-is_wide in
    let n = listed_count (2 ^ lg) p.shape.coupons p.window.now p.pairs.now none ok in
    source_listed lg p.shape.coupons p.window.now p.pairs.now p.shape.offset.column ok _ none
    (held_right lg p.shape.coupons p.window.now p.pairs.now (late_none lg p.shape.coupons p.window.now p.pairs.now ok none) (n ∙ c.if-self-from.false ∙ c.from.ensures))
