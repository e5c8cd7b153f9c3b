-- `unions::expand` meets its contract. Assumes nothing.
use mathlib.Core.Path.{◌≡◌, ◌∙◌}
use mathlib.Core.List.{[]}
use Prim.Native.Nat.{◌^◌}
use Rattle.std.proofs.Common.{rules}
use Rattle.refusals.specs.Outcome.{accepted}
use Rattle.matrices.specs.Calls.{expand_of, expanded_matrix}
use Rattle.matrices.specs.Matrix.{matrix_of}
use Rattle.matrices.specs.Source.{held}
use Rattle.unions.proofs.Answered.{kept_as}
use Rattle.unions.proofs.JudgedTold.{to_judged, of_judged, fitting, filled}
use Rattle.unions.proofs.PlanSteps.{expand_chain}
use Rattle.unions.proofs.expand.Goals.{In_ok-source}
use Rattle.unions.proofs.expand.Goals as goal

-- the parts are accepted
accepts : (c : In_ok-source) → accepted [] ≡ expand_of c.in_ok-source.source.shape.size.lg c.in_ok-source.source.shape.coupons c.in_ok-source.source.window.now c.in_ok-source.source.pairs.now c.args.matrix.now
accepts c = let a = c.args in
    to_judged a.lg a.coupons a.window.now a.pairs.now c.in_ok-source.source c.in_ok-source.ensures.given (λ lg n window ps. accepted [] ≡ expand_of lg n window ps a.matrix.now)
    (c.in_ok-source.ensures.told ∙ expand_chain a.lg a.coupons a.window.now a.pairs.now a.matrix.now)

pub returns-in_err-source : goal.returns-in_err-source
returns-in_err-source c = let a = c.args in
    let e = c.in_err-source.ensures.told ∙ expand_chain a.lg a.coupons a.window.now a.pairs.now a.matrix.now in
    let k = kept_as c.in_err-source.field-0.0 (matrix_of (2 ^ a.lg) (held (2 ^ a.lg) a.coupons a.window.now a.pairs.now)) a.matrix.now e in
    search rules

pub fill-requires : goal.fill-requires
fill-requires c = fitting c.in_ok-source.source c.args.matrix.now (accepts (goal.at.fill-requires c).In_ok-source)

pub returns : goal.returns
returns c = let a = c.args in
    of_judged a.lg a.coupons a.window.now a.pairs.now c.in_ok-source.source c.in_ok-source.ensures.given
    (λ lg n window ps. (accepted [] ≡ expand_of lg n window ps a.matrix.now) × (c.fill.new.matrix ≡ expanded_matrix lg n window ps a.matrix.now))
    (filled c.in_ok-source.source a.matrix.now (accepts (goal.at.returns c).In_ok-source) c.fill.new.matrix c.fill.ensures)
