-- `unions::merge` meets its contract. Assumes nothing.
use mathlib.Core.Path.{◌≡◌, sym, ◌∙◌, subst}
use mathlib.Core.List.{[]}
use Prim.Native.Nat.{ℕ}
use Rattle.std.proofs.Common.{rules}
use Rattle.refusals.specs.Outcome.{accepted}
use Rattle.matrices.specs.Calls.{union_of, merge_judged, merge_of, merged_matrix}
use Rattle.unions.proofs.JudgedTold.{to_judged, of_judged, joining, taken}
use Rattle.unions.proofs.merge.Goals.{In_ok-plan}
use Rattle.unions.proofs.merge.Goals as goal

-- the plan is accepted
accepts : (c : In_ok-plan) → accepted [] ≡ merge_judged c.args.state.lg c.in_ok-plan.plan.present.lg c.args.state.seed c.args.matrix.now c.in_ok-plan.plan.source.shape.size.lg c.args.source.seed
    c.in_ok-plan.plan.source.shape.coupons c.in_ok-plan.plan.source.window.now c.in_ok-plan.plan.source.pairs.now
accepts c = let a = c.args in
    let u = a.state in
    let s = a.source in
    let q = c.in_ok-plan.plan in
    let g = c.in_ok-plan.ensures.given in
    to_judged s.lg s.coupons a.window.now a.pairs.now q.source g.1 (λ lg n window ps. accepted [] ≡ merge_judged u.lg q.present.lg u.seed a.matrix.now lg s.seed n window ps)
    (subst (λ (n : ℕ). accepted [] ≡ merge_judged u.lg n u.seed a.matrix.now s.lg s.seed s.coupons a.window.now a.pairs.now) (sym g.0) c.in_ok-plan.ensures.told)

pub invariant_of-rows-clause-within : goal.invariant_of-rows-clause-within
invariant_of-rows-clause-within c = let a = c.args in
    (joining a.state.lg a.state.seed a.source.seed a.matrix.now c.in_ok-plan.plan (accepts (goal.at.invariant_of-rows-clause-within c).In_ok-plan)).0

pub invariant_of-rows-clause-fits : goal.invariant_of-rows-clause-fits
invariant_of-rows-clause-fits c r = (c.slice_known-1.given r).fits

pub invariant_of-rows-clause-rest : goal.invariant_of-rows-clause-rest
invariant_of-rows-clause-rest c = let a = c.args in
    (joining a.state.lg a.state.seed a.source.seed a.matrix.now c.in_ok-plan.plan (accepts (goal.at.invariant_of-rows-clause-rest c).In_ok-plan)).1

pub returns : goal.returns
returns c = let a = c.args in
    let u = a.state in
    let s = a.source in
    let q = c.in_ok-plan.plan in
    let g = c.in_ok-plan.ensures.given in
    let t = c.take_in in
    let e =
    subst (λ (n : ℕ). (union_of u.lg t.new.self.size.lg u.seed ≡ merge_of u.lg n u.seed a.matrix.now s.lg s.seed s.coupons a.window.now a.pairs.now)
    × (t.new.self.words.now ≡ merged_matrix u.lg n u.seed a.matrix.now s.lg s.seed s.coupons a.window.now a.pairs.now)) g.0
    (of_judged s.lg s.coupons a.window.now a.pairs.now q.source g.1
    (λ lg n window ps. (union_of u.lg t.new.self.size.lg u.seed ≡ merge_of u.lg q.present.lg u.seed a.matrix.now lg s.seed n window ps)
    × (t.new.self.words.now ≡ merged_matrix u.lg q.present.lg u.seed a.matrix.now lg s.seed n window ps))
    (taken u.lg u.seed s.seed a.matrix.now q (accepts (goal.at.returns c).In_ok-plan) (λ z. c.if-empty.false (sym g.1.0.1 ∙ z)) t.new.self.size.lg t.new.self.words.now t.ensures.0 t.ensures.1.0)) in
    (e.0, search rules)
