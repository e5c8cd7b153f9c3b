-- `compression::pair_list::lawful_list` meets its contract. Assumes nothing.
use mathlib.Core.Path.{◌≡◌, sym, ap, ◌∙◌}
use mathlib.Core.Bool.{false}
use borrow.Author.Rules.{rules}
use borrow.Author.Tests.{le-ltb}
use Prim.Native.Nat.{ℕ}
use lib.Dec.{ltb}
use lib.ListN.{length}
use Rattle.laws.specs.Choose.{choose}
use Rattle.numbers.specs.Calls.{outside}
use Rattle.refusals.specs.Outcome.{refused}
use Rattle.refusals.specs.Told.{told}
use Rattle.pair_lists.specs.Lists.{pairs_judged, judge_pairs_of}
use Rattle.compression.proofs.WrittenCalls.{judge_pairs_is}
use Rattle.compression.proofs.pair_list.lawful_list.Goals.{After-judge_pairs}
use Rattle.compression.proofs.pair_list.lawful_list.Goals as goal

-- what was judged, by the size's rows
judged : (c : After-judge_pairs) → judge_pairs_of c.args.size.lg c.args.pairs.now ≡ pairs_judged c.args.size.k c.args.pairs.now
judged c = let size = c.args.size in
    let inside : outside size.lg ≡ false = simp (le-ltb size.lg 4 size.low, le-ltb 26 size.lg size.high) in
    judge_pairs_is size.lg c.args.pairs.now inside ∙ ap (λ (k : ℕ). pairs_judged k c.args.pairs.now) (sym size.power)

pub returns-in_err-judge_pairs-clause-told : goal.returns-in_err-judge_pairs-clause-told
returns-in_err-judge_pairs-clause-told c = let a = c.args in
    let is : told c.in_err-judge_pairs.field-0.0 ≡ choose (ltb 268435456 (length a.pairs.now)) (refused 4 0) (pairs_judged a.size.k a.pairs.now) =
    simp (le-ltb _ _ c.if-pairs.false) (c.in_err-judge_pairs.ensures ∙ judged (goal.at.returns-in_err-judge_pairs-clause-told c).After-judge_pairs) in
    search rules

pub invariant_of-result : goal.invariant_of-result
invariant_of-result c = record {
  few = c.if-pairs.false;
  lawful = sym (c.in_ok-judge_pairs.ensures ∙ judged (goal.at.invariant_of-result c).After-judge_pairs);
}
