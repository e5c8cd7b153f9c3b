-- `books::check_table` meets its contract. Assumes nothing.
use borrow.Author.Rules.{rules}
use borrow.Author.Tests.{eq-eqb}
use mathlib.Core.Path.{◌≡◌, sym, ap₂, subst, ◌∙◌}
use mathlib.Core.Bool.{false, true, ◌&&◌}
use mathlib.Core.List.{[]}
use lib.ListN.{length}
use Rattle.laws.proofs.Truths.{and_left}
use Rattle.refusals.specs.Outcome.{refused, accepted}
use Rattle.refusals.specs.Told.{told}
use Rattle.books.specs.Book.{one_symbol_each}
use Rattle.books.specs.Table.{is_table_of}
use Rattle.books.specs.Calls.{judged, check_table_of}
use Rattle.books.specs.Steps.{first_judged}
use Rattle.books.proofs.Verdicts.{sized_of, fit, check_fit, first_refused, first_accepted, shaped_judged}
use Rattle.books.proofs.check_table.Goals.{In-Ok}
use Rattle.books.proofs.check_table.Goals as goal

-- both lengths are right
fits : (c : In-Ok) → fit c.args.book.now c.args.table.now ≡ true
fits c =
    let long : length c.args.table.now ≡ 4096 = search rules in
    ap₂ ◌&&◌ (sized_of c.args.book.now c.in_ok-sized.ensures.told) (eq-eqb _ _ long)

pub returns-in_err-judge_shapes : goal.returns-in_err-judge_shapes
returns-in_err-judge_shapes c =
    let b = c.args.book.now in
    let t = c.args.table.now in
    let why = c.in_err-judge_shapes.field-0.0 in
    let same : told why ≡ check_table_of b t =
    first_refused b _ why (and_left (one_symbol_each b) (is_table_of b t)) (subst (λ b. told why ≡ first_judged b) c.in_ok-sized.ensures.same c.in_err-judge_shapes.ensures.told)
    ∙ sym (check_fit b t true (fits (goal.at.returns-in_err-judge_shapes c).In-Ok)) in
    search rules

pub returns-then-not-is_table : goal.returns-then-not-is_table
returns-then-not-is_table c =
    let b = c.args.book.now in
    let t = c.args.table.now in
    let first = first_accepted b (subst (λ b. accepted [] ≡ first_judged b) c.in_ok-sized.ensures.same c.in_ok-judge_shapes.ensures.told) in
    let no : (one_symbol_each b && is_table_of b t) ≡ false = search rules in
    let same : judged b (one_symbol_each b && is_table_of b t) ≡ refused 3 0 = shaped_judged b _ false first.0 no in
    sym (check_fit b t true (fits (goal.at.returns-then-not-is_table c).In-Ok) ∙ same)

pub returns : goal.returns
returns c =
    let b = c.args.book.now in
    let t = c.args.table.now in
    let first = first_accepted b (subst (λ b. accepted [] ≡ first_judged b) c.in_ok-sized.ensures.same c.in_ok-judge_shapes.ensures.told) in
    let yes : (one_symbol_each b && is_table_of b t) ≡ true = search rules in
    sym (check_fit b t true (fits (goal.at.returns c).In-Ok) ∙ shaped_judged b _ true first.0 yes)
