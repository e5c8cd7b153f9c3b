-- `compression::write_pairs` meets its contract. Assumes nothing.
use mathlib.Core.Path.{ap, ◌∙◌}
use borrow.Author.Rules.{rules}
use Rattle.refusals.specs.Told.{told}
use Rattle.numbers.specs.declared.size.SketchSize.{SketchSize}
use Rattle.numbers.proofs.RowsTold.{RowsAt, rows_given}
use Rattle.compression.proofs.WrittenCalls.{PairsCalled, pairs_outside, pairs_wrong, pairs_faulty, pairs_called}
use Rattle.compression.proofs.write_pairs.Goals.{In_ok-size}
use Rattle.compression.proofs.write_pairs.Goals as goal

-- what is known of the size
sized : (c : In_ok-size) → RowsAt c.args.lg c.in_ok-size.size.k
sized c = rows_given c.args.lg c.in_ok-size.size.k c.in_ok-size.ensures.rows

pub returns-in_err-size : goal.returns-in_err-size
returns-in_err-size c = let a = c.args in
    let why = c.in_err-size.field-0.0 in
    let outside = c.in_err-size.ensures.refused in
    let is : PairsCalled a.book.now a.lg a.pairs.now a.out.now (told why) a.out.now =
    pairs_outside a.book.now a.lg a.pairs.now a.out.now why outside.1 (ap told outside.0) in
    search rules

pub returns-in_err-book : goal.returns-in_err-book
returns-in_err-book c = let a = c.args in
    let why = c.in_err-book.field-0.0 in
    let is : PairsCalled a.book.now a.lg a.pairs.now a.out.now (told why) a.out.now =
    pairs_wrong a.book.now a.lg a.pairs.now a.out.now _ (sized (goal.at.returns-in_err-book c).In_ok-size) why c.in_err-book.ensures.told in
    search rules

pub returns-in_err-list : goal.returns-in_err-list
returns-in_err-list c = let a = c.args in
    let why = c.in_err-list.field-0.0 in
    let is : PairsCalled a.book.now a.lg a.pairs.now a.out.now (told why) a.out.now =
    pairs_faulty a.book.now a.lg a.pairs.now a.out.now _ (sized (goal.at.returns-in_err-list c).In_ok-size) c.in_ok-book.ensures.told why c.in_err-list.ensures.told in
    search rules

pub returns : goal.returns
returns c = let a = c.args in
    let same = c.new.ensures in
    let list = c.in_ok-list.ensures.same in
    pairs_called a.book.now a.lg a.pairs.now a.out.now _ (sized (goal.at.returns c).In_ok-size) c.in_ok-book.ensures.told
    c.new.result.book.entries.now c.new.result.list.pairs.now c.new.result.list.size.k c.write.new.out c.write.result
    (same.0 ∙ c.in_ok-book.ensures.same) (same.1 ∙ list.0) (ap (λ (s : SketchSize). s.k) (same.2 ∙ list.1)) c.in_ok-list.ensures.told c.write.ensures
