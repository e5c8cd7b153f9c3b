-- `compression::read_pairs` meets its contract. Assumes nothing.
use mathlib.Core.Path.{ap}
use borrow.Author.Rules.{rules}
use Rattle.refusals.specs.Told.{told}
use Rattle.numbers.proofs.RowsTold.{RowsAt, rows_given}
use Rattle.compression.proofs.ReadingCalls.{PairsCalled, pairs_outside, pairs_wrong, pairs_full, pairs_called}
use Rattle.compression.proofs.read_pairs.Goals.{In_ok-size}
use Rattle.compression.proofs.read_pairs.Goals as goal

-- what is known of the size
sized : (c : In_ok-size) → RowsAt c.args.lg c.in_ok-size.size.k
sized c = rows_given c.args.lg c.in_ok-size.size.k c.in_ok-size.ensures.rows

pub returns-in_err-size : goal.returns-in_err-size
returns-in_err-size c = let a = c.args in
    let why = c.in_err-size.field-0.0 in
    let outside = c.in_err-size.ensures.refused in
    let is : PairsCalled a.book.now a.table.now a.lg a.count a.stream.now a.out.now (told why) a.out.now =
    pairs_outside a.book.now a.table.now a.lg a.count a.stream.now a.out.now why outside.1 (ap told outside.0) in
    search rules

pub returns-in_err-coded : goal.returns-in_err-coded
returns-in_err-coded c = let a = c.args in
    let why = c.in_err-coded.field-0.0 in
    let is : PairsCalled a.book.now a.table.now a.lg a.count a.stream.now a.out.now (told why) a.out.now =
    pairs_wrong a.book.now a.table.now a.lg a.count a.stream.now a.out.now _ (sized (goal.at.returns-in_err-coded c).In_ok-size) why c.in_err-coded.ensures.told in
    search rules

pub returns-in_err-judge_room : goal.returns-in_err-judge_room
returns-in_err-judge_room c = let a = c.args in
    let why = c.in_err-judge_room.field-0.0 in
    let is : PairsCalled a.book.now a.table.now a.lg a.count a.stream.now a.out.now (told why) a.out.now =
    pairs_full a.book.now a.table.now a.lg a.count a.stream.now a.out.now _ (sized (goal.at.returns-in_err-judge_room c).In_ok-size) c.in_ok-coded.ensures.told why
    c.in_err-judge_room.ensures in
    search rules

pub returns : goal.returns
returns c = let a = c.args in
    let lent = c.in_ok-coded.ensures.lent in
    pairs_called a.book.now a.table.now a.lg a.count a.stream.now a.out.now _ (sized (goal.at.returns c).In_ok-size) c.in_ok-coded.ensures.told
    c.in_ok-coded.coded.bytes.now c.of-base.result.count c.read_into.new.out c.read_into.result lent.0 c.of-base.ensures c.in_ok-judge_room.ensures
    (c.read_into.ensures a.book.now lent.1)
