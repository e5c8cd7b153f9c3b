-- `compression::read_window` meets its contract. Assumes nothing.
use mathlib.Core.Path.{ap}
use borrow.Author.Rules.{rules}
use Rattle.refusals.specs.Told.{told}
use Rattle.numbers.proofs.RowsTold.{RowsAt, rows_given}
use Rattle.compression.proofs.ReadingCalls.{WindowCalled, window_outside, window_other, window_wrong, window_called}
use Rattle.compression.proofs.read_window.Goals.{In_ok-size}
use Rattle.compression.proofs.read_window.Goals as goal

-- what is known of the size
sized : (c : In_ok-size) → RowsAt c.args.lg c.in_ok-size.size.k
sized c = rows_given c.args.lg c.in_ok-size.size.k c.in_ok-size.ensures.rows

pub returns-in_err-size : goal.returns-in_err-size
returns-in_err-size c = let a = c.args in
    let why = c.in_err-size.field-0.0 in
    let outside = c.in_err-size.ensures.refused in
    let is : WindowCalled a.book.now a.table.now a.lg a.stream.now a.window.now (told why) a.window.now =
    window_outside a.book.now a.table.now a.lg a.stream.now a.window.now why outside.1 (ap told outside.0) in
    search rules

pub returns-then-window-size : goal.returns-then-window-size
returns-then-window-size c = let a = c.args in
    window_other a.book.now a.table.now a.lg a.stream.now a.window.now _ (sized (goal.at.returns-then-window-size c).In_ok-size) c.if-window-size.true

pub returns-in_err-coded : goal.returns-in_err-coded
returns-in_err-coded c = let a = c.args in
    let why = c.in_err-coded.field-0.0 in
    let is : WindowCalled a.book.now a.table.now a.lg a.stream.now a.window.now (told why) a.window.now =
    window_wrong a.book.now a.table.now a.lg a.stream.now a.window.now _ (sized (goal.at.returns-in_err-coded c).In_ok-size) c.if-window-size.false why
    c.in_err-coded.ensures.told in
    search rules

pub returns : goal.returns
returns c = let a = c.args in
    let lent = c.in_ok-coded.ensures.lent in
    window_called a.book.now a.table.now a.lg a.stream.now a.window.now _ (sized (goal.at.returns c).In_ok-size) c.if-window-size.false
    c.in_ok-coded.coded.bytes.now c.read_into.new.window c.read_into.result lent.0 c.in_ok-coded.ensures.told (c.read_into.ensures a.book.now lent.1)
