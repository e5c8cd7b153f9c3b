-- `compression::write_window` meets its contract. Assumes nothing.
use native.Mathlib.Omega.{arith}
use mathlib.Core.Path.{ap, ◌∙◌}
use Prim.Native.Nat.{ℕ, ◌%◌}
use borrow.Author.Rules.{rules}
use Rattle.refusals.specs.Told.{told}
use Rattle.numbers.proofs.RowsTold.{RowsAt, rows_given}
use Rattle.compression.proofs.WrittenCalls.{WindowCalled, even_rows, window_outside, window_other, window_wrong, window_called}
use Rattle.compression.proofs.write_window.Goals.{In_ok-size}
use Rattle.compression.proofs.write_window.Goals as goal

-- what is known of the size
sized : (c : In_ok-size) → RowsAt c.args.lg c.in_ok-size.size.k
sized c = rows_given c.args.lg c.in_ok-size.size.k c.in_ok-size.ensures.rows

pub returns-in_err-size : goal.returns-in_err-size
returns-in_err-size c = let a = c.args in
    let why = c.in_err-size.field-0.0 in
    let outside = c.in_err-size.ensures.refused in
    let is : WindowCalled a.book.now a.lg a.window.now a.out.now (told why) a.out.now =
    window_outside a.book.now a.lg a.window.now a.out.now why outside.1 (ap told outside.0) in
    search rules

pub returns-then-window-size : goal.returns-then-window-size
returns-then-window-size c = let a = c.args in
    window_other a.book.now a.lg a.window.now a.out.now _ (sized (goal.at.returns-then-window-size c).In_ok-size) c.if-window-size.true

pub returns-in_err-book : goal.returns-in_err-book
returns-in_err-book c = let a = c.args in
    let why = c.in_err-book.field-0.0 in
    let is : WindowCalled a.book.now a.lg a.window.now a.out.now (told why) a.out.now =
    window_wrong a.book.now a.lg a.window.now a.out.now _ (sized (goal.at.returns-in_err-book c).In_ok-size) c.if-window-size.false why c.in_err-book.ensures.told in
    search rules

pub invariant_of-window : goal.invariant_of-window
invariant_of-window c = let at = sized (goal.at.invariant_of-window c).In_ok-size in
    record { even = ap (λ (x : ℕ). x % 2) c.if-window-size.false ∙ even_rows at; few = omega (arith, c.if-window-size.false, at.most) }

pub returns : goal.returns
returns c = let a = c.args in
    window_called a.book.now a.lg a.window.now a.out.now _ (sized (goal.at.returns c).In_ok-size) c.if-window-size.false
    c.in_ok-book.book.entries.now c.write.new.out c.write.result c.in_ok-book.ensures.same c.in_ok-book.ensures.told c.write.ensures
