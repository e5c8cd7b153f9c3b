-- `books::book::SizedBook::judge` meets its contract. Assumes nothing.
use mathlib.Core.Path.{◌≡◌}
use borrow.Author.Rules.{rules}
use Rattle.refusals.specs.Told.{told}
use Rattle.books.specs.Book.{one_symbol_each}
use Rattle.books.specs.Calls.{judged}
use Rattle.books.proofs.Verdicts.{first_refused}
use Rattle.books.proofs.book.SizedBook.judge.Goals as goal

pub returns-in_err-whole-clause-told : goal.returns-in_err-whole-clause-told
returns-in_err-whole-clause-told c =
    let b = c.args.self.entries.now in
    let why = c.in_err-whole.field-0.0 in
    let same : told why ≡ judged b (one_symbol_each b) = first_refused b (one_symbol_each b) why (λ e. e) c.in_err-whole.ensures.told in
    search rules
