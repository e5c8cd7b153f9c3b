-- `compression::book::whole_book` meets its contract. Assumes nothing.
use mathlib.Core.Path.{◌≡◌, sym, subst}
use borrow.Author.Rules.{rules}
use lib.ListN.{length}
use Rattle.books.specs.Steps.{AllShaped}
use Rattle.books.proofs.Accepted.{book_accepted}
use Rattle.compression.proofs.book.whole_book.Goals as goal

pub invariant_of-result : goal.invariant_of-result
invariant_of-result g c = let same : c.in-Ok.entries.now ≡ c.args.book.now = search rules in
    let long : length c.args.book.now ≡ g.row.SYMBOLS = search rules in
    record {
      shaped = subst AllShaped (sym same) (book_accepted c.args.book.now (sym c.in_ok-check_book.ensures)).1;
      sized = rw same long;
    }
