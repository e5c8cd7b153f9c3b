-- `reporting::deciding::write` meets its contract. Assumes nothing.
use borrow.Author.Rules.{rules}
use mathlib.Core.Path.{◌≡◌}
use Rattle.refusals.specs.Told.{told}
use Rattle.reporting.specs.Calls.{told_decision, decided_as, written_of}
use Rattle.reporting.proofs.Numbered.{written_refused, written_told}
use Rattle.reporting.proofs.deciding.write.Goals as goal

pub returns-in_err-length : goal.returns-in_err-length
returns-in_err-length c =
    let a = c.args in
    let why = c.in_err-length.field-0.0 in
    let whole : decided_as (told why) c.write_pairs.new.out ≡ written_of a.lg a.pairs.now a.stream.now =
    written_refused c.pair_book-book.result a.lg a.pairs.now a.stream.now c.write_pairs.new.out c.pair_book-book.ensures c.write_pairs.ensures.1 why c.in_err-length.ensures.0 in
    search rules

pub returns : goal.returns
returns c = let a = c.args in
    written_told c.pair_book-book.result a.lg a.pairs.now a.stream.now c.write_pairs.new.out c.pair_book-book.ensures c.write_pairs.ensures.1
    c.in_ok-length.length (told_decision c.number.result) c.in_ok-length.ensures.0 c.number.ensures
