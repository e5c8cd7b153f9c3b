-- `books::marks::covers` meets its contract. Assumes nothing.
use Rattle.books.specs.Book.{one_symbol_each}
use Rattle.books.specs.Steps.{Full}
use Rattle.books.proofs.Deciding.{decides_is}
use Rattle.books.proofs.Marking.{unmarked}
use Rattle.books.proofs.Spreading.{full_passes, passes_full}
use Rattle.books.proofs.marks.covers.Goals as goal

pub mark_all-requires : goal.mark_all-requires
mark_all-requires c = unmarked

pub returns : goal.returns
returns c = let b = c.args.book in
    let marks = c.mark_all.new.marks in
    let after = c.spread.new.marks in
    decides_is (Full after) c.all_marked.result (one_symbol_each b.entries.now) c.all_marked.ensures
    (full_passes b.entries.now marks after b.shaped c.mark_all.ensures c.spread.ensures b.whole)
    (passes_full b.entries.now marks after b.shaped c.mark_all.ensures c.spread.ensures)
