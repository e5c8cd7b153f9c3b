-- `books::decoding::is_table` meets its contract. Assumes nothing.
use mathlib.Core.Path.{sym, subst}
use mathlib.Core.Bool.{◌&&◌}
use Rattle.laws.proofs.Truths.{never_true}
use Rattle.books.specs.Book.{one_symbol_each}
use Rattle.books.specs.Table.{is_table_of}
use Rattle.books.specs.Steps.{Decides, Stands, AllRepeat}
use Rattle.books.proofs.Deciding.{decides_is}
use Rattle.books.proofs.Repeating.{table_passes, table_stands, table_repeats}
use Rattle.books.proofs.decoding.is_table.Goals as goal

pub returns-then-not-stands : goal.returns-then-not-stands
returns-then-not-stands c = let b = c.args.book in
    let t = c.args.table.now in
    let failed = subst (Decides (Stands b.entries.now t)) c.if-not-stands.true c.stands.ensures in
    sym (never_true (one_symbol_each b.entries.now && is_table_of b.entries.now t) (λ e. failed (table_stands b.entries.now t b.short b.shaped e)))

pub returns : goal.returns
returns c = let b = c.args.book in
    let t = c.args.table.now in
    let standing = subst (Decides (Stands b.entries.now t)) c.if-not-stands.false c.stands.ensures in
    decides_is (AllRepeat t) c.repeats.result (one_symbol_each b.entries.now && is_table_of b.entries.now t) c.repeats.ensures
    (λ all. table_passes b.entries.now t b.short b.shaped standing all b.whole)
    (table_repeats b.entries.now t b.short b.shaped)
