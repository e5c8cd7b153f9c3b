-- `pair_table::region::Region::is_placed` meets its contract. Assumes nothing.
use mathlib.Core.Path.{◌≡◌, sym, ◌∙◌}
use lib.ListN.{get_or}
use borrow.Author.Tests.{eqb-true, eqb-false}
use Rattle.tables.specs.Slots.{spot}
use Rattle.tables.proofs.Laws.{says_yes, says_no}
use Rattle.tables.proofs.Paths.{run_placed}
use Rattle.pair_table.proofs.region.Region.is_placed.Goals as goal

pub returns-then-not-below : goal.returns-then-not-below
returns-then-not-below c = says_no (λ w. c.below.ensures.fails c.if-not-below.true w.small)

pub returns-then-dist-row : goal.returns-then-dist-row
returns-then-dist-row c = let r = c.args.self in
    let row = c.args.row in
    let h = c.home-home in
    says_yes (run_placed r.slots.now r.shape.lg r.shape.valid row.end row.len row.top c.dist.result c.requires.1
    (rw h.ensures.0 at h.ensures.1) c.dist.ensures.0 (rw h.ensures.0 at c.dist.ensures.1) (c.below.ensures.holds c.if-not-below.false) c.if-dist-row.true c.if-row-value.true)

pub returns : goal.returns
unfolding spot
returns c = let r = c.args.self in
    let e : c.seek.result ≡ spot r.slots.now r.shape.lg r.shape.valid (get_or r.slots.now c.args.row.end 0) = rw c.home-home.ensures.0 at c.seek.ensures.0 in
    record {
      holds = λ t. record { small = c.below.ensures.holds c.if-not-below.false; found = sym e ∙ eqb-true _ _ t };
      fails = λ t w. eqb-false _ _ t (e ∙ w.found);
    }
