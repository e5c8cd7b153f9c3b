-- `compression::pair_reader::PairReader::next_pair` meets its contract. Assumes nothing.
use mathlib.Core.Path.{◌≡◌, refl, sym, ap, ◌∙◌, subst}
use Rattle.compression.specs.Reading.{Stands, judged_step, pair_is}
use Rattle.compression.proofs.ReadingSteps.{stepped_as, cursor_as}
use Rattle.compression.proofs.pair_reader.PairReader.next_pair.Goals as goal

pub returns-in-Err : goal.returns-in-Err
returns-in-Err c = let a = c.args in (
  record {
    number = 6;
    bit = c.in-Err.cut.bit;
    is = λ book holds. c.in-Err.ensures book holds a.self.size.k a.state.before.row a.state.before.column;
    told_as = refl;
  },
  tt,
)

pub returns-in-Ok : goal.returns-in-Ok
returns-in-Ok c = let a = c.args in
    let s = a.self.coded.bytes.now in
    let k = a.self.size.k in
    let from = a.state.before in
    let steps = c.in-Ok.steps in
    let taken = c.in-Ok.ensures in (
      stepped_as k a.place (λ step. judged_step k from.row from.column steps.across steps.down c.bit.result ≡ step)
          (pair_is s a.self.coded.table.now a.self.base.count k a.state)
          (λ step is book holds.
          taken.0 book holds k from.row from.column
          ∙ ap (judged_step k from.row from.column steps.across steps.down) (sym c.bit.ensures) ∙ is) c.judge.result c.judge.ensures.0,
      cursor_as (λ after. after ≡ steps.last) (Stands s) (λ after e. subst (Stands s) (sym e) taken.1) c.judge.result c.judge.ensures.1,
    )
