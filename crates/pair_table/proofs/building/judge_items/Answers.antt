-- `pair_table::building::judge_items` meets its contract. Assumes nothing.
use mathlib.Core.Path.{◌≡◌, refl, ap, ◌∙◌}
use mathlib.Core.Bool.{not, true}
use mathlib.Core.List.{[]}
use native.Mathlib.Omega.{arith}
use Rattle.std.specs.Prelude.{Result, Ok, Err, ⊤, is_ok}
use Rattle.refusals.specs.Outcome.{accepted}
use Rattle.refusals.specs.Told.{told_plain}
use Rattle.refusals.specs.declared.Refusal.{Refusal}
use Rattle.pair_table.proofs.RisingLists.{highest_fine}
use Rattle.pair_table.proofs.building.judge_items.Goals as goal

passed : (r : Result ⊤ Refusal) → is_ok r ≡ true → accepted [] ≡ told_plain r
passed (Ok _) e = refl
passed (Err why) e = cc

pub returns : goal.returns
returns c = let a = c.args in
    highest_fine a.valid c.highest.result a.list.now c.highest.ensures (omega arith) (passed c.judge_item.result (c.is_err.ensures.negation ∙ ap not c.if-is_err.false) ∙ c.judge_item.ensures)
