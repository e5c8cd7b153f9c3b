-- `pair_lists::all_lawful` meets its contract: the last pair decides. Assumes nothing.
use mathlib.Core.Path.{sym, ap, ◌∙◌}
use native.Mathlib.Omega.{arith}
use Rattle.std.specs.Prelude.{option_copied}
use Rattle.pair_lists.proofs.RisingPairs.{no_last, last_decides}
use Rattle.pair_lists.proofs.all_lawful.Goals as goal

pub returns-in_default : goal.returns-in_default
returns-in_default c _ = no_last _ _ (sym c.last.ensures.value ∙ ap option_copied c.in_default.is)

pub returns : goal.returns
returns c e =
    let is = sym c.last.ensures.value ∙ ap option_copied c.in-Some.is in
    last_decides _ _ _ is (c.type_inv.pairs _).fits (omega arith) c.if-last.false (c.all_rise.ensures e)
