-- `unions::parts::Parts::judge` meets its contract. Assumes nothing.
use mathlib.Core.Path.{sym}
use Rattle.unions.proofs.JudgedTold.{rises, rows_below, stands_apart}
use Rattle.unions.proofs.parts.Parts.judge.Goals as goal

pub invariant_of-result : goal.invariant_of-result
invariant_of-result c = let p = c.args.self in
    let e = sym c.in_ok-check.ensures in
    record { long = p.long; sorted = rises p e; below = rows_below p e; apart = stands_apart p e }
