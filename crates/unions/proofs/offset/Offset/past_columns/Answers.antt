-- `unions::judging::past_columns` meets its contract. Assumes nothing.
use mathlib.Core.Path.{sym, ap, ◌∙◌}
use mathlib.Core.Bool.{not}
use Prim.Native.Nat.{ℕ, ◌-◌, ◌/◌, ◌^◌}
use lib.Dec.{eqb}
use native.Mathlib.Omega.{arith}
use Rattle.matrices.proofs.Places.{past_shift}
use Rattle.unions.proofs.offset.Offset.past_columns.Goals as goal

pub returns : goal.returns
returns c = ap (λ (b : ℕ). not (eqb (b / 2 ^ (64 - c.args.self.column)) 0)) c.from.ensures ∙ sym (past_shift c.args.self.column c.args.byte c.ranges.byte.fits (omega arith))
