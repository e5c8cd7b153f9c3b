-- `compression::pair_reader::judge` meets its contract. Assumes nothing.
use mathlib.Core.Path.{◌≡◌, refl, ap}
use Prim.Native.Nat.{ℕ, ◌+◌}
use native.Mathlib.Omega.{arith}
use Rattle.streams.specs.Written.{predicted}
use Rattle.compression.proofs.ReadingSteps.{judged_7, judged_8, judged_9, judged_10}
use Rattle.compression.proofs.pair_reader.judge.Goals.{After-predict}
use Rattle.compression.proofs.pair_reader.judge.Goals as goal

-- the column, as the definition has it
column_at : (c : After-predict) → c.predict.result + c.args.steps.across
    ≡ predicted c.args.steps.down c.args.before.column + c.args.steps.across
column_at c = ap (λ (x : ℕ). x + c.args.steps.across) c.predict.ensures.0

pub returns-then-steps-ge4294967296 : goal.returns-then-steps-ge4294967296
returns-then-steps-ge4294967296 c = let a = c.args in
    (record { number = 7; bit = a.bit; is = judged_7 a.size.k a.before.row a.before.column a.steps.across a.steps.down a.bit (omega arith); told_as = refl }, tt)

pub returns-then-size-row : goal.returns-then-size-row
returns-then-size-row c = let a = c.args in
    let is = judged_8 a.size.k a.before.row a.before.column a.steps.across a.steps.down a.bit (omega arith) (omega arith) in
    (record { number = 8; bit = a.bit; is = is; told_as = refl }, tt)

pub returns-then-column-ge64 : goal.returns-then-column-ge64
returns-then-column-ge64 c = let a = c.args in
    let is =
    judged_9 a.size.k a.before.row a.before.column a.steps.across a.steps.down a.bit _ (column_at (goal.at.returns-then-column-ge64 c).After-predict) (omega arith) (omega arith) (omega arith) in
    (record { number = 9; bit = a.bit; is = is; told_as = refl }, tt)

pub returns-then-pair-eq4294967295 : goal.returns-then-pair-eq4294967295
returns-then-pair-eq4294967295 c = let a = c.args in
    let is =
    judged_10 a.size.k a.before.row a.before.column a.steps.across a.steps.down a.bit _ (column_at (goal.at.returns-then-pair-eq4294967295 c).After-predict) (omega arith) (omega arith) (omega arith) (omega arith) in
    (record { number = 10; bit = a.bit; is = is; told_as = refl }, tt)
