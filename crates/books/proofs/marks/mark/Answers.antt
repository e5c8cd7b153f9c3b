-- `books::marks::mark` meets its contract. Assumes nothing.
use native.Mathlib.Omega.{arith}
use borrow.Author.Rules.{rules}
use mathlib.Core.Path.{◌≡◌, sym, ap, subst}
use Prim.Native.Nat.{ℕ, ◌+◌, ◌*◌, ◌/◌, ◌%◌, ◌^◌, ◌≤◌}
use lib.Bits.{bit_or}
use lib.ListN.{get_or, set}
use lib.Pow.{pow_mono}
use Rattle.laws.proofs.Shifts.{one_shl}
use Rattle.books.specs.Steps.{Marked}
use Rattle.books.proofs.Marking.{mark_short, mark_long}
use Rattle.books.proofs.marks.mark.Goals.{Else-len-lt7}
use Rattle.books.proofs.marks.mark.Goals as goal

at_is : (c : Else-len-lt7) → 1 * 2 ^ c.args.len % 2 ^ 64 ≡ 2 ^ c.args.len
at_is c = one_shl c.args.len (omega arith)

at_most : (c : Else-len-lt7) → 2 ^ c.args.len ≤ 4096
at_most c = pow_mono {i = c.args.len} {j = 12} c.requires.0

pub returns-then-len-lt7 : goal.returns-then-len-lt7
returns-then-len-lt7 c = mark_short c.args.marks.now c.args.len c.args.codeword c.pattern.result (omega arith) (search rules) c.pattern.ensures

pub bounds-marks-at : goal.bounds-marks-at
bounds-marks-at c = omega (arith, at_is (goal.at.bounds-marks-at c).Else-len-lt7, at_most (goal.at.bounds-marks-at c).Else-len-lt7)

pub bounds-marks-at-2 : goal.bounds-marks-at-2
bounds-marks-at-2 c = omega (arith, at_is (goal.at.bounds-marks-at-2 c).Else-len-lt7, at_most (goal.at.bounds-marks-at-2 c).Else-len-lt7)

pub returns : goal.returns
returns c = let m = c.args.marks.now in
    let at : ℕ = 1 * 2 ^ c.args.len % 2 ^ 64 + c.args.codeword in
    subst (λ (b : ℕ). Marked m (set m (at / 64) (bit_or (get_or m (at / 64) 0) b)) c.args.len c.args.codeword) (sym (one_shl (at % 64) (omega arith)))
    (mark_long m c.args.len c.args.codeword at (ap (λ (p : ℕ). p + c.args.codeword) (at_is (goal.at.returns c).Else-len-lt7)) (search rules) (omega arith) c.requires.0 c.requires.1)
