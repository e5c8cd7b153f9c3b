-- `books::marks::pattern` meets its contract. Assumes nothing.
use native.Mathlib.Omega.{arith}
use mathlib.Core.Path.{sym, subst}
use Prim.Native.Nat.{ℕ, ◌+◌, ◌*◌, ◌%◌, ◌^◌, ◌<◌}
use lib.Bits.{bit_or}
use lib.Pow.{pow_mono}
use Rattle.laws.proofs.Shifts.{one_shl}
use Rattle.books.proofs.Patterns.{Pattern, pattern_start, pattern_turn, pattern_end}
use Rattle.books.proofs.marks.pattern.Goals.{Start}
use Rattle.books.proofs.marks.pattern.Goals as goal

few : (c : Start) → c.args.codeword < 64
few c = omega (arith, c.requires.1, pow_mono {i = c.args.len} {j = 6} c.requires.0)

pub overflow_shl-word : goal.overflow_shl-word
overflow_shl-word c = few (goal.at.overflow_shl-word c).Start

pub loop-bits-init : goal.loop-bits-init
loop-bits-init c = subst (λ (w : ℕ). Pattern c.args.len c.args.codeword w c.args.len) (sym (one_shl c.args.codeword (few (goal.at.loop-bits-init c).Start)))
    (pattern_start c.args.len c.args.codeword c.requires.0 c.requires.1)

pub overflow_shl-word-in-loop-bits-2 : goal.overflow_shl-word-in-loop-bits-2
overflow_shl-word-in-loop-bits-2 c = let b : ℕ = c.loop-bits.bits in
    omega (arith, one_shl b (omega arith), pow_mono {i = b} {j = 5} (omega arith))

pub loop-bits-preserved : goal.loop-bits-preserved
loop-bits-preserved c = let a = c.args in
    subst (λ (s : ℕ). Pattern a.len a.codeword (bit_or c.loop-bits.word (c.loop-bits.word * 2 ^ s % 2 ^ 64)) (c.loop-bits.bits + 1))
    (sym (one_shl c.loop-bits.bits (omega arith)))
    (pattern_turn a.len a.codeword c.loop-bits.word c.loop-bits.bits c.loop-bits.invariant (omega arith))

pub returns : goal.returns
returns c = let a = c.args in
    pattern_end a.len a.codeword c.loop-bits.word c.loop-bits.bits c.loop-bits.invariant (omega arith)
