-- `unions::splitting::list_row` meets its contract. Assumes nothing.
use mathlib.Core.Path.{◌≡◌, sym, ap, subst, ◌∙◌}
use Prim.Native.Nat.{ℕ, ◌+◌, ◌*◌, ◌^◌, ◌%◌, ◌<◌}
use native.Mathlib.Omega.{arith}
use lib.Bits.{bit_xor}
use lib.Count.{count_trailing_zeros}
use lib.ListN.{length, set}
use Rattle.laws.proofs.Shifts.{one_shl}
use Rattle.laws.proofs.Trailing.{trailing_lt}
use Rattle.matrices.proofs.ListTurn.{Listed, list_room, list_less, list_turn, list_end, list_length}
use Rattle.unions.proofs.splitting.list_row.Goals.{At-loop-rest, In-loop-rest}
use Rattle.unions.proofs.splitting.list_row.Goals as goal

pos : (c : In-loop-rest) → 0 < c.loop-rest.rest
pos c = omega arith

low : (c : In-loop-rest) → count_trailing_zeros 64 c.loop-rest.rest < 64
low c = trailing_lt 64 c.loop-rest.rest c.loop-rest.invariant.fits (pos c)

room : (c : In-loop-rest) → c.loop-rest.i < length c.args.out.now
room c = let l = c.loop-rest in
    let s = c.args in
    list_room s.row s.w s.n s.out.now l.out l.rest l.i l.invariant (pos c)

long : (c : At-loop-rest) → length c.loop-rest.out ≡ length c.args.out.now
long c = let s = c.args in
    list_length s.row s.w s.n s.out.now c.loop-rest.out c.loop-rest.rest c.loop-rest.i c.loop-rest.invariant

pub bounds-out-i : goal.bounds-out-i
bounds-out-i c = omega (arith, room (goal.at.bounds-out-i c).In-loop-rest, long (goal.at.bounds-out-i c).At-loop-rest)

pub loop-rest-smaller : goal.loop-rest-smaller
loop-rest-smaller c = let l = c.loop-rest in
    let s = c.args in
    rw (ap (λ (x : ℕ). 1 * 2 ^ x % 2 ^ 64) c.from-c.ensures ∙ one_shl (count_trailing_zeros 64 l.rest) (low (goal.at.loop-rest-smaller c).In-loop-rest)) (list_less s.row s.w s.n s.out.now l.out l.rest l.i l.invariant (pos (goal.at.loop-rest-smaller c).In-loop-rest))

pub loop-rest-preserved : goal.loop-rest-preserved
loop-rest-preserved c = let l = c.loop-rest in
    let s = c.args in
    subst (λ (x : ℕ). Listed s.row s.w s.n s.out.now (set l.out l.i (64 * s.row + x)) (bit_xor l.rest (1 * 2 ^ x % 2 ^ 64)) (l.i + 1)) (sym c.from-c.ensures)
    (subst
    (λ (x : ℕ). Listed s.row s.w s.n s.out.now (set l.out l.i (64 * s.row + count_trailing_zeros 64 l.rest)) (bit_xor l.rest x) (l.i + 1))
    (sym (one_shl (count_trailing_zeros 64 l.rest) (low (goal.at.loop-rest-preserved c).In-loop-rest))) (list_turn s.row s.w s.n s.out.now l.out l.rest l.i l.invariant (pos (goal.at.loop-rest-preserved c).In-loop-rest)))

pub returns : goal.returns
returns c = let l = c.loop-rest in
    let s = c.args in
    list_end s.row s.w s.n s.out.now l.out l.i (subst (λ (x : ℕ). Listed s.row s.w s.n s.out.now l.out x l.i) c.loop-rest-test.false l.invariant)
