-- `unions::block::Block::list` meets its contract. Assumes nothing.
use mathlib.Core.Path.{◌≡◌, sym, ap, ◌∙◌, subst}
use Prim.Native.Nat.{ℕ, ◌+◌, ◌*◌, ◌%◌, ◌^◌, ◌<◌}
use native.Mathlib.Omega.{arith}
use lib.Bits.{bit_or, bit_xor}
use lib.Count.{count_trailing_zeros}
use lib.ListN.{length}
use lib.Seq.{paste}
use Rattle.laws.proofs.Shifts.{one_shl}
use Rattle.matrices.specs.Shapes.{row_pairs}
use Rattle.matrices.proofs.Listed.{row_first}
use Rattle.unions.proofs.Blocks.{HitsListed, lowest_lt, hits_start, hits_room, hits_turn, hits_end}
use Rattle.matrices.specs.Parts.{windowed}
use Rattle.unions.proofs.block.Block.list.Goals.{In-loop-rest}
use Rattle.unions.proofs.block.Block.list.Goals as goal

pos : (c : In-loop-rest) → 0 < c.loop-rest.rest
pos c = omega arith

low : (c : In-loop-rest) → count_trailing_zeros 64 c.loop-rest.rest < 8
low c = lowest_lt c.loop-rest.rest c.loop-rest.invariant.1.fits (pos c)

-- the lowest column, as the machine shifts it
shifted : (c : In-loop-rest) → 1 * 2 ^ count_trailing_zeros 64 c.loop-rest.rest % 2 ^ 64 ≡ 2 ^ count_trailing_zeros 64 c.loop-rest.rest
shifted c = one_shl (count_trailing_zeros 64 c.loop-rest.rest) (omega (arith, low c))

pub loop-rest-init : goal.loop-rest-init
loop-rest-init c = let a = c.args in (
  omega arith,
  subst (λ (x : ℕ). HitsListed (windowed a.self.cut.shape.flavor) a.self.cut.shape.offset.column a.self.cut.words.now a.self.first a.before a.out.now x a.before a.out.now)
      (sym c.hit_rows-rest.ensures) (hits_start (windowed a.self.cut.shape.flavor) a.self.cut.shape.offset.column a.self.cut.words.now a.self.first a.before a.out.now),
)

pub surprises-s-requires : goal.surprises-s-requires
surprises-s-requires c = omega (arith, low (goal.at.surprises-s-requires c).In-loop-rest, c.args.self.within)

pub list_row-n-requires : goal.list_row-n-requires
list_row-n-requires c = let s = c.surprises-s in
    let l = c.loop-rest in
    let a = c.args in
    let room = hits_room (windowed a.self.cut.shape.flavor) a.self.cut.shape.offset.column a.self.cut.words.now a.self.first a.before a.out.now l.rest (record { ored = l.ored; count = l.n }) l.out l.invariant.1 (pos (goal.at.list_row-n-requires c).In-loop-rest) c.requires in (
      omega (arith, low (goal.at.list_row-n-requires c).In-loop-rest, c.args.self.within, a.self.cut.rows, a.self.cut.shape.size.most),
      omega (arith, ap (λ (w : ℕ). length (row_pairs (a.self.first + count_trailing_zeros 64 l.rest) w)) s.ensures, l.invariant.0),
    )

pub loop-rest-smaller : goal.loop-rest-smaller
loop-rest-smaller c = let l = c.loop-rest in
    rw (shifted (goal.at.loop-rest-smaller c).In-loop-rest) (omega (arith, ap length (row_first 0 l.rest (omega (arith, l.invariant.1.fits)) (pos (goal.at.loop-rest-smaller c).In-loop-rest))))

pub loop-rest-preserved : goal.loop-rest-preserved
loop-rest-preserved c = let w = c.list_row-n in
    let s = c.surprises-s in
    let l = c.loop-rest in
    let a = c.args in
    let m = a.self.cut.words.now in
    let j = count_trailing_zeros 64 l.rest in
    let t = hits_turn (windowed a.self.cut.shape.flavor) a.self.cut.shape.offset.column m a.self.first a.before a.out.now l.rest (record { ored = l.ored; count = l.n }) l.out l.invariant.1 (pos (goal.at.loop-rest-preserved c).In-loop-rest) w.result w.new.out
    (a.self.cut.fits (a.self.first + j))
    (w.ensures.0 ∙ ap (λ (y : ℕ). l.n + length (row_pairs (a.self.first + j) y)) s.ensures)
    (w.ensures.1 ∙ ap (λ (y : ℕ). paste l.out l.n (row_pairs (a.self.first + j) y) (length (row_pairs (a.self.first + j) y))) s.ensures) in (
      w.auto.out ∙ l.invariant.0,
      subst (λ (x : ℕ). HitsListed (windowed a.self.cut.shape.flavor) a.self.cut.shape.offset.column m a.self.first a.before a.out.now (bit_xor l.rest x) (record { ored = bit_or l.ored s.result; count = w.result }) w.new.out)
          (sym (shifted (goal.at.loop-rest-preserved c).In-loop-rest))
          (subst (λ (y : ℕ). HitsListed (windowed a.self.cut.shape.flavor) a.self.cut.shape.offset.column m a.self.first a.before a.out.now (bit_xor l.rest (2 ^ j)) (record { ored = bit_or l.ored y; count = w.result }) w.new.out)
          (sym s.ensures) t),
    )

pub returns : goal.returns
returns c = let l = c.loop-rest in
    let a = c.args in
    hits_end (windowed a.self.cut.shape.flavor) a.self.cut.shape.offset.column a.self.cut.words.now a.self.first a.before a.out.now (record { ored = l.ored; count = l.n }) l.out
    (subst (λ (x : ℕ). HitsListed (windowed a.self.cut.shape.flavor) a.self.cut.shape.offset.column a.self.cut.words.now a.self.first a.before a.out.now x (record { ored = l.ored; count = l.n }) l.out) c.loop-rest-test.false l.invariant.1)
