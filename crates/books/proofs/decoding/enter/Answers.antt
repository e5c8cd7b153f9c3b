-- `books::decoding::enter` meets its contract. Assumes nothing.
use native.Mathlib.Omega.{arith}
use mathlib.Core.Path.{◌≡◌, sym, refl, subst}
use Prim.Native.Nat.{ℕ, ◌+◌, ◌*◌, ◌/◌, ◌%◌, ◌^◌}
use lib.ListN.{set}
use Rattle.laws.proofs.Shifts.{one_shl}
use Rattle.books.specs.Book.{length_in}
use Rattle.books.proofs.Filling.{Entering, entering_start, entering_turn, entering_end}
use Rattle.books.proofs.decoding.enter.Goals as goal

pub loop-n-init : goal.loop-n-init
loop-n-init c = subst (Entering c.args.table.now c.args.table.now c.args.entry c.entry_of-value.result (2 ^ length_in c.args.entry)) (sym c.from-first.ensures)
    (entering_start c.args.table.now c.args.entry c.entry_of-value.result _ c.requires.2 refl)

pub loop-n-preserved : goal.loop-n-preserved
loop-n-preserved c =
    let step : 1 * 2 ^ (c.args.entry / 4096) % 2 ^ 64 ≡ 2 ^ length_in c.args.entry = one_shl _ (omega (arith, c.requires.2.most)) in
    subst (λ (n : ℕ). Entering c.args.table.now (set c.loop-n.table c.loop-n.n c.entry_of-value.result) c.args.entry c.entry_of-value.result (2 ^ length_in c.args.entry) (c.loop-n.n + n))
    (sym step) (entering_turn _ c.loop-n.table _ _ _ c.loop-n.n c.loop-n.invariant (omega arith))

pub returns : goal.returns
returns c = entering_end c.args.table.now c.loop-n.table c.args.entry c.args.x c.entry_of-value.result (2 ^ length_in c.args.entry) c.loop-n.n
    c.loop-n.invariant c.loop-n-test.false refl c.entry_of-value.ensures

-- the entry stands at the last of its numbers
pub returns-2 : goal.returns-2
returns-2 c =
    let step : 1 * 2 ^ (c.args.entry / 4096) % 2 ^ 64 ≡ 2 ^ length_in c.args.entry = one_shl _ (omega (arith, c.requires.2.most)) in
    let last = entering_turn _ c.loop-n.table _ _ _ c.loop-n.n c.loop-n.invariant (omega arith) in
    entering_end c.args.table.now _ c.args.entry c.args.x c.entry_of-value.result (2 ^ length_in c.args.entry) _ last (omega (arith, step)) refl c.entry_of-value.ensures
