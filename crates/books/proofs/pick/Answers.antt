-- `books::pick` meets its contract. Assumes nothing.
use native.Mathlib.Omega.{arith}
use mathlib.Core.Path.{◌≡◌}
use Prim.Native.Nat.{◌*◌, ◌≤◌}
use lib.ListN.{length}
use Rattle.books.proofs.Picking.{picked_at, handed}
use Rattle.books.proofs.pick.Goals.{In-Ok}
use Rattle.books.proofs.pick.Goals as goal

-- where the pick is accepted, the part lies within the set
found : (c : In-Ok) → (length c.args.set.now ≡ 5632) × (c.args.phase ≤ 21) × (c.in-Ok.start ≡ c.args.phase * 256)
found c = picked_at c.args.set.now c.args.phase c.in-Ok.start c.in-Ok.ensures

pub overflow_add-result : goal.overflow_add-result
overflow_add-result c = let f = found (goal.at.overflow_add-result c).In-Ok in omega (arith, f.1, f.2)

pub offset_bounds-set-start : goal.offset_bounds-set-start
offset_bounds-set-start c = let f = found (goal.at.offset_bounds-set-start c).In-Ok in omega (arith, f.1, f.2)

pub slice_bounds-result-end : goal.slice_bounds-result-end
slice_bounds-result-end c = let f = found (goal.at.slice_bounds-result-end c).In-Ok in omega (arith, f.0, f.1, f.2)

pub returns-in-Ok : goal.returns-in-Ok
returns-in-Ok c = handed c.args.set.now c.args.phase c.in-Ok.start c.in-Ok.ensures
