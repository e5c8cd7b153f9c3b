-- What a judged list of pairs is: increasing, below 64·k, and without the reserved number. Assumes nothing.
use mathlib.Core.Path.{◌≡◌}
use mathlib.Core.Bool.{false, not}
use mathlib.Core.List.{List, [], ◌∷◌}
use Prim.Native.Nat.{ℕ, zero, suc, ◌*◌, ◌/◌, ◌≤◌, ◌<◌}
use native.Mathlib.Nat.{not-suc-le-zero, le_of_suc-le-suc}
use native.Mathlib.Omega.{arith}
use borrow.Author.Tests.{ne_eqb, ltb-true, ltb-false, eqb-false, not-false}
use lib.Dec.{eqb, ltb}
use lib.ListN.{length, get_or}
use Rattle.laws.proofs.Any.{any_none}
use Rattle.refusals.specs.Outcome.{accepted}
use Rattle.refusals.proofs.Refusing.{took}
use Rattle.pair_lists.specs.Lists.{judged_from, pairs_judged}
use Rattle.matrices.specs.Listing.{in_list}
use Rattle.matrices.specs.Shapes.{Sorted}

-- an accepted chain of judgements, pair by pair: each is lawful, and the others come after it
pub record Pair (k least pair : ℕ) : Type 0 where
  pub row : pair / 64 < k
  pub above : least ≤ pair
  pub lawful : pair ≡ 4294967295 → ⊥

head : (k place least pair : ℕ) (more : List ℕ) → judged_from k place least (pair ∷ more) ≡ accepted [] → Pair k least pair × (judged_from k (suc place) (suc pair) more ≡ accepted [])
unfolding judged_from
head k place least pair more e =
    let a = took (not (ltb (pair / 64) k)) _ 8 place [] e in
    let b = took (ltb pair least) _ 11 place [] a.1 in
    let c = took (eqb pair 4294967295) _ 10 place [] b.1 in
    (record { row = ltb-true (pair / 64) k (not-false (ltb (pair / 64) k) a.0); above = ltb-false pair least b.0; lawful = eqb-false pair 4294967295 c.0 }, c.1)

each : (k place least : ℕ) (pairs : List ℕ) → judged_from k place least pairs ≡ accepted [] → (i : ℕ) → i < length pairs → Pair k least (get_or pairs i 0)
each k place least [] e i h = absurd (not-suc-le-zero h)
each k place least (pair ∷ more) e zero h = (head k place least pair more e).0
each k place least (pair ∷ more) e (suc i) h =
    let t = head k place least pair more e in
    let p = each k (suc place) (suc pair) more t.1 i (le_of_suc-le-suc h) in
    record { row = p.row; above = omega (arith, t.0.above, p.above); lawful = p.lawful }

rising : (k place least : ℕ) (pairs : List ℕ) → judged_from k place least pairs ≡ accepted [] → (i j : ℕ) → i < j → j < length pairs → get_or pairs i 0 < get_or pairs j 0
rising k place least [] e i j l h = absurd (not-suc-le-zero h)
rising k place least (pair ∷ more) e i zero l h = absurd (not-suc-le-zero l)
rising k place least (pair ∷ more) e zero (suc j) l h = (each k (suc place) (suc pair) more (head k place least pair more e).1 j (le_of_suc-le-suc h)).above
rising k place least (pair ∷ more) e (suc i) (suc j) l h =
    rising k (suc place) (suc pair) more (head k place least pair more e).1 i j (le_of_suc-le-suc l) (le_of_suc-le-suc h)

module _ (k : ℕ) (pairs : List ℕ) (e : pairs_judged k pairs ≡ accepted []) where
  -- it is increasing
  pub judged_sorted : Sorted pairs
  judged_sorted = record { less = rising k 0 0 pairs e }

  -- its rows are below k
  pub judged_row : (i : ℕ) → i < length pairs → get_or pairs i 0 / 64 < k
  judged_row i h = (each k 0 0 pairs e i h).row

  -- and its pairs below 64·k
  pub judged_below : (i : ℕ) → i < length pairs → get_or pairs i 0 < 64 * k
  judged_below i h = omega (arith, judged_row i h)

  -- the reserved number is not in the list
  pub judged_lawful : in_list pairs 4294967295 ≡ false
  unfolding in_list
  judged_lawful = any_none (length pairs) (λ i. eqb (get_or pairs i 0) 4294967295) (λ i h. ne_eqb (get_or pairs i 0) 4294967295 (each k 0 0 pairs e i h).lawful)
