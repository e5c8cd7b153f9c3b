-- A sketch, merged into a new union of its own lg_k and split again, is the same sketch. Assumes nothing.
use mathlib.Core.Path.{◌≡◌, refl, sym, ap, ◌∙◌, subst}
use mathlib.Core.Logic.{⊎_elim}
use mathlib.Core.Bool.{Bool, false}
use mathlib.Core.List.{List, [], ◌∷◌, ◌++◌}
use Prim.Native.Nat.{ℕ, ◌+◌, ◌*◌, ◌^◌, ◌≤◌, ◌<◌}
use native.Mathlib.Omega.{arith}
use borrow.Author.Tests.{eq-eqb}
use lib.ListN.{length, get_or, drop, replicate, length-replicate}
use Rattle.laws.specs.Below.{any_below}
use Rattle.laws.specs.Choose.{choose}
use Rattle.laws.proofs.Orders.{same_or_not}
use Rattle.refusals.specs.Outcome.{Outcome, accepted, if_accepted}
use Rattle.numbers.specs.Numbers.{flavor_at, offset_at}
use Rattle.numbers.specs.Told.{flavor_number}
use Rattle.matrices.specs.Calls.{split_of, split_window, split_pairs, expand_of, expanded_matrix, merge_judged, merged_matrix}
use Rattle.matrices.specs.Listing.{in_list}
use Rattle.matrices.specs.Matrix.{matrix_of, coupons}
use Rattle.matrices.specs.Parts.{first_column}
use Rattle.matrices.specs.Shapes.{merged}
use Rattle.matrices.specs.Source.{has_window, held}
use Rattle.matrices.proofs.Accepting.{Accepted, held_listed}
use Rattle.matrices.proofs.Answered.{Merged, merge_accepted, expand_given}
use Rattle.matrices.proofs.CouponsHeld.{coupons_listed}
use Rattle.matrices.proofs.Judged.{judged_sorted, judged_below}
use Rattle.matrices.proofs.Lasting.{zeros_matrix}
use Rattle.matrices.proofs.MergeCalls.{merge_empty, merge_stays}
use Rattle.matrices.proofs.MergeWhole.{merge_zeros}
use Rattle.matrices.proofs.Undone.{split_after_expand, window_after_expand, pairs_after_expand}

-- an Empty sketch has no window
empty_bare : (k c : ℕ) → c ≡ 0 → has_window k c ≡ false
unfolding flavor_at
empty_bare k c z = rw (eq-eqb c 0 z) refl

-- and stands for nothing
empty_none : (lg c : ℕ) (window ps : List ℕ) → Accepted lg c window ps → c ≡ 0 → ps ≡ []
empty_none lg c window ps a z =
    none ps
    (sym (coupons_listed (2 ^ lg) ps (judged_sorted (2 ^ lg) ps a.pairs) (judged_below (2 ^ lg) ps a.pairs))
    ∙ ap (λ (f : ℕ → ℕ → Bool). coupons (matrix_of (2 ^ lg) f)) (sym (held_listed (2 ^ lg) c window ps (empty_bare (2 ^ lg) c z))) ∙ a.count ∙ z)
  where
    none : (l : List ℕ) → length l ≡ 0 → l ≡ []
    none [] e = refl
    none (x ∷ l) e = absurd (omega arith)

-- so that its matrix is the zeros of a new union
empty_matrix : (lg c : ℕ) (window ps : List ℕ) → Accepted lg c window ps → c ≡ 0 → replicate (2 ^ lg) 0 ≡ matrix_of (2 ^ lg) (held (2 ^ lg) c window ps)
unfolding in_list any_below
empty_matrix lg c window ps a z =
    zeros_matrix (2 ^ lg)
    ∙ ap (λ (l : List ℕ). matrix_of (2 ^ lg) (λ r d. in_list l (64 * r + d))) (sym (empty_none lg c window ps a z))
    ∙ ap (matrix_of (2 ^ lg)) (sym (held_listed (2 ^ lg) c window ps (empty_bare (2 ^ lg) c z)))

module _ (lg seed other c : ℕ) (window ps values : List ℕ) (e : merge_judged lg lg seed (replicate (2 ^ lg) 0) lg other c window ps ≡ accepted values) where
  abbrev g : Merged lg lg seed (replicate (2 ^ lg) 0) lg other c window ps
  g = merge_accepted lg lg seed (replicate (2 ^ lg) 0) lg other c window ps values e

  abbrev made : List ℕ
  made = matrix_of (2 ^ lg) (held (2 ^ lg) c window ps)

  first_matrix : merged_matrix lg lg seed (replicate (2 ^ lg) 0) lg other c window ps ≡ made
  first_matrix =
      ⊎_elim (λ (z : c ≡ 0). merge_empty lg lg seed (replicate (2 ^ lg) 0) lg other c window ps values e z ∙ empty_matrix lg c window ps g.source z)
      (λ (n : c ≡ 0 → ⊥).
      merge_stays lg lg seed (replicate (2 ^ lg) 0) lg other c window ps values e n (omega arith)
      ∙ ap (λ (k : ℕ). matrix_of k (merged (2 ^ lg) (2 ^ lg) (replicate (2 ^ lg) 0) (held (2 ^ lg) c window ps))) (length-replicate (2 ^ lg) 0)
      ∙ merge_zeros (2 ^ lg) (held (2 ^ lg) c window ps)) (same_or_not c 0)

  -- the first merge is an expansion
  pub first_expands : (m' : List ℕ) → length m' ≡ 2 ^ lg
      → (expand_of lg c window ps m' ≡ accepted []) × (merged_matrix lg lg seed (replicate (2 ^ lg) 0) lg other c window ps ≡ expanded_matrix lg c window ps m')
  first_expands m' l =
      let x = expand_given lg c window ps m' (record { inside = g.inside; most = g.most; rows = l; bytes = g.bytes; source = g.source }) in
      (x, first_matrix ∙ sym (ap (λ (o : Outcome). if_accepted o made m') x))

  -- and the split gives the sketch again
  module _ (bytes : (r : ℕ) → get_or window r 0 < 2 ^ 8) (lent out : List ℕ) (rows : length lent ≡ 2 ^ lg) (room : length ps ≤ length out) where
    abbrev m : List ℕ
    m = merged_matrix lg lg seed (replicate (2 ^ lg) 0) lg other c window ps

    x : (expand_of lg c window ps lent ≡ accepted []) × (m ≡ expanded_matrix lg c window ps lent)
    x = first_expands lent rows

    -- the stated coupons, their flavor and offset, and as many pairs
    pub sketch_again : split_of lg m lent out
        ≡ accepted (c ∷ flavor_number (flavor_at (2 ^ lg) c) ∷ offset_at (2 ^ lg) c ∷ first_column (has_window (2 ^ lg) c) (offset_at (2 ^ lg) c) m ∷ length ps ∷ [])
    sketch_again =
        subst (λ (y : List ℕ). split_of lg y lent out ≡ accepted (c ∷ flavor_number (flavor_at (2 ^ lg) c) ∷ offset_at (2 ^ lg) c ∷ first_column (has_window (2 ^ lg) c) (offset_at (2 ^ lg) c) y ∷ length ps ∷ []))
        (sym x.1) (split_after_expand lg c window ps lent [] bytes x.0 lent out rows room)

    -- its window; none is written for Empty and Sparse
    pub window_again : split_window lg m lent out ≡ choose (has_window (2 ^ lg) c) window lent
    window_again = ap (λ (y : List ℕ). split_window lg y lent out) x.1 ∙ window_after_expand lg c window ps lent [] bytes x.0 lent out rows room

    -- its pairs
    pub pairs_again : split_pairs lg m lent out ≡ ps ++ drop (length ps) out
    pairs_again = ap (λ (y : List ℕ). split_pairs lg y lent out) x.1 ∙ pairs_after_expand lg c window ps lent [] bytes x.0 lent out rows room
