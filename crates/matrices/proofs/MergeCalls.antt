-- The matrix after an accepted merge, by the ways that it can be made. Assumes nothing.
use mathlib.Core.Path.{◌≡◌, sym, ap, ◌∙◌}
use mathlib.Core.Bool.{Bool}
use mathlib.Core.List.{List}
use Prim.Native.Nat.{ℕ, ◌^◌, ◌≤◌, min}
use native.Mathlib.Omega.{arith}
use borrow.Author.Tests.{eq-eqb, ne_eqb}
use lib.Dec.{eqb}
use lib.ListN.{length}
use Rattle.laws.specs.Choose.{choose}
use Rattle.refusals.specs.Outcome.{Outcome, accepted, if_accepted}
use Rattle.matrices.specs.Calls.{merge_judged, merged_at, merged_matrix}
use Rattle.matrices.specs.Matrix.{matrix_of}
use Rattle.matrices.specs.Shapes.{folded, merged}
use Rattle.matrices.specs.Source.{held}
use Rattle.matrices.proofs.Answered.{merge_accepted}
use Rattle.matrices.proofs.Lawful.{lawful_is}
use Rattle.matrices.proofs.MergeWhole.{merge_folded, merge_unfolded}

module _ (lg present seed : ℕ) (m : List ℕ) (from other c : ℕ) (window ps values : List ℕ)
    (e : merge_judged lg present seed m from other c window ps ≡ accepted values) where
  -- the pairs of the source
  abbrev src : ℕ → ℕ → Bool
  src = held (2 ^ from) c window ps

  made : Bool → List ℕ
  made t = choose t m (matrix_of (length m) (merged_at (2 ^ choose t present (min present from)) m (2 ^ from) src))

  opened : merged_matrix lg present seed m from other c window ps ≡ made (eqb c 0)
  unfolding made
  opened = ap (λ (o : Outcome). if_accepted o (made (eqb c 0)) m) e

  -- an Empty source changes nothing
  pub merge_empty : c ≡ 0 → merged_matrix lg present seed m from other c window ps ≡ m
  unfolding made
  merge_empty z = opened ∙ ap made (eq-eqb c 0 z)

  joined : (c ≡ 0 → ⊥) → (k : ℕ) → min present from ≡ k → merged_matrix lg present seed m from other c window ps ≡ matrix_of (length m) (merged_at (2 ^ k) m (2 ^ from) src)
  unfolding made
  joined n k q = opened ∙ ap made (ne_eqb c 0 n) ∙ ap (λ (x : ℕ). matrix_of (length m) (merged_at (2 ^ x) m (2 ^ from) src)) q

  -- a source with smaller k, or the same: the matrix is folded to that k, and the source's rows join it
  pub merge_folds : (c ≡ 0 → ⊥) → from ≤ present
      → merged_matrix lg present seed m from other c window ps ≡ matrix_of (length m) (merged (2 ^ from) (2 ^ from) (matrix_of (length m) (folded (2 ^ from) m)) src)
  merge_folds n l =
      let q : min present from ≡ from = omega arith in
      joined n from q ∙ sym (merge_folded (2 ^ from) (2 ^ from) m src)

  -- another: the rows of the matrix stay, and the source's rows, mod the present k, join them
  pub merge_stays : (c ≡ 0 → ⊥) → present ≤ from → merged_matrix lg present seed m from other c window ps ≡ matrix_of (length m) (merged (2 ^ present) (2 ^ from) m src)
  merge_stays n l =
      let q : min present from ≡ present = omega arith in
      let u = lawful_is lg present m (merge_accepted lg present seed m from other c window ps values e).lawful in
      joined n present q ∙ sym (merge_unfolded (2 ^ present) (2 ^ from) m src u.rest)
