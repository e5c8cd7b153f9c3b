-- What a merge answers and leaves, once it is judged. Assumes nothing.
use mathlib.Core.Path.{◌≡◌, sym, ap, ap₂, ◌∙◌}
use mathlib.Core.Bool.{Bool}
use mathlib.Core.List.{List, []}
use Prim.Native.Nat.{ℕ, ◌^◌, min}
use borrow.Author.Tests.{ne_eqb}
use lib.Dec.{eqb}
use lib.ListN.{length}
use Rattle.laws.specs.Choose.{choose}
use Rattle.refusals.specs.Outcome.{Outcome, accepted, if_accepted, and_then}
use Rattle.matrices.specs.Calls.{union_of, merge_judged, merge_of, merged_at, merged_matrix}
use Rattle.matrices.specs.Matrix.{matrix_of}
use Rattle.matrices.specs.Source.{held}

module _ (lg present seed : ℕ) (m : List ℕ) (from other c : ℕ) (window ps : List ℕ) where
  abbrev judged : Outcome
  judged = merge_judged lg present seed m from other c window ps

  -- the pairs of both at 2^k rows
  abbrev whole : ℕ → List ℕ
  whole k = matrix_of (length m) (merged_at (2 ^ k) m (2 ^ from) (held (2 ^ from) c window ps))

  -- the present lg_k and the matrix, by whether the source is Empty
  abbrev after : Bool → ℕ
  after b = choose b present (min present from)

  abbrev left : Bool → List ℕ
  left b = choose b m (matrix_of (length m) (merged_at (2 ^ after b) m (2 ^ from) (held (2 ^ from) c window ps)))

  module _ (e : judged ≡ accepted []) where
    answer : (b : Bool) → eqb c 0 ≡ b → union_of lg (after b) seed ≡ merge_of lg present seed m from other c window ps
    answer b q = sym (ap₂ (λ (o : Outcome) (t : Bool). and_then o (union_of lg (after t) seed)) e q)

    matrix : (b : Bool) → eqb c 0 ≡ b → left b ≡ merged_matrix lg present seed m from other c window ps
    matrix b q = sym (ap₂ (λ (o : Outcome) (t : Bool). if_accepted o (left t) m) e q)

    -- any other joins
    pub merge_taken : (c ≡ 0 → ⊥) → (k : ℕ) (x : List ℕ) → k ≡ min present from → x ≡ whole (min present from)
        → (union_of lg k seed ≡ merge_of lg present seed m from other c window ps) × (x ≡ merged_matrix lg present seed m from other c window ps)
    merge_taken n k x ek ex = (ap (λ (y : ℕ). union_of lg y seed) ek ∙ answer _ (ne_eqb c 0 n), ex ∙ matrix _ (ne_eqb c 0 n))
