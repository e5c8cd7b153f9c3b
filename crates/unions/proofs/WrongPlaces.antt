-- The first wrong place of a list is where the judgement of the list stops. Assumes nothing.
use mathlib.Core.Path.{◌≡◌, refl, sym, ap, ◌∙◌}
use mathlib.Core.Bool.{Bool, cond, true, false}
use mathlib.Core.List.{List, [], ◌∷◌}
use Prim.Native.Nat.{ℕ, suc, ◌+◌, ◌%◌}
use native.Mathlib.Numerals.{add-one}
use Rattle.std.specs.Prelude.{Some, position}
use Rattle.std.specs.List.{position_from}
use Rattle.std.proofs.lemmas.Iterator.Adapters.{position_from-zero}
use Rattle.laws.specs.Choose.{choose}
use Rattle.refusals.specs.Outcome.{Outcome, accepted, refused}
use Rattle.matrices.specs.Matrix.{in_window}
use Rattle.matrices.specs.Source.{past_columns, window_judged, columns_judged}
use Rattle.unions.specs.Steps.{wrong_at}

module _ (wrong : ℕ → Bool) (judge : ℕ → List ℕ → Outcome) (none : (i : ℕ) → accepted [] ≡ judge i [])
    (some : (i x : ℕ) (more : List ℕ) → choose (wrong x) (refused 14 i) (judge (suc i) more) ≡ judge i (x ∷ more)) where
  placed_from : (i : ℕ) (l : List ℕ) → wrong_at (position_from wrong i l) ≡ judge i l
  placed_from i [] = none i
  placed_from i (x ∷ more) = go (wrong x) refl (placed_from (i + 1) more ∙ ap (λ (n : ℕ). judge n more) (add-one i))
    where
      go : (b : Bool) → wrong x ≡ b → wrong_at (position_from wrong (i + 1) more) ≡ judge (suc i) more → wrong_at (position_from wrong i (x ∷ more)) ≡ judge i (x ∷ more)
      go true e then =
          ap (λ (b : Bool). wrong_at (cond b (Some i) (position_from wrong (i + 1) more))) e
          ∙ sym (ap (λ (b : Bool). choose b (refused 14 i) (judge (suc i) more)) e) ∙ some i x more
      go false e then =
          ap (λ (b : Bool). wrong_at (cond b (Some i) (position_from wrong (i + 1) more))) e
          ∙ then ∙ sym (ap (λ (b : Bool). choose b (refused 14 i) (judge (suc i) more)) e) ∙ some i x more

  placed : (l : List ℕ) → wrong_at (position wrong l) ≡ judge 0 l
  placed l = ap wrong_at (position_from-zero wrong l) ∙ placed_from 0 l

pub window_placed : (o : ℕ) (window : List ℕ) → wrong_at (position (past_columns o) window) ≡ window_judged o 0 window
unfolding window_judged
window_placed o = placed (past_columns o) (window_judged o) (λ i. refl) (λ i x more. refl)

pub columns_placed : (o : ℕ) (ps : List ℕ) → wrong_at (position (λ p. in_window o (p % 64)) ps) ≡ columns_judged o 0 ps
unfolding columns_judged
columns_placed o = placed (λ p. in_window o (p % 64)) (columns_judged o) (λ i. refl) (λ i x more. refl)
