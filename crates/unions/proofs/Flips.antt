-- Rows written from their window bytes, and then the listed pairs flipped: what a source stands for. Assumes nothing.
use mathlib.Core.Path.{◌≡◌, refl, sym, ap, ap₂, ◌∙◌}
use mathlib.Core.Logic.{⊎_elim}
use mathlib.Core.Bool.{Bool, true, false, not, ◌&&◌, ◌||◌}
use mathlib.Core.List.{List, []}
use Prim.Native.Nat.{ℕ, ◌+◌, ◌-◌, ◌*◌, ◌/◌, ◌%◌, ◌^◌, ◌<◌}
use native.Mathlib.Omega.{arith}
use borrow.Author.Tests.{eq-eqb, ne_eqb}
use lib.Dec.{eqb, ltb}
use lib.ListN.{length, get_or, set, replicate}
use Rattle.laws.specs.Below.{any_below}
use Rattle.laws.specs.Columns.{has, word_of, differs}
use Rattle.laws.proofs.Any.{any_none, any_more}
use Rattle.laws.proofs.Orders.{same_or_not}
use Rattle.laws.proofs.Truths.{or_false}
use Rattle.laws.proofs.Words.{word_of_same, word_of_none}
use Rattle.refusals.specs.Outcome.{accepted}
use Rattle.matrices.specs.Listing.{in_list}
use Rattle.matrices.specs.Matrix.{at, matrix_of, in_window}
use Rattle.matrices.specs.Shapes.{joined_at, Sorted}
use Rattle.matrices.specs.Source.{expanded, source_set, columns_judged}
use Rattle.matrices.proofs.Inverse.{expanded_row}
use Rattle.matrices.proofs.Lasting.{zeros_matrix}
use Rattle.matrices.proofs.Places.{columns_apart}
use Rattle.matrices.proofs.Rows.{at_matrix, matrix_is, matrix_same, set_matrix, put, put_same, put_other}
use Rattle.matrices.proofs.Members.{among_first}

differs_none : (b : Bool) → differs b false ≡ b
differs_none true = refl
differs_none false = refl

differs_swap : (a b : Bool) → differs a b ≡ differs b a
differs_swap true true = refl
differs_swap true false = refl
differs_swap false true = refl
differs_swap false false = refl

-- ---- the rows, before a pair is flipped

-- a window byte alone is the row of a source that lists nothing
pub bare_row : (o k : ℕ) (window : List ℕ) (r : ℕ) → r < k → joined_at o (get_or window r 0) 0 ≡ get_or (matrix_of k (expanded o window [])) r 0
unfolding in_list any_below
bare_row o k window r h = sym (expanded_row o k window [] r h ∙ ap (joined_at o (get_or window r 0)) (word_of_none 64))

-- without a window nothing is there
pub bare_none : (n o : ℕ) (window : List ℕ) → replicate n 0 ≡ matrix_of n (source_set false o window [])
unfolding in_list any_below
bare_none n o window = zeros_matrix n

-- ---- the loop over the pairs

-- m, and the first i pairs of the list flipped
abbrev pub flipped_to : List ℕ → List ℕ → ℕ → ℕ → ℕ → Bool
flipped_to m ps i r c = differs (at m r c) (among_first ps i (64 * r + c))

module _ (m ps : List ℕ) where
  -- before the first pair
  pub flip_start : ((r : ℕ) → get_or m r 0 < 2 ^ 64) → m ≡ matrix_of (length m) (flipped_to m ps 0)
  unfolding any_below
  flip_start w = matrix_is m (length m) (flipped_to m ps 0) refl w (λ r c h l. sym (differs_none (at m r c)))

  -- a pair more: since the list is increasing, it is flipped for the first time
  pub flip_turn : (i : ℕ) → Sorted ps → i < length ps → get_or ps i 0 / 64 < length m
      → set (matrix_of (length m) (flipped_to m ps i)) (get_or ps i 0 / 64)
      (word_of 64 (λ c. differs (at (matrix_of (length m) (flipped_to m ps i)) (get_or ps i 0 / 64) c) (eqb c (get_or ps i 0 % 64))))
      ≡ matrix_of (length m) (flipped_to m ps (i + 1))
  flip_turn i s within h =
      ap (set (matrix_of n f) row) (word_of_same 64 (λ c. differs (at (matrix_of n f) row c) (eqb c x)) flipped (λ c l. ap (λ (t : Bool). differs t (eqb c x)) (at_matrix n f row c h l)))
      ∙ set_matrix n f row flipped h
      ∙ matrix_same n (put f row flipped) (flipped_to m ps (i + 1))
      (λ r c g l.
      ⊎_elim (λ (q : r ≡ row). put_same f row flipped r c q ∙ ap (λ (y : ℕ). differs (f y c) (eqb c x)) (sym q) ∙ in_row r c q)
      (λ (q : r ≡ row → ⊥).
      put_other f row flipped r c q
      ∙ ap (differs (at m r c)) (sym (any_more i (hit r c) ∙ ap (λ (t : Bool). among_first ps i (64 * r + c) || t) (ne_eqb p (64 * r + c) (λ e. q (omega arith))) ∙ or_false (among_first ps i (64 * r + c)))))
      (same_or_not r row))
    where
      n : ℕ
      n = length m

      p : ℕ
      p = get_or ps i 0

      row : ℕ
      row = get_or ps i 0 / 64

      x : ℕ
      x = get_or ps i 0 % 64

      f : ℕ → ℕ → Bool
      f = flipped_to m ps i

      flipped : ℕ → Bool
      flipped c = differs (f row c) (eqb c x)

      hit : ℕ → ℕ → ℕ → Bool
      hit r c j = eqb (get_or ps j 0) (64 * r + c)

      in_row : (r c : ℕ) → r ≡ row → differs (f r c) (eqb c x) ≡ flipped_to m ps (i + 1) r c
      in_row r c q =
          ⊎_elim
          (λ (e : c ≡ x).
          let first : among_first ps i (64 * r + c) ≡ false = any_none i (hit r c) (λ j l. ne_eqb (get_or ps j 0) (64 * r + c) (omega (arith, s.less j i l within))) in
          ap₂ (λ (t u : Bool). differs (differs (at m r c) t) u) first (eq-eqb c x e)
          ∙ ap (λ (t : Bool). differs t true) (differs_none (at m r c))
          ∙ ap (differs (at m r c)) (sym (any_more i (hit r c) ∙ ap₂ ◌||◌ first (eq-eqb p (64 * r + c) (omega arith)))))
          (λ (e : c ≡ x → ⊥).
          ap (differs (f r c)) (ne_eqb c x e)
          ∙ differs_none (f r c)
          ∙ ap (differs (at m r c))
          (sym (any_more i (hit r c) ∙ ap (λ (t : Bool). among_first ps i (64 * r + c) || t) (ne_eqb p (64 * r + c) (λ y. e (omega arith))) ∙ or_false (among_first ps i (64 * r + c)))))
          (same_or_not c x)

  -- after the last one
  pub flip_end : matrix_of (length m) (flipped_to m ps (length ps)) ≡ matrix_of (length m) (λ r c. differs (at m r c) (in_list ps (64 * r + c)))
  unfolding in_list
  flip_end = refl

-- ---- both

flip_one : (inside byte early listed : Bool) → (inside ≡ true → listed ≡ false)
    → differs ((inside && byte) || (not inside && early)) listed ≡ ((inside && byte) || (not inside && differs listed early))
flip_one true byte early listed e = ap (differs (byte || false)) (e refl) ∙ differs_none (byte || false)
flip_one false byte early listed e = differs_swap early listed

-- where no pair is in the window's columns, the flipped rows are the source
module _ (wide : Bool) (o : ℕ) (window ps : List ℕ) (apart : wide ≡ true → columns_judged o 0 ps ≡ accepted []) where
  flip_source : (r c : ℕ) → c < 64 → differs (source_set wide o window [] r c) (in_list ps (64 * r + c)) ≡ source_set wide o window ps r c
  unfolding in_list any_below
  flip_source r c l = go wide refl
    where
      go : (w : Bool) → wide ≡ w → differs (source_set w o window [] r c) (in_list ps (64 * r + c)) ≡ source_set w o window ps r c
      go true w = flip_one (in_window o c) (has (get_or window r 0) (c - o)) (ltb c o) (in_list ps (64 * r + c)) (columns_apart o ps (apart w) r c l)
      go false w = refl

  pub flipped_source : (n : ℕ)
      → matrix_of n (λ r c. differs (at (matrix_of n (source_set wide o window [])) r c) (in_list ps (64 * r + c))) ≡ matrix_of n (source_set wide o window ps)
  flipped_source n =
      matrix_same n (λ r c. differs (at (matrix_of n (source_set wide o window [])) r c) (in_list ps (64 * r + c))) (source_set wide o window ps)
      (λ r c h l. ap (λ (t : Bool). differs t (in_list ps (64 * r + c))) (at_matrix n (source_set wide o window []) r c h l) ∙ flip_source r c l)
