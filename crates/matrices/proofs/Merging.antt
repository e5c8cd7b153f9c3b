-- The loop that merges the rows of a source into a matrix: where it starts, and a turn. Assumes nothing.
use mathlib.Core.Path.{◌≡◌, refl, sym, ap, ◌∙◌}
use mathlib.Core.Logic.{⊎_elim}
use mathlib.Core.Bool.{Bool, true, false, ◌&&◌, ◌||◌}
use mathlib.Core.List.{List}
use Prim.Native.Nat.{ℕ, ◌+◌, ◌%◌, ◌^◌, ◌≤◌, ◌<◌}
use native.Mathlib.Nat.{mod-lt}
use native.Mathlib.Omega.{arith}
use borrow.Author.Tests.{eq-eqb, ne_eqb, lt-ltb}
use lib.Dec.{eqb, ltb}
use lib.ListN.{length, get_or, set}
use Rattle.laws.specs.Below.{any_below}
use Rattle.laws.specs.Columns.{word_of}
use Rattle.laws.proofs.Any.{any_more}
use Rattle.laws.proofs.Orders.{same_or_not}
use Rattle.laws.proofs.Truths.{or_false}
use Rattle.laws.proofs.Words.{word_of_same}
use Rattle.matrices.specs.Matrix.{at, matrix_of}
use Rattle.matrices.specs.Shapes.{merged}
use Rattle.matrices.proofs.Rows.{at_matrix, matrix_is, matrix_same, set_matrix, put, put_same, put_other}

none : (a b : Bool) → a ≡ (a || (b && false))
none true b = refl
none false true = refl
none false false = refl

regroup : (a b c d : Bool) → b ≡ true → ((a || (b && c)) || d) ≡ (a || (b && (c || d)))
regroup true b c d e = refl
regroup false b c d e = rw e refl

module _ (m : List ℕ) (k : ℕ) (pos : 0 < k) (src : ℕ → ℕ → Bool) where
  -- before the first row
  pub merge_start : ((r : ℕ) → get_or m r 0 < 2 ^ 64) → m ≡ matrix_of (length m) (merged k 0 m src)
  unfolding any_below
  merge_start w = matrix_is m (length m) (merged k 0 m src) refl w (λ r c h l. none (at m r c) (ltb r k))

  module _ (s : ℕ) where
    abbrev f : ℕ → ℕ → Bool
    f = merged k s m src

    abbrev joined : ℕ → Bool
    joined c = f (s % k) c || src s c

    abbrev falls : ℕ → ℕ → ℕ → Bool
    falls r c t = eqb (t % k) r && src t c

    turned : (r c : ℕ) → put f (s % k) joined r c ≡ merged k (s + 1) m src r c
    turned r c =
        ⊎_elim
        (λ (e : r ≡ s % k).
        put_same f (s % k) joined r c e
        ∙ ap (λ (x : ℕ). f x c || src s c) (sym e)
        ∙ regroup (at m r c) (ltb r k) (any_below s (falls r c)) (src s c) (lt-ltb r k (omega (arith, mod-lt s pos)))
        ∙ ap (λ (t : Bool). at m r c || (ltb r k && (any_below s (falls r c) || (t && src s c)))) (sym (eq-eqb (s % k) r (sym e)))
        ∙ ap (λ (t : Bool). at m r c || (ltb r k && t)) (sym (any_more s (falls r c))))
        (λ (n : r ≡ s % k → ⊥).
        put_other f (s % k) joined r c n
        ∙ ap (λ (t : Bool). at m r c || (ltb r k && t))
        (sym (any_more s (falls r c) ∙ ap (λ (t : Bool). any_below s (falls r c) || (t && src s c)) (ne_eqb (s % k) r (λ q. n (sym q))) ∙ or_false (any_below s (falls r c)))))
        (same_or_not r (s % k))

    -- row s of the source joins row s mod k: w is what is stored there
    pub merge_turn : k ≤ length m → (p : ℕ → Bool) → ((c : ℕ) → c < 64 → p c ≡ (at (matrix_of (length m) f) (s % k) c || src s c))
        → set (matrix_of (length m) f) (s % k) (word_of 64 p) ≡ matrix_of (length m) (merged k (s + 1) m src)
    merge_turn h p e =
        let i : s % k < length m = omega (arith, mod-lt s pos) in
        ap (set (matrix_of (length m) f) (s % k)) (word_of_same 64 p joined (λ c l. e c l ∙ ap (λ (t : Bool). t || src s c) (at_matrix (length m) f (s % k) c i l)))
        ∙ set_matrix (length m) f (s % k) joined i
        ∙ matrix_same (length m) (put f (s % k) joined) (merged k (s + 1) m src) (λ r c l b. turned r c)
