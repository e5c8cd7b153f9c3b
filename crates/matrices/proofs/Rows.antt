-- Laws of matrices. Assumes nothing.
use mathlib.Core.Path.{◌≡◌, refl, sym, ap, ap₂, ◌∙◌}
use mathlib.Core.Logic.{◌⊎◌, inl, inr}
use mathlib.Core.Bool.{Bool, not, ◌&&◌, ◌||◌}
use mathlib.Core.List.{List, ◌∷◌}
use Prim.Native.Nat.{ℕ, zero, suc, ◌^◌, ◌≤◌, ◌<◌, suc-le-suc}
use native.Mathlib.Nat.{not-suc-le-zero, le_of_suc-le-suc}
use native.Mathlib.Omega.{arith}
use borrow.Author.Tests.{eq-eqb, ne_eqb}
use lib.Dec.{eqb}
use lib.ListN.{length, get_or, set, length-set}
use lib.Seq.{ext_get_or, get_or-set_same, get_or-set_other}
use Rattle.laws.specs.Columns.{has, word_of}
use Rattle.laws.proofs.Orders.{lt_or_le}
use Rattle.laws.proofs.Truths.{or_false}
use Rattle.laws.proofs.Words.{has_word_of, word_is, word_of_same}
use Rattle.matrices.specs.Matrix.{at, matrix_of}

-- k rows
pub length_matrix : (k : ℕ) (f : ℕ → ℕ → Bool) → length (matrix_of k f) ≡ k
unfolding matrix_of
length_matrix zero f = refl
length_matrix (suc k) f = ap suc (length_matrix k (λ r. f (suc r)))

-- row r
pub row_matrix : (k : ℕ) (f : ℕ → ℕ → Bool) (r : ℕ) → r < k → get_or (matrix_of k f) r 0 ≡ word_of 64 (f r)
unfolding matrix_of
row_matrix zero f r h = absurd (not-suc-le-zero h)
row_matrix (suc k) f zero h = refl
row_matrix (suc k) f (suc r) h = row_matrix k (λ t. f (suc t)) r (le_of_suc-le-suc h)

-- it holds just those pairs
pub at_matrix : (k : ℕ) (f : ℕ → ℕ → Bool) (r c : ℕ) → r < k → c < 64 → at (matrix_of k f) r c ≡ f r c
at_matrix k f r c h l = ap (λ (w : ℕ). has w c) (row_matrix k f r h) ∙ has_word_of 64 (f r) c l

-- a list of k words is the matrix of what it holds, and of nothing else
pub matrix_is : (m : List ℕ) (k : ℕ) (f : ℕ → ℕ → Bool) → length m ≡ k → ((r : ℕ) → get_or m r 0 < 2 ^ 64)
    → ((r c : ℕ) → r < k → c < 64 → at m r c ≡ f r c) → m ≡ matrix_of k f
matrix_is m k f n w e =
    ext_get_or 0 m (matrix_of k f) (n ∙ sym (length_matrix k f))
    (λ r h.
    let l : r < k = omega arith in
    word_is 64 (get_or m r 0) (f r) (w r) (λ c b. e r c l b) ∙ sym (row_matrix k f r l))

-- tests that agree give the same matrix
pub matrix_same : (k : ℕ) (f g : ℕ → ℕ → Bool) → ((r c : ℕ) → r < k → c < 64 → f r c ≡ g r c) → matrix_of k f ≡ matrix_of k g
unfolding matrix_of
matrix_same zero f g e = refl
matrix_same (suc k) f g e =
    ap₂ (λ (w : ℕ) (l : List ℕ). w ∷ l) (word_of_same 64 (f 0) (g 0) (λ c l. e 0 c (omega arith) l))
    (matrix_same k (λ r. f (suc r)) (λ r. g (suc r)) (λ r c h l. e (suc r) c (suc-le-suc h) l))

-- f with row i replaced by p
abbrev pub put : (ℕ → ℕ → Bool) → ℕ → (ℕ → Bool) → ℕ → ℕ → Bool
put f i p r c = (eqb r i && p c) || (not (eqb r i) && f r c)

-- in row i
pub put_same : (f : ℕ → ℕ → Bool) (i : ℕ) (p : ℕ → Bool) (r c : ℕ) → r ≡ i → put f i p r c ≡ p c
put_same f i p r c e = rw (eq-eqb r i e) (or_false (p c))

-- in another row
pub put_other : (f : ℕ → ℕ → Bool) (i : ℕ) (p : ℕ → Bool) (r c : ℕ) → (r ≡ i → ⊥) → put f i p r c ≡ f r c
put_other f i p r c e = rw (ne_eqb r i e) refl

-- a store of a row
pub set_matrix : (k : ℕ) (f : ℕ → ℕ → Bool) (i : ℕ) (p : ℕ → Bool) → i < k → set (matrix_of k f) i (word_of 64 p) ≡ matrix_of k (put f i p)
set_matrix k f i p h =
    ext_get_or 0 (set (matrix_of k f) i (word_of 64 p)) (matrix_of k (put f i p)) (length-set (matrix_of k f) i (word_of 64 p) ∙ length_matrix k f ∙ sym (length_matrix k (put f i p)))
    (λ r l.
    let b : r < k = omega (arith, length-set (matrix_of k f) i (word_of 64 p), length_matrix k f) in
    go r b (lt_or_le r i) (lt_or_le i r))
  where
    other : (r : ℕ) → r < k → (r ≡ i → ⊥) → get_or (set (matrix_of k f) i (word_of 64 p)) r 0 ≡ get_or (matrix_of k (put f i p)) r 0
    other r b e =
        get_or-set_other (matrix_of k f) i r (word_of 64 p) 0 e ∙ row_matrix k f r b
        ∙ word_of_same 64 (f r) (put f i p r) (λ c l. sym (put_other f i p r c e)) ∙ sym (row_matrix k (put f i p) r b)

    same : (r : ℕ) → r < k → r ≡ i → get_or (set (matrix_of k f) i (word_of 64 p)) r 0 ≡ get_or (matrix_of k (put f i p)) r 0
    same r b e =
        ap (λ (x : ℕ). get_or (set (matrix_of k f) i (word_of 64 p)) x 0) e ∙ get_or-set_same (matrix_of k f) i (word_of 64 p) 0 (omega (arith, length_matrix k f))
        ∙ word_of_same 64 p (put f i p r) (λ c l. sym (put_same f i p r c e)) ∙ sym (row_matrix k (put f i p) r b)

    go : (r : ℕ) → r < k → (r < i) ⊎ (i ≤ r) → (i < r) ⊎ (r ≤ i) → get_or (set (matrix_of k f) i (word_of 64 p)) r 0 ≡ get_or (matrix_of k (put f i p)) r 0
    go r b (inl l) y = other r b (omega arith)
    go r b (inr l) (inl g) = other r b (omega arith)
    go r b (inr l) (inr g) = same r b (omega arith)
