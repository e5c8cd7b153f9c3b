-- Laws of lists of pairs. Assumes nothing.
use mathlib.Core.Path.{◌≡◌, refl, sym, ap, ap₂, ◌∙◌, subst}
use mathlib.Core.Logic.{⊎_elim}
use mathlib.Core.Bool.{Bool, true, false, not, ◌&&◌}
use mathlib.Core.List.{List, [], ◌∷◌, ◌++◌, append_assoc, append-nil}
use Prim.Native.Nat.{ℕ, zero, suc, ◌+◌, ◌*◌, ◌%◌, ◌^◌, ◌<◌}
use native.Mathlib.Nat.{not-suc-le-zero, eq-or-lt_of_le, le_of_suc-le-suc, add-zero, add-suc}
use native.Mathlib.Omega.{arith}
use borrow.Author.Tests.{eq-eqb, ne_eqb, eqb-true}
use lib.Dec.{eqb}
use lib.Bits.{bit_xor}
use lib.Count.{count_trailing_zeros}
use Rattle.laws.specs.Columns.{has, differs}
use Rattle.laws.proofs.Columns.{has_xor, has_one, has_zero}
use Rattle.laws.proofs.Orders.{same_or_not}
use Rattle.laws.proofs.Truths.{and_true, and_false}
use Rattle.laws.proofs.Trailing.{trailing_at, trailing_below, trailing_lt}
use Rattle.matrices.specs.Listing.{only, list_from}
use Rattle.matrices.specs.Shapes.{row_pairs}

-- tests that agree give the same list
pub list_same : (a n : ℕ) (p q : ℕ → Bool) → ((c : ℕ) → c < n → p (a + c) ≡ q (a + c)) → list_from a n p ≡ list_from a n q
unfolding list_from
list_same a zero p q e = refl
list_same a (suc n) p q e =
    ap₂ (λ (l : List ℕ) (b : Bool). l ++ only b (a + n)) (list_same a n p q (λ c h. e c (omega arith))) (e n (omega arith))

-- a test that no number passes gives an empty list
pub list_none : (a n : ℕ) (p : ℕ → Bool) → ((c : ℕ) → c < n → p (a + c) ≡ false) → list_from a n p ≡ []
unfolding list_from
list_none a zero p e = refl
list_none a (suc n) p e = ap₂ (λ (l : List ℕ) (b : Bool). l ++ only b (a + n)) (list_none a n p (λ c h. e c (omega arith))) (e n (omega arith))

-- the list of m + n numbers is that of the first m, then that of the next n
pub list_split : (a m n : ℕ) (p : ℕ → Bool) → list_from a (m + n) p ≡ list_from a m p ++ list_from (a + m) n p
unfolding list_from
list_split a m zero p = ap (λ (x : ℕ). list_from a x p) (add-zero m) ∙ sym (append-nil (list_from a m p))
list_split a m (suc n) p =
    let e : a + (m + n) ≡ a + m + n = omega arith in
    ap (λ (x : ℕ). list_from a x p) (add-suc m n)
    ∙ ap₂ (λ (l : List ℕ) (x : ℕ). l ++ only (p x) x) (list_split a m n p) e
    ∙ append_assoc (list_from a m p) (list_from (a + m) n p) (only (p (a + m + n)) (a + m + n))

-- the least one comes first
pub list_first : (a n : ℕ) (p : ℕ → Bool) (t : ℕ) → t < n → p (a + t) ≡ true → ((c : ℕ) → c < t → p (a + c) ≡ false)
    → list_from a n p ≡ (a + t) ∷ list_from a n (λ x. p x && not (eqb x (a + t)))
unfolding list_from
list_first a zero p t h e z = absurd (not-suc-le-zero h)
list_first a (suc n) p t h e z =
    ⊎_elim
    (λ (q : t ≡ n).
    let s : a + t ≡ a + n = omega arith in
    ap₂ (λ (l : List ℕ) (b : Bool). l ++ only b (a + n)) (list_none a n p (λ c l. z c (omega arith))) (subst (λ (x : ℕ). p x ≡ true) s e)
    ∙ ap (λ (x : ℕ). x ∷ []) (sym s)
    ∙ ap (λ (l : List ℕ). (a + t) ∷ l)
    (sym
    (ap₂ (λ (l : List ℕ) (b : Bool). l ++ only b (a + n))
    (list_none a n (λ x. p x && not (eqb x (a + t))) (λ c l. ap (λ (b : Bool). b && not (eqb (a + c) (a + t))) (z c (omega arith))))
    (ap (λ (b : Bool). p (a + n) && not b) (eq-eqb (a + n) (a + t) (sym s)) ∙ and_false (p (a + n))))))
    (λ (l : t < n).
    ap₂ (λ (l : List ℕ) (b : Bool). l ++ only b (a + n)) (list_first a n p t l e z)
    (sym (ap (λ (b : Bool). p (a + n) && not b) (ne_eqb (a + n) (a + t) (omega arith)) ∙ and_true (p (a + n)))))
    (eq-or-lt_of_le (le_of_suc-le-suc h))

-- a word's lowest column, and the word without it
differs_out : (h : Bool) (b : Bool) → (b ≡ true → h ≡ true) → differs h b ≡ (h && not b)
differs_out true true f = refl
differs_out true false f = refl
differs_out false true f = sym (f refl)
differs_out false false f = refl

-- the lowest column of a word is its first pair; the others are those of the word without it
pub row_first : (row w : ℕ) → w < 2 ^ 64 → 0 < w
    → row_pairs row w ≡ (64 * row + count_trailing_zeros 64 w) ∷ row_pairs row (bit_xor w (2 ^ count_trailing_zeros 64 w))
row_first row w h p =
    let t = count_trailing_zeros 64 w in
    let a = 64 * row in
    let l : t < 64 = trailing_lt 64 w h p in
    let col : (c : ℕ) → c < 64 → (a + c) % 64 ≡ c = λ c k. omega arith in
    list_first a 64 (λ x. has w (x % 64)) t l (ap (has w) (col t l) ∙ trailing_at 64 w l)
    (λ c k. ap (has w) (col c (omega arith)) ∙ trailing_below 64 w c k)
    ∙ ap (λ (z : List ℕ). (a + t) ∷ z)
    (list_same a 64 (λ x. has w (x % 64) && not (eqb x (a + t))) (λ x. has (bit_xor w (2 ^ t)) (x % 64))
    (λ c k.
    sym
    (has_xor w (2 ^ t) ((a + c) % 64)
    ∙ ap (differs (has w ((a + c) % 64))) (has_one t ((a + c) % 64) ∙ same c k)
    ∙ differs_out (has w ((a + c) % 64)) (eqb (a + c) (a + t))
    (λ e.
    let q : (a + c) % 64 ≡ t = omega (arith, eqb-true (a + c) (a + t) e) in
    ap (has w) q ∙ trailing_at 64 w l))))
  where
    t : ℕ
    t = count_trailing_zeros 64 w

    same : (c : ℕ) → c < 64 → eqb ((64 * row + c) % 64) t ≡ eqb (64 * row + c) (64 * row + t)
    same c k =
        ⊎_elim (λ (e : c ≡ t). eq-eqb ((64 * row + c) % 64) t (omega arith) ∙ sym (eq-eqb (64 * row + c) (64 * row + t) (omega arith)))
        (λ (n : c ≡ t → ⊥). ne_eqb ((64 * row + c) % 64) t (omega arith) ∙ sym (ne_eqb (64 * row + c) (64 * row + t) (omega arith))) (same_or_not c t)

-- an empty word has no pairs
pub row_none : (row : ℕ) → row_pairs row 0 ≡ []
row_none row = list_none (64 * row) 64 (λ x. has 0 (x % 64)) (λ c l. has_zero ((64 * row + c) % 64))
