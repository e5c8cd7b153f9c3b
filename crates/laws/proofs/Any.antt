-- Tests that pass at one number below a bound. Assumes nothing.
use mathlib.Core.Path.{◌≡◌, refl, ap, ap₂, ◌∙◌, subst}
use mathlib.Core.Logic.{⊎_elim}
use mathlib.Core.Bool.{Bool, true, false, ◌&&◌, ◌||◌, false≢true}
use Prim.Native.Nat.{ℕ, zero, suc, ◌+◌, ◌≤◌, ◌<◌}
use native.Mathlib.Nat.{add-zero, not-suc-le-zero, eq-or-lt_of_le, le_of_suc-le-suc}
use native.Mathlib.Omega.{arith}
use native.Mathlib.Numerals.{add-one}
use borrow.Author.Tests.{eq-eqb, eqb-true}
use lib.Dec.{eqb}
use Rattle.laws.specs.Below.{any_below}
use Rattle.laws.proofs.Truths.{or_false, or_true, or_right, and_left, and_right, both_true}

pub any_same : (n : ℕ) (p q : ℕ → Bool) → ((t : ℕ) → t < n → p t ≡ q t) → any_below n p ≡ any_below n q
unfolding any_below
any_same zero p q e = refl
any_same (suc n) p q e = ap₂ ◌||◌ (any_same n p q (λ t h. e t (omega arith))) (e n (omega arith))

-- a range has one that passes exactly if one can be named
pub any_find : (n : ℕ) (p : ℕ → Bool) → any_below n p ≡ true → (t : ℕ) × (t < n) × (p t ≡ true)
unfolding any_below
any_find zero p e = absurd (false≢true e)
any_find (suc n) p e =
    ⊎_elim (λ (a : any_below n p ≡ true). let f = any_find n p a in (f.0, omega (arith, f.1), f.2)) (λ (b : p n ≡ true). (n, omega arith, b))
    (or_true (any_below n p) (p n) e)

pub any_of : (n : ℕ) (p : ℕ → Bool) (t : ℕ) → t < n → p t ≡ true → any_below n p ≡ true
unfolding any_below
any_of zero p t h e = absurd (not-suc-le-zero h)
any_of (suc n) p t h e =
    ⊎_elim (λ (s : t ≡ n). ap (λ (x : Bool). any_below n p || x) (subst (λ (x : ℕ). p x ≡ true) s e) ∙ or_right (any_below n p) true refl)
    (λ (l : t < n). ap (λ (x : Bool). x || p n) (any_of n p t l e)) (eq-or-lt_of_le (le_of_suc-le-suc h))

-- a range that is asked for one number only
pub any_one : (n r : ℕ) (q : ℕ → Bool) → r < n → any_below n (λ t. eqb t r && q t) ≡ q r
any_one n r q h =
    both_true (any_below n (λ t. eqb t r && q t)) (q r) (λ e. hit (any_find n (λ t. eqb t r && q t) e))
    (λ e. any_of n (λ t. eqb t r && q t) r h (ap₂ ◌&&◌ (eq-eqb r r refl) e))
  where
    hit : (t : ℕ) × (t < n) × ((eqb t r && q t) ≡ true) → q r ≡ true
    hit f =
        subst (λ (x : ℕ). q x ≡ true) (eqb-true f.0 r (and_left (eqb f.0 r) (q f.0) f.2)) (and_right (eqb f.0 r) (q f.0) f.2)

pub any_none : (n : ℕ) (p : ℕ → Bool) → ((t : ℕ) → t < n → p t ≡ false) → any_below n p ≡ false
unfolding any_below
any_none zero p e = refl
any_none (suc n) p e = ap₂ ◌||◌ (any_none n p (λ t h. e t (omega arith))) (e n (omega arith))

pub any_more : (n : ℕ) (p : ℕ → Bool) → any_below (n + 1) p ≡ (any_below n p || p n)
unfolding any_below
any_more n p = ap (λ (x : ℕ). any_below x p) (add-one n)

-- what comes after n changes nothing
pub any_extend : (d n : ℕ) (p : ℕ → Bool) → ((t : ℕ) → n ≤ t → t < n + d → p t ≡ false) → any_below (n + d) p ≡ any_below n p
unfolding any_below
any_extend zero n p e = ap (λ (x : ℕ). any_below x p) (add-zero n)
any_extend (suc d) n p e =
    let q : n + suc d ≡ n + d + 1 = omega arith in
    ap (λ (x : ℕ). any_below x p) q ∙ any_more (n + d) p
    ∙ ap₂ ◌||◌ (any_extend d n p (λ t h l. e t h (omega arith))) (e (n + d) (omega arith) (omega arith)) ∙ or_false (any_below n p)
