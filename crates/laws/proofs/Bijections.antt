-- A sum over the numbers below n in another order. Assumes nothing.
use mathlib.Core.Path.{◌≡◌, refl, sym, ap, ◌∙◌}
use mathlib.Core.Logic.{⊎_elim}
use mathlib.Core.Bool.{Bool}
use Prim.Native.Nat.{ℕ, zero, suc, ◌+◌, ◌≤◌, ◌<◌}
use native.Mathlib.Omega.{arith}
use borrow.Author.Tests.{eq-eqb, ne_eqb}
use lib.Dec.{eqb}
use Rattle.laws.specs.Below.{sum_below}
use Rattle.laws.specs.Choose.{choose}
use Rattle.laws.proofs.Orders.{lt_or_le, same_or_not}
use Rattle.laws.proofs.Sums.{sum_zero, sum_add, sum_same}

-- one of the numbers below n is c
pick_none : (n c : ℕ) (f : ℕ → ℕ) → n ≤ c → sum_below n (λ p. choose (eqb p c) (f p) 0) ≡ 0
unfolding sum_below
pick_none zero c f l = refl
pick_none (suc n) c f l = rw (ne_eqb n c (λ (e : n ≡ c). omega arith)) (omega (arith, pick_none n c f (omega arith)))

pub pick : (n c : ℕ) (f : ℕ → ℕ) → c < n → sum_below n (λ p. choose (eqb p c) (f p) 0) ≡ f c
unfolding sum_below
pick zero c f l = absurd (omega arith)
pick (suc n) c f l = ⊎_elim
    (λ (h : c < n). rw (ne_eqb n c (λ (e : n ≡ c). omega arith)) (omega (arith, pick n c f h)))
    (λ (h : n ≤ c). let e : n ≡ c = omega arith in rw (eq-eqb n c e) (omega (arith, pick_none n c f h, ap f e)))
    (lt_or_le c n)

-- a double sum in one order or the other
pub sum_swap : (m n : ℕ) (g : ℕ → ℕ → ℕ) → sum_below m (λ i. sum_below n (λ p. g i p)) ≡ sum_below n (λ p. sum_below m (λ i. g i p))
unfolding sum_below
sum_swap zero n g = sym (sum_zero n)
sum_swap (suc m) n g = ap (λ (k : ℕ). k + sum_below n (λ p. g m p)) (sum_swap m n g) ∙ sym (sum_add n (λ p. sum_below m (λ i. g i p)) (λ p. g m p))

-- an order that meets each number below n once gives the same sum
pub sum_order : (n : ℕ) (f order : ℕ → ℕ) → ((i : ℕ) → i < n → order i < n) → ((p : ℕ) → p < n → (k : ℕ) × (k < n) × (order k ≡ p))
    → ((a b : ℕ) → a < n → b < n → order a ≡ order b → a ≡ b) → sum_below n (λ i. f (order i)) ≡ sum_below n f
sum_order n f order within met once =
    sum_same n (λ i. f (order i)) (λ i. sum_below n (λ p. choose (eqb p (order i)) (f p) 0)) (λ i l. sym (pick n (order i) f (within i l)))
    ∙ sum_swap n n (λ i p. choose (eqb p (order i)) (f p) 0)
    ∙ sum_same n (λ p. sum_below n (λ i. choose (eqb p (order i)) (f p) 0)) f each
  where
    each : (p : ℕ) → p < n → sum_below n (λ i. choose (eqb p (order i)) (f p) 0) ≡ f p
    each p l =
        let k = met p l in
        sum_same n (λ i. choose (eqb p (order i)) (f p) 0) (λ i. choose (eqb i k.0) (f p) 0) (λ i h. ap (λ (b : Bool). choose b (f p) 0) (⊎_elim
        (λ (e : i ≡ k.0). eq-eqb p (order i) (sym (ap order e ∙ k.2)) ∙ sym (eq-eqb i k.0 e))
        (λ d. ne_eqb p (order i) (λ (e : p ≡ order i). d (once i k.0 h k.1 (sym e ∙ sym k.2))) ∙ sym (ne_eqb i k.0 d))
        (same_or_not i k.0)))
        ∙ pick n k.0 (λ i. f p) k.1
