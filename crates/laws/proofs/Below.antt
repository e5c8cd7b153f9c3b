-- A test that passes at every number below n passes at each, and the other way round. Assumes nothing.
use mathlib.Core.Path.{◌≡◌, refl, sym, ap, ◌∙◌, subst}
use mathlib.Core.Logic.{◌⊎◌, inl, inr, ⊎_elim}
use mathlib.Core.Bool.{Bool, true, false, ◌&&◌, true≢false}
use Prim.Native.Nat.{ℕ, zero, suc, ◌≤◌, ◌<◌}
use native.Mathlib.Omega.{arith}
use Rattle.laws.specs.Below.{every_below}
use Rattle.laws.proofs.Orders.{lt_or_le}
use Rattle.laws.proofs.Truths.{true_or_false, and_left, and_right, and_both, and_true}

pub every_at : (n : ℕ) (f : ℕ → Bool) → every_below n f ≡ true → (i : ℕ) → i < n → f i ≡ true
unfolding every_below
every_at zero f e i l = absurd (omega arith)
every_at (suc n) f e i l =
    ⊎_elim (λ (h : i < n). every_at n f (and_left (every_below n f) (f n) e) i h)
    (λ (h : n ≤ i). let q : n ≡ i = omega arith in subst (λ (j : ℕ). f j ≡ true) q (and_right (every_below n f) (f n) e)) (lt_or_le i n)

pub every_of : (n : ℕ) (f : ℕ → Bool) → ((i : ℕ) → i < n → f i ≡ true) → every_below n f ≡ true
unfolding every_below
every_of zero f h = refl
every_of (suc n) f h = and_both (every_of n f (λ i l. h i (omega arith))) (h n (omega arith))

-- a test that does not pass at every number below n fails at one
pub some_false : (n : ℕ) (f : ℕ → Bool) → every_below n f ≡ false → (i : ℕ) × (i < n) × (f i ≡ false)
unfolding every_below
some_false zero f e = absurd (true≢false e)
some_false (suc n) f e = go (true_or_false (f n)) (some_false n f)
  where
    go : (f n ≡ true) ⊎ (f n ≡ false) → (every_below n f ≡ false → (i : ℕ) × (i < n) × (f i ≡ false)) → (i : ℕ) × (i < suc n) × (f i ≡ false)
    go (inl t) ih = let r = ih (sym (and_true (every_below n f)) ∙ ap (λ (b : Bool). every_below n f && b) (sym t) ∙ e) in (r.0, omega arith, r.2)
    go (inr t) ih = (n, omega arith, t)
