-- The lg that a build starts at, that growth and halving end at. Assumes nothing.
use mathlib.Core.Path.{◌≡◌, refl, subst}
use mathlib.Core.Bool.{Bool, true, false}
use mathlib.Core.Logic.{⊎_elim}
use Prim.Native.Nat.{ℕ, zero, suc, ◌+◌, ◌-◌, ◌*◌, ◌^◌, ◌≤◌, ◌<◌}
use native.Mathlib.Omega.{arith}
use native.Mathlib.Nat.{eq-or-lt_of_le}
use borrow.Author.Tests.{le-leb, lt-leb, leb-true, leb-false}
use Rattle.laws.specs.Choose.{choose}
use Rattle.tables.specs.Changes.{fits, least_lg, build_lg}

-- as a loop takes it: it stands where the items fit, or goes one up
pub least_stop : (more lg n : ℕ) → 4 * n ≤ 3 * 2 ^ lg → least_lg more lg n ≡ lg
unfolding least_lg
least_stop zero lg n h = refl
least_stop (suc more) lg n h = simp (le-leb (4 * n) (3 * 2 ^ lg) h)

-- they do not fit: one up
pub least_go : (more lg n : ℕ) → 0 < more → 3 * 2 ^ lg < 4 * n → least_lg more lg n ≡ least_lg (more - 1) (lg + 1) n
unfolding least_lg
least_go zero lg n l h = absurd (omega arith)
least_go (suc more) lg n l h =
    let z : suc more - 1 ≡ more = omega arith in
    simp (lt-leb (4 * n) (3 * 2 ^ lg) h, z)

-- the bound is met
pub least_out : (more lg n : ℕ) → more ≤ 0 → least_lg more lg n ≡ lg
unfolding least_lg
least_out zero lg n h = refl
least_out (suc more) lg n h = absurd (omega arith)

-- what it ends at: not below the start, not above its bound; short of the bound the items fit; and at none below do they fit
pub record Least (more lg n to : ℕ) : Type 0 where
  pub from : lg ≤ to
  pub most : to ≤ lg + more
  pub fit : to < lg + more → 4 * n ≤ 3 * 2 ^ to
  pub below : (k : ℕ) → lg ≤ k → k < to → 3 * 2 ^ k < 4 * n

-- least_lg is that number
pub least_is : (more lg n : ℕ) → Least more lg n (least_lg more lg n)
unfolding least_lg
least_is zero lg n = record { from = omega arith; most = omega arith; fit = λ l. absurd (omega arith); below = λ k a b. absurd (omega arith) }
least_is (suc more) lg n = go (fits n lg) refl (least_is more (lg + 1) n)
  where
    here : 4 * n ≤ 3 * 2 ^ lg → Least (suc more) lg n lg
    here h = record { from = omega arith; most = omega arith; fit = λ l. h; below = λ k a b. absurd (omega arith) }

    up : 3 * 2 ^ lg < 4 * n → (to : ℕ) → Least more (lg + 1) n to → Least (suc more) lg n to
    up h to w = record {
      from = omega (arith, w.from);
      most = omega (arith, w.most);
      fit = λ l. w.fit (omega arith);
      below = λ k a b. ⊎_elim (λ (e : lg ≡ k). subst (λ (j : ℕ). 3 * 2 ^ j < 4 * n) e h) (λ (m : lg < k). w.below k (omega arith) b) (eq-or-lt_of_le a);
    }

    go : (b : Bool) → fits n lg ≡ b → Least more (lg + 1) n (least_lg more (lg + 1) n) → Least (suc more) lg n (choose b lg (least_lg more (lg + 1) n))
    go true e w = here (leb-true (4 * n) (3 * 2 ^ lg) e)
    go false e w = up (leb-false (4 * n) (3 * 2 ^ lg) e) (least_lg more (lg + 1) n) w

-- a build's lg is at least 2
pub build_least : (n : ℕ) → 2 ≤ build_lg n
build_least n = (least_is 25 2 n).from

-- where it does not pass 26 the items fit
pub build_fits : (n : ℕ) → build_lg n ≤ 26 → 4 * n ≤ 3 * 2 ^ build_lg n
build_fits n h = (least_is 25 2 n).fit (omega arith)

-- and at no smaller one do they
pub build_below : (n k : ℕ) → 2 ≤ k → k < build_lg n → 3 * 2 ^ k < 4 * n
build_below n k a b = (least_is 25 2 n).below k a b
