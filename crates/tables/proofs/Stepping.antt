-- Steps from slot to slot, past the last slot to the first. Assumes nothing.
use mathlib.Core.Path.{◌≡◌, refl, sym, ap, ◌∙◌}
use mathlib.Core.Logic.{◌⊎◌, inl, inr, ⊎_elim}
use Prim.Native.Nat.{ℕ, zero, suc, ◌+◌, ◌-◌, ◌≤◌, ◌<◌}
use native.Mathlib.Omega.{arith}
use native.Mathlib.Nat.{zero-add, suc-add}
use native.Mathlib.Numerals.{lt_of_le_of_ne}
use Rattle.laws.proofs.Orders.{same_or_not, le_or_lt}
use Rattle.tables.specs.Slots.{next}
use Rattle.tables.specs.Shapes.{steps}
use Rattle.tables.proofs.Laws.{next_wrap, next_inner}

-- so many steps, and then so many
pub steps_add : (n p a b : ℕ) → steps n p (a + b) ≡ steps n (steps n p a) b
unfolding steps
steps_add n p zero b = rw zero-add
steps_add n p (suc a) b = rw suc-add (steps_add n (next n p) a b)

-- steps that do not pass the end
pub steps_line : (n p k : ℕ) → p + k < n → steps n p k ≡ p + k
unfolding steps
steps_line n p zero l = omega arith
steps_line n p (suc k) l =
    let e : next n p ≡ p + 1 = next_inner n p (λ h. omega arith) in
    let i : steps n (p + 1) k ≡ p + 1 + k = steps_line n (p + 1) k (omega arith) in
    rw e (i ∙ omega arith)

-- the distance from h to p, as the code computes it
pub steps_ahead : (n h p : ℕ) → p < n → h ≤ p → steps n h (p - h) ≡ p
steps_ahead n h p pn l = steps_line n h (p - h) (omega arith) ∙ omega arith

-- it lies behind: past the end
pub steps_behind : (n h p : ℕ) → h < n → p < h → steps n h (n - h + p) ≡ p
unfolding steps
steps_behind n h p hn l =
    let last : steps n h (n - 1 - h) ≡ n - 1 = steps_line n h (n - 1 - h) (omega arith) ∙ omega arith in
    let wrap : steps n h (n - 1 - h + 1) ≡ 0 = steps_add n h (n - 1 - h) 1 ∙ ap (next n) last ∙ next_wrap n (n - 1) (omega arith) in
    let more : steps n 0 p ≡ p = steps_line n 0 p (omega arith) ∙ omega arith in
    let e : n - h + p ≡ n - 1 - h + 1 + p = omega arith in
    rw e (steps_add n h (n - 1 - h + 1) p ∙ ap (λ z. steps n z p) wrap ∙ more)

-- from the first slot, all the way round
pub steps_around : (n h : ℕ) → h < n → h ≡ 0 → steps n h (n - h) ≡ 0
unfolding steps
steps_around n h hn z =
    let last : steps n h (n - 1) ≡ n - 1 = steps_line n h (n - 1) (omega arith) ∙ omega arith in
    let e : n - h ≡ n - 1 + 1 = omega arith in
    rw e (steps_add n h (n - 1) 1 ∙ ap (next n) last ∙ next_wrap n (n - 1) (omega arith))

-- every slot is met within n steps
pub meets : (n h p : ℕ) → h < n → p < n → (k : ℕ) × (k < n) × (steps n h k ≡ p)
meets n h p hn pn = ⊎_elim (λ l. (p - h, omega arith, steps_ahead n h p pn l)) (λ l. (n - h + p, omega arith, steps_behind n h p hn l)) (le_or_lt h p)

-- the next slot is a slot
pub next_lt : (n p : ℕ) → p < n → next n p < n
next_lt n p l = ⊎_elim (λ e. rw (next_wrap n p e) (omega arith)) (λ d. rw (next_inner n p d) (lt_of_le_of_ne (omega arith) d)) (same_or_not (p + 1) n)

-- steps never part or join
next_inj : (n a b : ℕ) → a < n → b < n → next n a ≡ next n b → a ≡ b
next_inj n a b la lb e = go (same_or_not (a + 1) n) (same_or_not (b + 1) n)
  where
    go : (a + 1 ≡ n) ⊎ (a + 1 ≡ n → ⊥) → (b + 1 ≡ n) ⊎ (b + 1 ≡ n → ⊥) → a ≡ b
    go (inl x) (inl y) = omega arith
    go (inl x) (inr y) = omega (arith, next_wrap n a x, next_inner n b y)
    go (inr x) (inl y) = omega (arith, next_inner n a x, next_wrap n b y)
    go (inr x) (inr y) = omega (arith, next_inner n a x, next_inner n b y)

-- so is the one after any steps
pub steps_lt : (n p k : ℕ) → p < n → steps n p k < n
unfolding steps
steps_lt n p zero l = l
steps_lt n p (suc k) l = steps_lt n (next n p) k (next_lt n p l)

-- from two slots as many steps lead to two slots
pub steps_inj : (n a b k : ℕ) → a < n → b < n → steps n a k ≡ steps n b k → a ≡ b
unfolding steps
steps_inj n a b zero la lb e = e
steps_inj n a b (suc k) la lb e = next_inj n a b la lb (steps_inj n (next n a) (next n b) k (next_lt n a la) (next_lt n b lb) e)

-- Steps from a slot do not come back to it before n.
pub steps_self : (n i r : ℕ) → i < n → 0 < r → r < n → i ≡ steps n i r → ⊥
steps_self n i r l p m e = ⊎_elim over under (le_or_lt n (i + r))
  where
    under : i + r < n → ⊥
    under h = omega (arith, steps_line n i r h)

    over : n ≤ i + r → ⊥
    over h =
        let z : n - i + (i + r - n) ≡ r = omega arith in
        let b : steps n i (n - i + (i + r - n)) ≡ i + r - n = steps_behind n i (i + r - n) l (omega arith) in
        let g : i ≡ i + r - n = e ∙ ap (steps n i) (sym z) ∙ b in
        omega arith

-- two numbers of steps below n lead to two slots
pub steps_apart : (n i t u : ℕ) → i < n → t < u → u < n → steps n i t ≡ steps n i u → ⊥
steps_apart n i t u l h m e =
    let z : u ≡ u - t + t = omega arith in
    steps_self n i (u - t) l (omega arith) (omega arith)
    (steps_inj n i (steps n i (u - t)) t l (steps_lt n i (u - t) l) (e ∙ ap (steps n i) z ∙ steps_add n i (u - t) t))

-- one step more
pub step_on : (n i t : ℕ) → steps n i (t + 1) ≡ next n (steps n i t)
unfolding steps
step_on n i t = steps_add n i t 1

-- the first step
pub step_on' : (n i : ℕ) → steps n i 1 ≡ next n i
unfolding steps
step_on' n i = refl
