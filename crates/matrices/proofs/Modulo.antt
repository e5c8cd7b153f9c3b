-- The pairs of a set, their rows taken mod k. Assumes nothing.
use mathlib.Core.Path.{◌≡◌, refl, sym, ap, ap₂, ◌∙◌, subst}
use mathlib.Core.Logic.{⊎_elim}
use mathlib.Core.Bool.{Bool, true, false, ◌&&◌, ◌||◌, true≢false}
use Prim.Native.Nat.{ℕ, ◌*◌, ◌%◌, ◌≤◌, ◌<◌}
use native.Mathlib.Nat.{mod-lt, mod-mod_of_dvd, dvd-mul_right}
use native.Mathlib.Omega.{arith}
use borrow.Author.Tests.{eqb-true, eq-eqb, lt-ltb, le-ltb}
use lib.Dec.{eqb, ltb}
use Rattle.laws.specs.Below.{any_below}
use Rattle.laws.proofs.Any.{any_find, any_of, any_same}
use Rattle.laws.proofs.Truths.{both_true, never_true, and_left, and_right, or_true, or_left, or_right}
use Rattle.matrices.specs.Calls.{down_to}

-- (r, c) is there exactly if some row t of the set with t mod k = r has c
pub down_find : (k n : ℕ) (f : ℕ → ℕ → Bool) (r c : ℕ) → down_to k n f r c ≡ true → (t : ℕ) × (t < n) × (t % k ≡ r) × (f t c ≡ true)
down_find k n f r c e =
    let u = any_find n (λ t. eqb (t % k) r && f t c) (and_right (ltb r k) (any_below n (λ t. eqb (t % k) r && f t c)) e) in
    (u.0, u.1, eqb-true (u.0 % k) r (and_left (eqb (u.0 % k) r) (f u.0 c) u.2), and_right (eqb (u.0 % k) r) (f u.0 c) u.2)

-- and any such row puts it there
pub down_of : (k n : ℕ) (f : ℕ → ℕ → Bool) (t c : ℕ) → 0 < k → t < n → f t c ≡ true → down_to k n f (t % k) c ≡ true
down_of k n f t c p h e =
    ap₂ ◌&&◌ (lt-ltb (t % k) k (mod-lt t p)) (any_of n (λ s. eqb (s % k) (t % k) && f s c) t h (ap₂ ◌&&◌ (eq-eqb (t % k) (t % k) refl) e))

-- no row from k on
pub down_past : (k n : ℕ) (f : ℕ → ℕ → Bool) (r c : ℕ) → k ≤ r → down_to k n f r c ≡ false
down_past k n f r c h = ap (λ (t : Bool). t && any_below n (λ t. eqb (t % k) r && f t c)) (le-ltb r k h)

-- of an empty set nothing
pub down_none : (k n r c : ℕ) → down_to k n (λ t d. false) r c ≡ false
down_none k n r c = never_true (down_to k n (λ t d. false) r c) (λ e. true≢false (sym (down_find k n (λ t d. false) r c e).3))

-- sets that agree below n
pub down_same : (k n : ℕ) (f g : ℕ → ℕ → Bool) (r c : ℕ) → ((t : ℕ) → t < n → f t c ≡ g t c) → down_to k n f r c ≡ down_to k n g r c
down_same k n f g r c e =
    ap (λ (t : Bool). ltb r k && t) (any_same n (λ t. eqb (t % k) r && f t c) (λ t. eqb (t % k) r && g t c) (λ t h. ap (λ (x : Bool). eqb (t % k) r && x) (e t h)))

-- of two sets together: what is there of one, and what is there of the other
pub down_or : (k n : ℕ) (f g : ℕ → ℕ → Bool) (r c : ℕ) → 0 < k → down_to k n (λ t d. f t d || g t d) r c ≡ (down_to k n f r c || down_to k n g r c)
down_or k n f g r c p =
    both_true (down_to k n (λ t d. f t d || g t d) r c) (down_to k n f r c || down_to k n g r c)
    (λ e.
    let u = down_find k n (λ t d. f t d || g t d) r c e in
    ⊎_elim (λ (a : f u.0 c ≡ true). or_left (down_to k n f r c) (down_to k n g r c) (there f u.0 u.1 u.2 a))
    (λ (a : g u.0 c ≡ true). or_right (down_to k n f r c) (down_to k n g r c) (there g u.0 u.1 u.2 a)) (or_true (f u.0 c) (g u.0 c) u.3))
    (λ e.
    ⊎_elim
    (λ (a : down_to k n f r c ≡ true).
    let u = down_find k n f r c a in
    there (λ t d. f t d || g t d) u.0 u.1 u.2 (or_left (f u.0 c) (g u.0 c) u.3))
    (λ (a : down_to k n g r c ≡ true).
    let u = down_find k n g r c a in
    there (λ t d. f t d || g t d) u.0 u.1 u.2 (or_right (f u.0 c) (g u.0 c) u.3)) (or_true (down_to k n f r c) (down_to k n g r c) e))
  where
    there : (h : ℕ → ℕ → Bool) (t : ℕ) → t < n → t % k ≡ r → h t c ≡ true → down_to k n h r c ≡ true
    there h t l q e = subst (λ (x : ℕ). down_to k n h x c ≡ true) q (down_of k n h t c p l e)

-- first mod k·d, then mod k: nothing is lost by going in two steps
pub down_down : (k d n size : ℕ) (f : ℕ → ℕ → Bool) (r c : ℕ) → 0 < k → 0 < k * d → k * d ≤ size → down_to k size (down_to (k * d) n f) r c ≡ down_to k n f r c
down_down k d n size f r c p q l =
    both_true (down_to k size (down_to (k * d) n f) r c) (down_to k n f r c)
    (λ e.
    let u = down_find k size (down_to (k * d) n f) r c e in
    let v = down_find (k * d) n f u.0 c u.3 in
    subst (λ (x : ℕ). down_to k n f x c ≡ true) (sym (twice v.0) ∙ ap (λ (x : ℕ). x % k) v.2 ∙ u.2) (down_of k n f v.0 c p v.1 v.3))
    (λ e.
    let v = down_find k n f r c e in
    let s = v.0 % (k * d) in
    subst (λ (x : ℕ). down_to k size (down_to (k * d) n f) x c ≡ true) (twice v.0 ∙ v.2)
    (down_of k size (down_to (k * d) n f) s c p (omega (arith, mod-lt v.0 q)) (down_of (k * d) n f v.0 c q v.1 v.3)))
  where
    twice : (t : ℕ) → t % (k * d) % k ≡ t % k
    twice t = mod-mod_of_dvd k t (dvd-mul_right k d)
