-- The members of a list of pairs; a sorted list is the list of its members. Assumes nothing.
use mathlib.Core.Path.{◌≡◌, refl, sym, ap, ap₂, ◌∙◌, subst}
use mathlib.Core.Logic.{⊎_elim}
use mathlib.Core.Bool.{Bool, true, false, ◌&&◌, ◌||◌}
use mathlib.Core.List.{List, [], ◌∷◌, ◌++◌, append-nil}
use Prim.Native.Nat.{ℕ, zero, suc, ◌+◌, ◌≤◌, ◌<◌}
use native.Mathlib.Nat.{zero-add, not-suc-le-zero, eq-or-lt_of_le, le_of_suc-le-suc}
use native.Mathlib.Omega.{arith}
use borrow.Author.Tests.{eq-eqb, ne_eqb, lt-ltb, le-ltb}
use lib.Dec.{eqb, ltb}
use lib.ListN.{length, get_or, take}
use lib.Seq.{take-suc, take_all}
use Rattle.laws.specs.Below.{any_below}
use Rattle.laws.proofs.Any.{any_of, any_none}
use Rattle.laws.proofs.Orders.{lt_or_le, same_or_not}
use Rattle.laws.proofs.Truths.{or_false, or_assoc, and_true, and_false}
use Rattle.matrices.specs.Listing.{only, list_from, in_list}
use Rattle.matrices.specs.Shapes.{Sorted, Between}

-- p is one of the first i pairs
abbrev pub among_first : List ℕ → ℕ → ℕ → Bool
among_first ps i p = any_below i (λ j. eqb (get_or ps j 0) p)

any_shift : (n : ℕ) (f : ℕ → Bool) → any_below (suc n) f ≡ (f 0 || any_below n (λ i. f (suc i)))
unfolding any_below
any_shift zero f = sym (or_false (f 0))
any_shift (suc n) f = ap (λ (b : Bool). b || f (suc n)) (any_shift n f) ∙ or_assoc (f 0) (any_below n (λ i. f (suc i))) (f (suc n))

in_nil : (x : ℕ) → in_list [] x ≡ false
unfolding in_list any_below
in_nil x = refl

in_cons : (y : ℕ) (l : List ℕ) (x : ℕ) → in_list (y ∷ l) x ≡ (eqb y x || in_list l x)
unfolding in_list
in_cons y l x = any_shift (length l) (λ i. eqb (get_or (y ∷ l) i 0) x)

in_append : (l r : List ℕ) (x : ℕ) → in_list (l ++ r) x ≡ (in_list l x || in_list r x)
in_append [] r x = sym (ap (λ (b : Bool). b || in_list r x) (in_nil x))
in_append (y ∷ l) r x =
    in_cons y (l ++ r) x ∙ ap (λ (b : Bool). eqb y x || b) (in_append l r x) ∙ sym (or_assoc (eqb y x) (in_list l x) (in_list r x))
    ∙ ap (λ (b : Bool). b || in_list r x) (sym (in_cons y l x))

in_only : (b : Bool) (y x : ℕ) → in_list (only b y) x ≡ (b && eqb y x)
in_only true y x = in_cons y [] x ∙ ap (λ (b : Bool). eqb y x || b) (in_nil x) ∙ or_false (eqb y x)
in_only false y x = in_nil x

-- the members of the list of those below n that pass the test are those below n that pass the test
pub in_list_is : (n : ℕ) (p : ℕ → Bool) (x : ℕ) → in_list (list_from 0 n p) x ≡ (ltb x n && p x)
unfolding list_from
in_list_is zero p x = in_nil x ∙ sym (ap (λ (b : Bool). b && p x) (le-ltb x 0 (omega arith)))
in_list_is (suc n) p x =
    in_append (list_from 0 n p) (only (p (0 + n)) (0 + n)) x
    ∙ ap₂ ◌||◌ (in_list_is n p x) (ap (λ (y : ℕ). in_list (only (p y) y) x) (zero-add n) ∙ in_only (p n) n x)
    ∙ ⊎_elim
    (λ (e : x ≡ n).
    ap₂ (λ (a b : Bool). (a && p x) || (p n && b)) (le-ltb x n (omega arith)) (eq-eqb n x (sym e)) ∙ and_true (p n) ∙ ap p (sym e)
    ∙ sym (ap (λ (b : Bool). b && p x) (lt-ltb x (suc n) (omega arith))))
    (λ (k : x ≡ n → ⊥).
    ap (λ (b : Bool). (ltb x n && p x) || (p n && b)) (ne_eqb n x (λ q. k (sym q))) ∙ ap (λ (b : Bool). (ltb x n && p x) || b) (and_false (p n)) ∙ or_false (ltb x n && p x)
    ∙ ap (λ (b : Bool). b && p x)
    (⊎_elim (λ (l : x < n). lt-ltb x n l ∙ sym (lt-ltb x (suc n) (omega arith))) (λ (l : n ≤ x). le-ltb x n l ∙ sym (le-ltb x (suc n) (omega arith))) (lt_or_le x n)))
    (same_or_not x n)

-- a sorted list of numbers below n is the list of its members: by how many of it are below n
module _ (ps : List ℕ) (s : Sorted ps) where
  Upto : ℕ → Type 0
  Upto n = (j : ℕ) × Between ps j n n × (list_from 0 n (in_list ps) ≡ take j ps)

  found : (n j : ℕ) → Between ps j n n → j < length ps → get_or ps j 0 ≡ n → list_from 0 n (in_list ps) ≡ take j ps → Upto (suc n)
  unfolding Upto list_from in_list
  found n j b h e q = (
    suc j,
    record {
      within = h;
      before = λ i l. ⊎_elim (λ (g : i ≡ j). omega (arith, ap (λ (x : ℕ). get_or ps x 0) g)) (λ (g : i < j). omega (arith, b.before i g)) (eq-or-lt_of_le (le_of_suc-le-suc l));
      after = λ i l k. omega (arith, s.less j i l k);
    },
    ap₂ (λ (l : List ℕ) (x : ℕ). l ++ only (in_list ps x) x) q (zero-add n)
        ∙ ap (λ (t : Bool). take j ps ++ only t n) (any_of (length ps) (λ i. eqb (get_or ps i 0) n) j h (eq-eqb (get_or ps j 0) n e))
        ∙ ap (λ (x : ℕ). take j ps ++ (x ∷ [])) (sym e)
        ∙ sym (take-suc ps j 0 h),
  )

  missed : (n j : ℕ) → Between ps j n n → (j < length ps → n < get_or ps j 0) → list_from 0 n (in_list ps) ≡ take j ps → Upto (suc n)
  unfolding Upto list_from in_list
  missed n j b h q =
      let above : (i : ℕ) → j ≤ i → i < length ps → n < get_or ps i 0 = λ i l k.
      ⊎_elim (λ (g : j ≡ i). subst (λ (x : ℕ). n < get_or ps x 0) g (h (omega arith))) (λ (g : j < i). omega (arith, h (omega arith), s.less j i g k)) (eq-or-lt_of_le l) in (
        j,
        record { within = b.within; before = λ i l. omega (arith, b.before i l); after = above },
        ap₂ (λ (l : List ℕ) (x : ℕ). l ++ only (in_list ps x) x) q (zero-add n)
            ∙ ap (λ (t : Bool). take j ps ++ only t n)
            (any_none (length ps) (λ i. eqb (get_or ps i 0) n)
            (λ i l. ne_eqb (get_or ps i 0) n (⊎_elim (λ (g : i < j). omega (arith, b.before i g)) (λ (g : j ≤ i). omega (arith, above i g l)) (lt_or_le i j))))
            ∙ append-nil (take j ps),
      )

  upto : (n : ℕ) → Upto n
  unfolding Upto list_from
  upto zero = (0, record { within = omega arith; before = λ i h. absurd (not-suc-le-zero h); after = λ i h k. omega arith }, refl)
  upto (suc n) = step (upto n)
    where
      step : Upto n → Upto (suc n)
      step u =
          let j = u.0 in
          let b = u.1 in
          ⊎_elim
          (λ (h : j < length ps).
          ⊎_elim (λ (e : get_or ps j 0 ≡ n). found n j b h e u.2)
          (λ (k : get_or ps j 0 ≡ n → ⊥). missed n j b (λ l. omega (arith, b.after j (omega arith) h)) u.2) (same_or_not (get_or ps j 0) n))
          (λ (h : length ps ≤ j). missed n j b (λ l. omega arith) u.2) (lt_or_le j (length ps))

  -- so that n numbers give the whole list
  pub list_of_sorted : (n : ℕ) → ((i : ℕ) → i < length ps → get_or ps i 0 < n) → list_from 0 n (in_list ps) ≡ ps
  unfolding Upto
  list_of_sorted n h =
      let u = upto n in
      let e : length ps ≤ u.0 = ⊎_elim (λ (l : u.0 < length ps). omega (arith, u.1.after u.0 (omega arith) l, h u.0 l)) (λ (l : length ps ≤ u.0). l) (lt_or_le u.0 (length ps)) in
      u.2 ∙ take_all u.0 ps e
