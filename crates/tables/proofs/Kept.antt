-- Sums over lists, and the lists of items that are kept: two lists of the same sums hold the same, each as often. Assumes nothing.
use mathlib.Core.Path.{◌≡◌, refl, sym, ap, ◌∙◌}
use mathlib.Core.Bool.{Bool, true, false, not}
use mathlib.Core.List.{List, [], ◌∷◌, ◌++◌, append-nil}
use Prim.Native.Nat.{ℕ, zero, suc, ◌+◌, ◌≤◌}
use native.Mathlib.Omega.{arith}
use native.Mathlib.Nat.{zero-add}
use lib.ListN.{length, get_or, take}
use lib.Seq.{take-suc}
use lib.Dec.{eqb}
use Rattle.laws.specs.Below.{sum_below}
use Rattle.laws.specs.Choose.{choose}
use Rattle.laws.specs.Lists.{list_of}
use Rattle.laws.proofs.Sums.{sum_same}
use Rattle.tables.specs.Slots.{empty, total, held, items}
use Rattle.tables.specs.Listings.{keep, backwards, is_item}
use Rattle.tables.specs.Shapes.{snoc}

-- the sum of f over a list
unfoldable pub sum_of : (ℕ → ℕ) → List ℕ → ℕ
sum_of f [] = 0
sum_of f (x ∷ more) = f x + sum_of f more

-- how often y stands in a list
abbrev pub times_in : ℕ → List ℕ → ℕ
times_in y l = sum_of (λ x. choose (eqb x y) 1 0) l

-- of two lists one after the other
pub sum_append : (f : ℕ → ℕ) (a b : List ℕ) → sum_of f (a ++ b) ≡ sum_of f a + sum_of f b
unfolding sum_of
sum_append f [] b = sym (zero-add (sum_of f b))
sum_append f (x ∷ a) b = omega (arith, sum_append f a b)

-- of a list backwards
pub sum_backwards : (f : ℕ → ℕ) (a : List ℕ) → sum_of f (backwards a) ≡ sum_of f a
unfolding sum_of backwards
sum_backwards f [] = refl
sum_backwards f (x ∷ a) = sum_append f (backwards a) (x ∷ []) ∙ omega (arith, sum_backwards f a)

-- of what is kept of a list
pub sum_keep : (f : ℕ → ℕ) (test : ℕ → Bool) (a : List ℕ) → sum_of f (keep test a) ≡ sum_of (λ x. choose (test x) (f x) 0) a
unfolding sum_of keep
sum_keep f test [] = refl
sum_keep f test (x ∷ a) = go (test x) (sum_keep f test a)
  where
    go : (b : Bool) → sum_of f (keep test a) ≡ sum_of (λ x. choose (test x) (f x) 0) a → sum_of f (choose b (x ∷ keep test a) (keep test a)) ≡ choose b (f x) 0 + sum_of (λ x. choose (test x) (f x) 0) a
    go true e = ap (λ (n : ℕ). f x + n) e
    go false e = e ∙ sym (zero-add (sum_of (λ x. choose (test x) (f x) 0) a))

-- ones make the length
pub sum_length : (a : List ℕ) → sum_of (λ x. 1) a ≡ length a
unfolding sum_of
sum_length [] = refl
sum_length (x ∷ a) = omega (arith, sum_length a)

-- the first n of a list, and a list that is given by a function
pub sum_take : (f : ℕ → ℕ) (s : List ℕ) (n : ℕ) → n ≤ length s → sum_of f (take n s) ≡ sum_below n (λ p. f (get_or s p 0))
unfolding sum_of sum_below
sum_take f s zero h = refl
sum_take f s (suc n) h = ap (sum_of f) (take-suc s n 0 h) ∙ sum_append f (take n s) (get_or s n 0 ∷ []) ∙ omega (arith, sum_take f s n (omega arith))

sum_first : (n : ℕ) (f : ℕ → ℕ) → sum_below (suc n) f ≡ f 0 + sum_below n (λ i. f (suc i))
unfolding sum_below
sum_first zero f = omega arith
sum_first (suc n) f = omega (arith, sum_first n f)

-- of a list that is given by a function
pub sum_list_of : (f h : ℕ → ℕ) (n : ℕ) → sum_of f (list_of n h) ≡ sum_below n (λ i. f (h i))
unfolding sum_of list_of sum_below
sum_list_of f h zero = refl
sum_list_of f h (suc n) = omega (arith, sum_list_of f (λ i. h (suc i)) n, sum_first n (λ i. f (h i)))

-- a total over slots is such a sum
pub total_sum : (f : ℕ → ℕ) (s : List ℕ) (n : ℕ) → total f s n ≡ sum_below n (λ p. f (get_or s p 0))
unfolding total sum_below
total_sum f s zero = refl
total_sum f s (suc n) = omega (arith, total_sum f s n)

-- as many items are kept as slots hold one
pub kept_items : (s : List ℕ) (n : ℕ) → n ≤ length s → length (keep is_item (take n s)) ≡ items s n
unfolding held
kept_items s n h =
    sym (sum_length (keep is_item (take n s))) ∙ sum_keep (λ x. 1) is_item (take n s) ∙ sum_take (λ x. choose (is_item x) 1 0) s n h ∙ sum_same n (λ p. choose (is_item (get_or s p 0)) 1 0) (λ p. held (get_or s p 0)) (λ p l. turned (eqb (get_or s p 0) empty)) ∙ sym (total_sum held s n)
  where
    turned : (b : Bool) → choose {A = ℕ} (not b) 1 0 ≡ choose b 0 1
    turned true = refl
    turned false = refl

-- what is kept of a list with one more
pub keep_append : (test : ℕ → Bool) (a b : List ℕ) → keep test (a ++ b) ≡ keep test a ++ keep test b
unfolding keep
keep_append test [] b = refl
keep_append test (x ∷ a) b = go (test x) (keep_append test a b)
  where
    go : (c : Bool) → keep test (a ++ b) ≡ keep test a ++ keep test b → choose c (x ∷ keep test (a ++ b)) (keep test (a ++ b)) ≡ choose c (x ∷ keep test a) (keep test a) ++ keep test b
    go true e = ap (λ (l : List ℕ). x ∷ l) e
    go false e = e

-- with one item more
pub keep_snoc : (test : ℕ → Bool) (a : List ℕ) (x : ℕ) → keep test (a ++ (x ∷ [])) ≡ snoc (test x) (keep test a) x
unfolding keep
keep_snoc test a x = keep_append test a (x ∷ []) ∙ go (test x)
  where
    go : (b : Bool) → keep test a ++ choose b (x ∷ []) [] ≡ snoc b (keep test a) x
    go true = refl
    go false = append-nil (keep test a)

-- backwards it comes first
pub backwards_snoc : (a : List ℕ) (x : ℕ) → backwards (a ++ (x ∷ [])) ≡ x ∷ backwards a
unfolding backwards
backwards_snoc [] x = refl
backwards_snoc (y ∷ a) x = ap (λ (l : List ℕ). l ++ (y ∷ [])) (backwards_snoc a x)
