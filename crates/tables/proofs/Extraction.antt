-- The extraction is what a call writes in two parts, and it lists each item of the table once. Assumes nothing.
use mathlib.Core.Path.{◌≡◌, refl, sym, ap, ap₂, ◌∙◌}
use mathlib.Core.Bool.{Bool, true, false, not}
use mathlib.Core.List.{List, [], ◌∷◌, ◌++◌, append_assoc}
use Prim.Native.Nat.{ℕ, zero, suc, ◌+◌, ◌-◌, ◌^◌, ◌≤◌, ◌<◌}
use native.Mathlib.Omega.{arith}
use native.Mathlib.Nat.{zero-add}
use lib.ListN.{length, get_or, take, drop, length-drop}
use lib.Seq.{take-suc, take-add, drop_at, length-take-le, get_or-take, get_or-drop, take-take}
use lib.Dec.{eqb}
use borrow.Author.Tests.{eq-eqb, ne_eqb}
use Rattle.laws.specs.Choose.{choose}
use Rattle.tables.specs.Slots.{empty}
use Rattle.tables.specs.Listings.{keep, backwards, is_item, high, front, extraction}
use Rattle.tables.specs.Shapes.{snoc, lows, highs, rest, Front, Extracted, Lawful}
use Rattle.tables.proofs.Kept.{sum_of, times_in, sum_append, sum_backwards, sum_length, keep_snoc, backwards_snoc, kept_items}

-- of the first k slots, the items with the bit clear and those with it set
pub lows_is : (s : List ℕ) (v k : ℕ) → k ≤ length s → keep (λ x. not (high v x)) (take k s) ≡ lows s v k
unfolding keep lows
lows_is s v zero h = refl
lows_is s v (suc k) h =
    ap (keep (λ x. not (high v x))) (take-suc s k 0 h)
    ∙ keep_snoc (λ x. not (high v x)) (take k s) (get_or s k 0)
    ∙ ap (λ (l : List ℕ). snoc (not (high v (get_or s k 0))) l (get_or s k 0)) (lows_is s v k (omega arith))

-- those with the bit set, the last first
pub highs_is : (s : List ℕ) (v k : ℕ) → k ≤ length s → backwards (keep (high v) (take k s)) ≡ highs s v k
unfolding keep backwards highs
highs_is s v zero h = refl
highs_is s v (suc k) h =
    ap (λ (l : List ℕ). backwards (keep (high v) l)) (take-suc s k 0 h)
    ∙ ap backwards (keep_snoc (high v) (take k s) (get_or s k 0))
    ∙ go (high v (get_or s k 0))
    ∙ ap (λ (l : List ℕ). choose (high v (get_or s k 0)) (get_or s k 0 ∷ l) l) (highs_is s v k (omega arith))
  where
    go : (b : Bool) → backwards (snoc b (keep (high v) (take k s)) (get_or s k 0)) ≡ choose b (get_or s k 0 ∷ backwards (keep (high v) (take k s))) (backwards (keep (high v) (take k s)))
    go true = backwards_snoc (keep (high v) (take k s)) (get_or s k 0)
    go false = refl

-- the items of the k slots from f on
pub rest_is : (s : List ℕ) (f k : ℕ) → f + k ≤ length s → keep is_item (take k (drop f s)) ≡ rest s f k
unfolding keep rest
rest_is s f zero h = refl
rest_is s f (suc k) h =
    let long : k < length (drop f s) = rw (length-drop f s) (omega arith) in
    ap (keep is_item) (take-suc (drop f s) k 0 long ∙ ap (λ (x : ℕ). take k (drop f s) ++ (x ∷ [])) (get_or-drop f s k 0))
    ∙ keep_snoc is_item (take k (drop f s)) (get_or s (f + k) 0)
    ∙ ap (λ (l : List ℕ). snoc (is_item (get_or s (f + k) 0)) l (get_or s (f + k) 0)) (rest_is s f k (omega arith))

-- the slots before the first empty one
front_of : (l : List ℕ) (i : ℕ) → i ≤ length l → ((k : ℕ) → k < i → get_or l k 0 ≡ empty → ⊥) → (i < length l → get_or l i 0 ≡ empty) → front l ≡ take i l
unfolding front
front_of [] zero h full ends = refl
front_of [] (suc i) h full ends = absurd (omega arith)
front_of (x ∷ l) zero h full ends = simp (eq-eqb x empty (ends (omega arith)))
front_of (x ∷ l) (suc i) h full ends =
    rw (ne_eqb x empty (full 0 (omega arith))) (ap (λ (m : List ℕ). x ∷ m) (front_of l i (omega arith) (λ k m. full (suc k) (omega arith)) (λ m. ends (omega arith))))

-- Of a region s the first n slots, with the first empty one at i.
module _ (s : List ℕ) (n i v : ℕ) (f : Front s n i) (long : n ≤ length s) where
  front_is : front (take n s) ≡ take i s
  front_is =
      let e : length (take n s) ≡ n = length-take-le n s long in
      front_of (take n s) i (rw e f.within) (λ k h z. f.full k h (sym (get_or-take n s k 0 (omega (arith, f.within))) ∙ z))
      (λ h. get_or-take n s i 0 (rw e at h) ∙ f.ends (rw e at h)) ∙ take-take i n s f.within

  short : i ≤ length s
  short = omega (arith, f.within)

  after : drop (length (front (take n s))) (take n s) ≡ take (n - i) (drop i s)
  after =
      let e : i + (n - i) ≡ n = omega (arith, f.within) in
      let len : length (take i s) ≡ i = length-take-le i s short in
      ap (λ (l : List ℕ). drop (length l) (take n s)) front_is
      ∙ ap (λ (l : List ℕ). drop (length (take i s)) l) (ap (λ (k : ℕ). take k s) (sym e) ∙ take-add i (n - i) s)
      ∙ drop_at (take i s) (take (n - i) (drop i s)) (length (take i s)) refl

  -- the extraction as the code writes it
  pub extraction_is : extraction (take n s) v ≡ lows s v i ++ rest s i (n - i) ++ highs s v i
  unfolding extraction
  extraction_is = ap₂ ◌++◌ (ap₂ ◌++◌ (ap (keep (λ x. not (high v x))) front_is ∙ lows_is s v i short) (ap (keep is_item) after ∙ rest_is s i (n - i) (omega (arith, f.within))))
      (ap (λ (l : List ℕ). backwards (keep (high v) l)) front_is ∙ highs_is s v i short)

-- what the code writes is the extraction, and then what was there
pub extracted_is : (s o u : List ℕ) (n v c i : ℕ) → Extracted s o u n v c i → n ≤ length s → u ≡ extraction (take n s) v ++ drop c o
extracted_is s o u n v c i w long =
    w.now_is
    ∙ sym (append_assoc (lows s v i) (rest s i (n - i)) (highs s v i ++ drop c o))
    ∙ sym (append_assoc (lows s v i ++ rest s i (n - i)) (highs s v i) (drop c o))
    ∙ ap (λ (l : List ℕ). l ++ drop c o) (sym (extraction_is s n i v w.front long))

sum_both : (f : ℕ → ℕ) (test : ℕ → Bool) (a : List ℕ) → sum_of f (keep (λ x. not (test x)) a) + sum_of f (keep test a) ≡ sum_of f a
unfolding sum_of keep
sum_both f test [] = refl
sum_both f test (x ∷ a) = go (test x) (sum_both f test a)
  where
    no : List ℕ
    no = keep (λ x. not (test x)) a

    go : (b : Bool) → sum_of f no + sum_of f (keep test a) ≡ sum_of f a
        → sum_of f (choose (not b) (x ∷ no) no) + sum_of f (choose b (x ∷ keep test a) (keep test a)) ≡ f x + sum_of f a
    go true e = omega arith
    go false e = omega arith

sum_front : (f : ℕ → ℕ) (l : List ℕ) → sum_of f (front l) + sum_of f (keep is_item (drop (length (front l)) l)) ≡ sum_of f (keep is_item l)
unfolding sum_of keep front
sum_front f [] = refl
sum_front f (x ∷ l) = go (eqb x empty) refl (sum_front f l)
  where
    go : (b : Bool) → eqb x empty ≡ b → sum_of f (front l) + sum_of f (keep is_item (drop (length (front l)) l)) ≡ sum_of f (keep is_item l)
        → sum_of f (choose b [] (x ∷ front l)) + sum_of f (keep is_item (drop (length (choose b [] (x ∷ front l))) (x ∷ l))) ≡ sum_of f (choose (not (eqb x empty)) (x ∷ keep is_item l) (keep is_item l))
    go true z e = zero-add (sum_of f (choose (not (eqb x empty)) (x ∷ keep is_item l) (keep is_item l)))
    go false z e = rw z (omega arith)

-- Summed over the extraction or over the items in slot order, any f gives the same.
pub extraction_sum : (f : ℕ → ℕ) (l : List ℕ) (v : ℕ) → sum_of f (extraction l v) ≡ sum_of f (keep is_item l)
unfolding extraction
extraction_sum f l v =
    sum_append f (lower ++ later) (backwards upper)
    ∙ ap₂ ◌+◌ (sum_append f lower later) (sum_backwards f upper)
    ∙ omega (arith, sum_both f (high v) (front l), sum_front f l)
  where
    lower : List ℕ
    lower = keep (λ x. not (high v x)) (front l)

    later : List ℕ
    later = keep is_item (drop (length (front l)) l)

    upper : List ℕ
    upper = keep (high v) (front l)

-- So it lists each number as often as the slots hold it: each item of a lawful table once.
pub extraction_times : (l : List ℕ) (v y : ℕ) → times_in y (extraction l v) ≡ times_in y (keep is_item l)
extraction_times l v y = extraction_sum (λ x. choose (eqb x y) 1 0) l v

-- and it is as long as the table counts
pub extraction_length : (s : List ℕ) (lg v c : ℕ) → Lawful s lg v c → length (extraction (take (2 ^ lg) s) v) ≡ c
extraction_length s lg v c l =
    sym (sum_length (extraction (take (2 ^ lg) s) v)) ∙ extraction_sum (λ x. 1) (take (2 ^ lg) s) v ∙ sum_length (keep is_item (take (2 ^ lg) s)) ∙ kept_items s (2 ^ lg) l.room ∙ l.count
