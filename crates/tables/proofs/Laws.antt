-- Laws of the search. Assumes nothing.
use mathlib.Core.Path.{◌≡◌, refl, sym, ◌∙◌}
use mathlib.Core.Bool.{Bool, true, false, ◌||◌, true≢false, false≢true}
use mathlib.Core.Logic.{◌⊎◌, ⊎_elim}
use mathlib.Core.List.{List}
use Prim.Native.Nat.{ℕ, zero, suc, ◌+◌, ◌-◌, ◌/◌, ◌^◌, ◌≤◌, ◌<◌}
use native.Mathlib.Omega.{arith}
use lib.ListN.{length, get_or, set, replicate, length-replicate, get_or-replicate}
use lib.Seq.{get_or-set_same, get_or-set_other, ext_get_or}
use lib.Dec.{eqb, ltb}
use lib.Pow.{shr_lt}
use native.Mathlib.Nat.{add-zero, eq-or-lt_of_le}
use native.Mathlib.Numerals.{add-one}
use borrow.Author.Tests.{eq-eqb, ne_eqb, ltb-true, ltb-false}
use Rattle.tables.specs.Slots.{empty, next, stops, probe, held, total, items}
use Rattle.tables.specs.Shapes.{Decides, Placed, AllPlaced, EmptyFrom}

-- after the last slot comes the first
pub next_wrap : (n p : ℕ) → p + 1 ≡ n → next n p ≡ 0
unfolding next
next_wrap n p e = simp (eq-eqb (p + 1) n e)

-- after any other comes the one after it
pub next_inner : (n p : ℕ) → (p + 1 ≡ n → ⊥) → next n p ≡ p + 1
unfolding next
next_inner n p e = simp (ne_eqb (p + 1) n e)

-- x stops a search for x
pub stops_same : (s : List ℕ) (x p : ℕ) → get_or s p 0 ≡ x → stops s x p ≡ true
unfolding stops
stops_same s x p e = simp (eq-eqb (get_or s p 0) x e)

-- so does an empty slot
pub stops_empty : (s : List ℕ) (x p : ℕ) → get_or s p 0 ≡ empty → stops s x p ≡ true
unfolding stops
stops_empty s x p e = rw (eq-eqb (get_or s p 0) empty e) (either (eqb (get_or s p 0) x))
  where
    either : (b : Bool) → (b || true) ≡ true
    either true = refl
    either false = refl

-- nothing else does
pub stops_not : (s : List ℕ) (x p : ℕ) → (get_or s p 0 ≡ x → ⊥) → (get_or s p 0 ≡ empty → ⊥) → stops s x p ≡ false
unfolding stops
stops_not s x p e f = simp (ne_eqb (get_or s p 0) x e, ne_eqb (get_or s p 0) empty f)

-- a search that stops here ends here
pub probe_stop : (s : List ℕ) (n x left p : ℕ) → 0 < left → stops s x p ≡ true → probe s n x left p ≡ p
unfolding probe
probe_stop s n x zero p h e = omega arith
probe_stop s n x (suc left) p h e = simp e

-- one that does not goes on
pub probe_go : (s : List ℕ) (n x left p : ℕ) → 0 < left → stops s x p ≡ false → probe s n x left p ≡ probe s n x (left - 1) (next n p)
unfolding probe
probe_go s n x zero p h e = absurd (omega arith)
probe_go s n x (suc left) p h e =
    let d : suc left - 1 ≡ left = omega arith in
    simp (e, d)

-- no step is left
pub probe_out : (s : List ℕ) (n x left p : ℕ) → left ≤ 0 → probe s n x left p ≡ p
unfolding probe
probe_out s n x zero p h = refl
probe_out s n x (suc left) p h = absurd (omega arith)

-- Answers that say whether a statement holds.
pub says_yes : {A : Type 0} → A → Decides A true
says_yes a = record { holds = λ e. a; fails = λ e. absurd (true≢false e) }

-- what does not hold
pub says_no : {A : Type 0} → (A → ⊥) → Decides A false
says_no f = record { holds = λ e. absurd (false≢true e); fails = λ e. f }

-- the order of two numbers
pub says_ltb : (a b : ℕ) → Decides (a < b) (ltb a b)
says_ltb a b = record { holds = ltb-true a b; fails = λ e h. let z : b ≤ a = ltb-false a b e in omega arith }

-- Counting.
pub held_empty : (x : ℕ) → x ≡ empty → held x ≡ 0
unfolding held
held_empty x e = simp (eq-eqb x empty e)

-- an item counts one
pub held_full : (x : ℕ) → (x ≡ empty → ⊥) → held x ≡ 1
unfolding held
held_full x e = simp (ne_eqb x empty e)

-- an empty slot adds nothing
pub items_empty : (s : List ℕ) (i : ℕ) → get_or s i 0 ≡ empty → items s (i + 1) ≡ items s i
unfolding total held
items_empty s i e = rw (add-one i) (simp (eq-eqb (get_or s i 0) empty e, add-zero))

-- an item adds one
pub items_full : (s : List ℕ) (i : ℕ) → (get_or s i 0 ≡ empty → ⊥) → items s (i + 1) ≡ items s i + 1
unfolding total held
items_full s i e = rw (add-one i) (simp (ne_eqb (get_or s i 0) empty e))

-- the home of an item below 2^v is a slot
pub home_lt : (lg v x : ℕ) → lg ≤ v → x < 2 ^ v → x / 2 ^ (v - lg) < 2 ^ lg
home_lt lg v x l h =
    let e : lg + (v - lg) ≡ v = omega arith in
    shr_lt lg (v - lg) (rw e h)

-- below i + 1 is i or below it
pub at_or_below : {p i : ℕ} → p < i + 1 → (p ≡ i) ⊎ (p < i)
at_or_below h = eq-or-lt_of_le (omega arith)

-- one more empty slot
pub empty_more : (s : List ℕ) (n i : ℕ) → EmptyFrom s n i → get_or s i 0 ≡ empty → EmptyFrom s n (i + 1)
empty_more s n i f e p h l = ⊎_elim (λ (q : p ≡ i). rw q e) (λ m. f p h m) (at_or_below l)

-- one more slot that is placed
pub placed_more : (s : List ℕ) (lg v i : ℕ) → AllPlaced s lg v i → ((get_or s i 0 ≡ empty → ⊥) → Placed s lg v i) → AllPlaced s lg v (i + 1)
placed_more s lg v i f g p l full = ⊎_elim (λ (q : p ≡ i). rw q (g (rw q at full))) (λ m. f p m full) (at_or_below l)

-- A loop that stores from the front: what it has stored so far.
pub upto_set : (s : List ℕ) (f : ℕ → ℕ) (i a : ℕ) → i < length s → ((k : ℕ) → k < i → get_or s k 0 ≡ f k) → a ≡ f i → (k : ℕ) → k < i + 1 → get_or (set s i a) k 0 ≡ f k
upto_set s f i a l g e k h = ⊎_elim (λ (z : k ≡ i). rw z (get_or-set_same s i a 0 l ∙ e)) (λ m. get_or-set_other s i k a 0 (λ z. omega (arith, z)) ∙ g k m) (at_or_below h)

-- a region that is all empty slots
pub all_empty : (s : List ℕ) (n : ℕ) → length s ≡ n → ((k : ℕ) → k < n → get_or s k 0 ≡ empty) → s ≡ replicate n empty
all_empty s n e f = ext_get_or 0 s (replicate n empty) (e ∙ sym (length-replicate n empty)) (λ k h. f k (rw e at h) ∙ sym (get_or-replicate n k empty 0 (rw e at h)))
