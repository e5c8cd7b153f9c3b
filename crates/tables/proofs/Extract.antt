-- Laws of extraction. Assumes nothing.
use mathlib.Core.Path.{◌≡◌, refl, sym, ap, ◌∙◌}
use mathlib.Core.Logic.{⊎_elim}
use mathlib.Core.List.{List, [], ◌∷◌, ◌++◌, append_assoc, append-nil}
use Prim.Native.Nat.{ℕ, suc, ◌+◌, ◌-◌, ◌^◌, ◌≤◌, ◌<◌}
use native.Mathlib.Omega.{arith}
use native.Mathlib.Numerals.{add-one}
use lib.ListN.{length, get_or, set, take, drop, length-set, length-append, take-append-drop}
use lib.Seq.{get_or-set_same, drop-cons, drop-set-lt, take-set-le, take-suc-set, drop-drop}
use borrow.Author.Tests.{le-leb, lt-leb, eq-eqb, ne_eqb}
use Rattle.tables.specs.Slots.{empty, held, total, items}
use Rattle.tables.specs.Shapes.{lows, highs, Split, rest, Rest, Extracted}
use Rattle.tables.proofs.Laws.{items_full, items_empty, at_or_below}
use Rattle.tables.proofs.Refilled.{total_mono}

lows_low : (s : List ℕ) (v k : ℕ) → get_or s k 0 < 2 ^ (v - 1) → lows s v (k + 1) ≡ lows s v k ++ (get_or s k 0 ∷ [])
unfolding lows
lows_low s v k h = rw (add-one k) (simp (lt-leb (2 ^ (v - 1)) (get_or s k 0) h))

lows_high : (s : List ℕ) (v k : ℕ) → 2 ^ (v - 1) ≤ get_or s k 0 → lows s v (k + 1) ≡ lows s v k
unfolding lows
lows_high s v k h = rw (add-one k) (simp (le-leb (2 ^ (v - 1)) (get_or s k 0) h))

highs_low : (s : List ℕ) (v k : ℕ) → get_or s k 0 < 2 ^ (v - 1) → highs s v (k + 1) ≡ highs s v k
unfolding highs
highs_low s v k h = rw (add-one k) (simp (lt-leb (2 ^ (v - 1)) (get_or s k 0) h))

highs_high : (s : List ℕ) (v k : ℕ) → 2 ^ (v - 1) ≤ get_or s k 0 → highs s v (k + 1) ≡ get_or s k 0 ∷ highs s v k
unfolding highs
highs_high s v k h = rw (add-one k) (simp (le-leb (2 ^ (v - 1)) (get_or s k 0) h))

drop_set_at : (l : List ℕ) (j x : ℕ) → j < length l → drop j (set l j x) ≡ x ∷ drop (j + 1) l
drop_set_at l j x h =
    let k : j < length (set l j x) = rw (length-set l j x) h in
    drop-cons (set l j x) j 0 k ∙ rw (get_or-set_same l j x 0 h, drop-set-lt (suc j) l j x (omega arith), add-one j)

front_more : (s : List ℕ) (n i : ℕ) → i < n → ((k : ℕ) → k < i → get_or s k 0 ≡ empty → ⊥) → (get_or s i 0 ≡ empty → ⊥) → (k : ℕ) → k < i + 1 → get_or s k 0 ≡ empty → ⊥
front_more s n i h f d k l = ⊎_elim (λ (e : k ≡ i). rw e d) (λ m. f k m) (at_or_below l)

-- Before the i-th slot: as Split, but i may be short of the first empty slot.
pub record Part (s o u : List ℕ) (n v c i l r : ℕ) : Type 0 where
  pub within : i ≤ n
  pub full : (k : ℕ) → k < i → get_or s k 0 ≡ empty → ⊥
  pub long : length u ≡ length o
  pub fore : take l u ≡ lows s v i
  pub aft : drop r u ≡ highs s v i ++ drop c o
  pub left : l ≡ length (lows s v i)
  pub meet : r + items s i ≡ l + c

module _ (s o u : List ℕ) (n v c i l r : ℕ) (a : Part s o u n v c i l r) (count : items s n ≡ c) (room : c ≤ length o) (h : i < n) (d : get_or s i 0 ≡ empty → ⊥) where
  abbrev x : ℕ
  x = get_or s i 0

  one_more : items s (i + 1) ≡ items s i + 1
  one_more = items_full s i d

  some : items s i + 1 ≤ c
  some = omega (arith, one_more, total_mono held s (i + 1) n (omega arith), count)

  -- there is room between the two parts
  pub apart : l < r
  apart = omega (arith, some, a.meet)

  -- an item with the bit clear goes to the front
  pub part_low : x < 2 ^ (v - 1) → r ≤ length o → Part s o (set u l x) n v c (i + 1) (l + 1) r
  part_low small rl = record {
    within = omega arith;
    full = front_more s n i h a.full d;
    long = length-set u l x ∙ a.long;
    fore = rw (add-one l) (take-suc-set u l x (omega (arith, apart, a.long)) ∙ ap (λ (z : List ℕ). z ++ (get_or s i 0 ∷ [])) a.fore ∙ sym (lows_low s v i small));
    aft = drop-set-lt r u l x apart ∙ a.aft ∙ rw (highs_low s v i small);
    left = rw (lows_low s v i small, length-append) (omega (arith, a.left));
    meet = omega (arith, one_more, a.meet);
  }

  -- one with the bit set goes to the end
  pub part_high : 2 ^ (v - 1) ≤ x → r ≤ length o → Part s o (set u (r - 1) x) n v c (i + 1) l (r - 1)
  part_high big rl =
      let e : r - 1 + 1 ≡ r = omega (arith, apart) in
      record {
        within = omega arith;
        full = front_more s n i h a.full d;
        long = length-set u (r - 1) x ∙ a.long;
        fore = take-set-le l u (r - 1) x (omega (arith, apart)) ∙ a.fore ∙ rw (lows_high s v i big);
        aft = drop_set_at u (r - 1) x (omega (arith, apart, a.long)) ∙ rw (e, a.aft, highs_high s v i big);
        left = rw (lows_high s v i big) a.left;
        meet = omega (arith, one_more, a.meet, apart);
      }

-- before the first slot
pub part_none : (s o : List ℕ) (n v c : ℕ) → Part s o o n v c 0 0 c
unfolding lows highs total
part_none s o n v c = record { within = omega arith; full = λ k l. absurd (omega arith); long = refl; fore = refl; aft = refl; left = refl; meet = omega arith }

-- at the first empty slot, or the end
pub part_end : (s o u : List ℕ) (n v c i l r : ℕ) → Part s o u n v c i l r → r ≤ c → (i < n → get_or s i 0 ≡ empty) → Split s o u n v c i l r
part_end s o u n v c i l r a edge e = record { edge = edge; front = record { within = a.within; full = a.full; ends = e }; long = a.long; fore = a.fore; aft = a.aft; left = a.left; meet = a.meet }

drop_on : (l : List ℕ) (r : ℕ) → drop (suc r) l ≡ drop 1 (drop r l)
drop_on l r = rw (← (add-one r)) (sym (drop-drop 1 r l))

-- The second part: the items from slot f on.
pub record Onward (s o u : List ℕ) (f l i r : ℕ) : Type 0 where
  pub from : f ≤ i
  pub long : length u ≡ length o
  pub fore : take r u ≡ take l o ++ rest s f (i - f)
  pub aft : drop r u ≡ drop r o
  pub meet : r + items s f ≡ l + items s i

-- before the first of them
pub onward_none : (s o : List ℕ) (f l : ℕ) → Onward s o o f l f l
unfolding rest
onward_none s o f l =
    let e : f - f ≡ 0 = omega arith in
    record { from = omega arith; long = refl; fore = rw e (sym (append-nil (take l o))); aft = refl; meet = refl }

rest_empty : (s : List ℕ) (f i : ℕ) → f ≤ i → get_or s i 0 ≡ empty → rest s f (i + 1 - f) ≡ rest s f (i - f)
unfolding rest
rest_empty s f i h e =
    let z : i + 1 - f ≡ suc (i - f) = omega arith in
    let k : f + (i - f) ≡ i = omega arith in
    rw z (simp (k, eq-eqb (get_or s i 0) empty e))

rest_full : (s : List ℕ) (f i : ℕ) → f ≤ i → (get_or s i 0 ≡ empty → ⊥) → rest s f (i + 1 - f) ≡ rest s f (i - f) ++ (get_or s i 0 ∷ [])
unfolding rest
rest_full s f i h d =
    let z : i + 1 - f ≡ suc (i - f) = omega arith in
    let k : f + (i - f) ≡ i = omega arith in
    rw z (simp (k, ne_eqb (get_or s i 0) empty d))

-- an empty slot
pub onward_empty : (s o u : List ℕ) (f l i r : ℕ) → Onward s o u f l i r → get_or s i 0 ≡ empty → Onward s o u f l (i + 1) r
onward_empty s o u f l i r a e = record {
  from = omega (arith, a.from);
  long = a.long;
  fore = a.fore ∙ rw (rest_empty s f i a.from e);
  aft = a.aft;
  meet = omega (arith, a.meet, items_empty s i e);
}

-- an item
pub onward_full : (s o u : List ℕ) (f l i r : ℕ) → Onward s o u f l i r → (get_or s i 0 ≡ empty → ⊥) → r < length o → Onward s o (set u r (get_or s i 0)) f l (i + 1) (r + 1)
onward_full s o u f l i r a d h =
    let k : r < length u = rw a.long h in
    record {
      from = omega (arith, a.from);
      long = length-set u r (get_or s i 0) ∙ a.long;
      fore = rw (add-one r) (take-suc-set u r (get_or s i 0) k ∙ ap (λ (z : List ℕ). z ++ (get_or s i 0 ∷ [])) a.fore ∙ append_assoc (take l o) (rest s f (i - f)) (get_or s i 0 ∷ []) ∙ ap (λ (z : List ℕ). take l o ++ z) (sym (rest_full s f i a.from d)));
      aft = rw (add-one r) (drop-set-lt (suc r) u r (get_or s i 0) (omega arith) ∙ drop_on u r ∙ ap (λ (z : List ℕ). drop 1 z) a.aft ∙ sym (drop_on o r));
      meet = omega (arith, a.meet, items_full s i d);
    }

-- after the last slot
pub onward_end : (s o u : List ℕ) (n f l i r : ℕ) → Onward s o u f l i r → i ≡ n → Rest s o u n f l r
onward_end s o u n f l i r a e = record { long = a.long; fore = rw (← e) a.fore; aft = a.aft; meet = rw (← e) a.meet }

-- both parts
pub extracted : (s o u w : List ℕ) (n v c i l r q : ℕ) → Split s o u n v c i l r → Rest s u w n i l q → items s n ≡ c → Extracted s o w n v c i
extracted s o u w n v c i l r q a b e =
    let z : q ≡ r = omega (arith, a.meet, b.meet) in
    record {
      front = a.front;
      now_is = sym (take-append-drop q w) ∙ ap (λ (t : List ℕ). t ++ drop q w) (b.fore ∙ ap (λ (t : List ℕ). t ++ rest s i (n - i)) a.fore)
          ∙ append_assoc (lows s v i) (rest s i (n - i)) (drop q w) ∙ ap (λ (t : List ℕ). lows s v i ++ (rest s i (n - i) ++ t)) (b.aft ∙ rw z a.aft);
    }

-- an item at i leaves a place for it
pub placed_in : (s o u : List ℕ) (n f l i r : ℕ) → Onward s o u f l i r → i < n → (get_or s i 0 ≡ empty → ⊥) → l + items s n ≤ length o + items s f → r < length o
placed_in s o u n f l i r a h d e = omega (arith, a.meet, items_full s i d, total_mono held s (i + 1) n (omega arith))
