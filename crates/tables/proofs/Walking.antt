-- The walk by the stride of its lg: step by step as code takes it, and what it lists. Assumes nothing.
use mathlib.Core.Path.{◌≡◌, refl, sym, ap, ◌∙◌}
use mathlib.Core.Bool.{Bool, true, false, not, ◌&&◌}
use mathlib.Core.List.{List, [], ◌∷◌, ◌++◌}
use Prim.Native.Nat.{ℕ, zero, suc, ◌+◌, ◌-◌, ◌*◌, ◌%◌, ◌^◌, ◌≤◌, ◌<◌}
use native.Mathlib.Omega.{arith}
use native.Mathlib.Nat.{mod-lt, mod-eq_of_lt, add-mul-mod_self_right}
use native.Mathlib.Numerals.{add-one}
use lib.Pow.{pow_pos, pow_mono}
use lib.ListN.{length, get_or, set, take, drop, length-set, length-append, take-append-drop}
use lib.Seq.{take-suc-set, drop-set-lt, drop-drop}
use lib.Dec.{eqb}
use borrow.Author.Tests.{eq-eqb, ne_eqb}
use Rattle.laws.specs.Choose.{choose}
use Rattle.laws.specs.Below.{one as told}
use Rattle.laws.specs.Lists.{list_of}
use Rattle.laws.proofs.Lists.{list_of_snoc}
use Rattle.laws.proofs.Bijections.{sum_order}
use Rattle.tables.specs.Slots.{empty, holds}
use Rattle.tables.specs.Listings.{keep, is_item, stride_at, walked_slots, walk_order}
use Rattle.tables.specs.Shapes.{snoc, Lawful, met_by, Walking}
use Rattle.tables.proofs.Walk.{met, met_once, stride_step}
use Rattle.tables.proofs.Kept.{sum_of, times_in, sum_keep, sum_length, sum_take, sum_list_of, keep_snoc, kept_items}
use Rattle.tables.proofs.Stride.{Stride, stride_is}
use Rattle.tables.proofs.Once.{kept_once}

two : (lg : ℕ) → 2 ≤ lg → 1 < 2 ^ lg
two lg least = let big : 4 ≤ 2 ^ lg = pow_mono {i = 2} {j = lg} least in omega arith

-- One walk meets each slot once: at some step, and at no other.
pub walk_meets : (lg p : ℕ) → 2 ≤ lg → lg ≤ 26 → p < 2 ^ lg → (k : ℕ) × (k < 2 ^ lg) × (k * stride_at lg % 2 ^ lg ≡ p)
walk_meets lg p least most h = let w : Stride lg = stride_is lg least most in met (2 ^ lg) (stride_at lg) w.back p (two lg least) w.inverse h

pub walk_meets_once : (lg a b : ℕ) → 2 ≤ lg → lg ≤ 26 → a < 2 ^ lg → b < 2 ^ lg → a * stride_at lg % 2 ^ lg ≡ b * stride_at lg % 2 ^ lg → a ≡ b
walk_meets_once lg a b least most la lb e = let w : Stride lg = stride_is lg least most in met_once (2 ^ lg) (stride_at lg) w.back a b (two lg least) w.inverse la lb e

-- So any f, summed over the slots in the order of the walk or in slot order, gives the same.
pub walked_sum : (f : ℕ → ℕ) (s : List ℕ) (lg : ℕ) → 2 ≤ lg → lg ≤ 26 → 2 ^ lg ≤ length s → sum_of f (walked_slots s lg) ≡ sum_of f (take (2 ^ lg) s)
unfolding walked_slots
walked_sum f s lg least most room =
    sum_list_of f (λ i. get_or s (i * stride_at lg % 2 ^ lg) 0) (2 ^ lg)
    ∙ sum_order (2 ^ lg) (λ p. f (get_or s p 0)) (λ i. i * stride_at lg % 2 ^ lg) (λ i l. mod-lt (i * stride_at lg) (pow_pos lg)) (λ p l. walk_meets lg p least most l)
    (λ a b la lb e. walk_meets_once lg a b least most la lb e)
    ∙ sym (sum_take f s (2 ^ lg) room)

-- and so over the items
pub walk_sum : (f : ℕ → ℕ) (s : List ℕ) (lg : ℕ) → 2 ≤ lg → lg ≤ 26 → 2 ^ lg ≤ length s → sum_of f (walk_order s lg) ≡ sum_of f (keep is_item (take (2 ^ lg) s))
unfolding walk_order
walk_sum f s lg least most room =
    sum_keep f is_item (walked_slots s lg) ∙ walked_sum (λ x. choose (is_item x) (f x) 0) s lg least most room ∙ sym (sum_keep f is_item (take (2 ^ lg) s))

-- The walk lists as many items as the table counts
pub walk_length : (s : List ℕ) (lg v c : ℕ) → Lawful s lg v c → length (walk_order s lg) ≡ c
walk_length s lg v c l =
    sym (sum_length (walk_order s lg)) ∙ walk_sum (λ x. 1) s lg l.lg_least l.lg_most l.room ∙ sum_length (keep is_item (take (2 ^ lg) s)) ∙ kept_items s (2 ^ lg) l.room ∙ l.count

-- and each of its items once, and nothing else.
pub walk_once : (s : List ℕ) (lg v c : ℕ) → Lawful s lg v c → (y : ℕ) → times_in y (walk_order s lg) ≡ told (not (eqb y empty) && holds s (2 ^ lg) y)
walk_once s lg v c l y = walk_sum (λ x. choose (eqb x y) 1 0) s lg l.lg_least l.lg_most l.room ∙ kept_once s lg v c l y

-- One slot more: it is empty, or holds an item.
met_more : (s : List ℕ) (lg i : ℕ) → met_by s lg (i + 1) ≡ snoc (is_item (get_or s (i * stride_at lg % 2 ^ lg) 0)) (met_by s lg i) (get_or s (i * stride_at lg % 2 ^ lg) 0)
unfolding met_by
met_more s lg i =
    ap (λ (k : ℕ). keep is_item (list_of k (λ j. get_or s (j * stride_at lg % 2 ^ lg) 0))) (add-one i)
    ∙ ap (keep is_item) (list_of_snoc i (λ j. get_or s (j * stride_at lg % 2 ^ lg) 0))
    ∙ keep_snoc is_item (list_of i (λ j. get_or s (j * stride_at lg % 2 ^ lg) 0)) (get_or s (i * stride_at lg % 2 ^ lg) 0)

-- it is empty: nothing more is met
pub met_empty : (s : List ℕ) (lg i k : ℕ) → k ≡ i * stride_at lg % 2 ^ lg → get_or s k 0 ≡ empty → met_by s lg (i + 1) ≡ met_by s lg i
met_empty s lg i k z e = met_more s lg i ∙ rw (eq-eqb (get_or s (i * stride_at lg % 2 ^ lg) 0) empty (rw z at e))

-- it holds an item: that is met
pub met_item : (s : List ℕ) (lg i k : ℕ) → k ≡ i * stride_at lg % 2 ^ lg → (get_or s k 0 ≡ empty → ⊥) → met_by s lg (i + 1) ≡ met_by s lg i ++ (get_or s k 0 ∷ [])
met_item s lg i k z d = met_more s lg i ∙ rw (z, ne_eqb (get_or s (i * stride_at lg % 2 ^ lg) 0) empty (rw z at d))

-- at the start nothing is met
pub met_none : (s : List ℕ) (lg : ℕ) → met_by s lg 0 ≡ []
unfolding met_by list_of keep
met_none s lg = refl

-- at the end all is
pub met_all : (s : List ℕ) (lg : ℕ) → met_by s lg (2 ^ lg) ≡ walk_order s lg
unfolding met_by walk_order walked_slots
met_all s lg = refl

-- the next slot, by a sum that may pass the end once
pub stride_near : (n g i k : ℕ) → k ≡ i * g % n → k + g < n → k + g ≡ (i + 1) * g % n
stride_near n g i k z h = sym (mod-eq_of_lt h) ∙ rw z (stride_step n g i)

-- it passes the end
pub stride_over : (n g i k : ℕ) → k ≡ i * g % n → k < n → g < n → n ≤ k + g → k + g - n ≡ (i + 1) * g % n
stride_over n g i k z kn gn h =
    let e : k + g - n + 1 * n ≡ k + g = omega arith in
    sym (mod-eq_of_lt (omega arith)) ∙ sym (add-mul-mod_self_right (k + g - n) 1 n) ∙ ap (λ (m : ℕ). m % n) e ∙ rw z (stride_step n g i)

-- a walk meets no fewer items by going on
met_step : (s : List ℕ) (lg i : ℕ) → length (met_by s lg i) ≤ length (met_by s lg (i + 1))
met_step s lg i = rw (met_more s lg i) (go (is_item (get_or s (i * stride_at lg % 2 ^ lg) 0)) (met_by s lg i))
  where
    go : (b : Bool) (l : List ℕ) → length l ≤ length (snoc b l (get_or s (i * stride_at lg % 2 ^ lg) 0))
    go true l = rw (length-append l (get_or s (i * stride_at lg % 2 ^ lg) 0 ∷ [])) (omega arith)
    go false l = omega arith

met_grows : (s : List ℕ) (lg i m : ℕ) → length (met_by s lg i) ≤ length (met_by s lg (i + m))
met_grows s lg i zero = let e : i + zero ≡ i = omega arith in rw e (omega arith)
met_grows s lg i (suc m) =
    let e : i + suc m ≡ i + m + 1 = omega arith in
    rw e (omega (arith, met_grows s lg i m, met_step s lg (i + m)))

-- so before a slot that holds an item fewer are met than the table counts
pub met_room : (s : List ℕ) (lg v c i k : ℕ) → Lawful s lg v c → i < 2 ^ lg → k ≡ i * stride_at lg % 2 ^ lg → (get_or s k 0 ≡ empty → ⊥) → length (met_by s lg i) < c
met_room s lg v c i k l h z d =
    let e : i + 1 + (2 ^ lg - (i + 1)) ≡ 2 ^ lg = omega arith in
    let most : length (met_by s lg (i + 1)) ≤ length (met_by s lg (2 ^ lg)) = rw e at (met_grows s lg (i + 1) (2 ^ lg - (i + 1))) in
    let all : length (met_by s lg (2 ^ lg)) ≡ c = ap length (met_all s lg) ∙ walk_length s lg v c l in
    let more : length (met_by s lg (i + 1)) ≡ length (met_by s lg i) + 1 = ap length (met_item s lg i k z d) ∙ length-append (met_by s lg i) (get_or s k 0 ∷ []) in
    omega arith

-- The loop that writes them.
pub walking_start : (s o : List ℕ) (lg : ℕ) → Walking s o o lg 0 0 0
walking_start s o lg =
    let z : 0 * stride_at lg ≡ 0 = omega arith in
    record { slot = sym (ap (λ (m : ℕ). m % 2 ^ lg) z ∙ mod-eq_of_lt (pow_pos lg)); long = refl; fore = sym (met_none s lg); aft = refl; count = sym (ap length (met_none s lg)) }

-- an empty slot
pub walking_skip : (s o u : List ℕ) (lg i k r next : ℕ) → Walking s o u lg i k r → get_or s k 0 ≡ empty → next ≡ (i + 1) * stride_at lg % 2 ^ lg → Walking s o u lg (i + 1) next r
walking_skip s o u lg i k r next w e z =
    let m = met_empty s lg i k w.slot e in
    record { slot = z; long = w.long; fore = w.fore ∙ sym m; aft = w.aft; count = w.count ∙ ap length (sym m) }

-- a slot that holds an item
pub walking_write : (s o u : List ℕ) (lg i k r next : ℕ) → Walking s o u lg i k r → (get_or s k 0 ≡ empty → ⊥) → r < length o → next ≡ (i + 1) * stride_at lg % 2 ^ lg
    → Walking s o (set u r (get_or s k 0)) lg (i + 1) next (r + 1)
walking_write s o u lg i k r next w d h z =
    let m = met_item s lg i k w.slot d in
    record {
      slot = z;
      long = length-set u r (get_or s k 0) ∙ w.long;
      fore = ap (λ (j : ℕ). take j (set u r (get_or s k 0))) (add-one r) ∙ take-suc-set u r (get_or s k 0) (rw w.long h) ∙ ap (λ (l : List ℕ). l ++ (get_or s k 0 ∷ [])) w.fore ∙ sym m;
      aft = drop-set-lt (r + 1) u r (get_or s k 0) (omega arith) ∙ sym (drop-drop 1 r u) ∙ ap (drop 1) w.aft ∙ drop-drop 1 r o;
      count = ap (λ (j : ℕ). j + 1) w.count ∙ sym (length-append (met_by s lg i) (get_or s k 0 ∷ [])) ∙ ap length (sym m);
    }

-- the end: the walk's items are written, and the rest is as it was
pub walking_end : (s o u : List ℕ) (lg v c k r : ℕ) → Lawful s lg v c → Walking s o u lg (2 ^ lg) k r → (r ≡ c) × (u ≡ walk_order s lg ++ drop c o)
walking_end s o u lg v c k r l w =
    let e : r ≡ c = w.count ∙ ap length (met_all s lg) ∙ walk_length s lg v c l in
    (e, sym (take-append-drop r u) ∙ ap (λ (t : List ℕ). t ++ drop r u) (w.fore ∙ met_all s lg) ∙ ap (λ (t : List ℕ). walk_order s lg ++ t) w.aft ∙ ap (λ (j : ℕ). walk_order s lg ++ drop j o) e)
