-- Rebuilds of any memory: what is stored stays within the slots and below 2 ^ v. Assumes nothing.
use mathlib.Core.Path.{◌≡◌, refl, sym, ap, ◌∙◌}
use mathlib.Core.Bool.{Bool, true, false}
use mathlib.Core.Logic.{⊎_elim}
use mathlib.Core.List.{List}
use Prim.Native.Nat.{ℕ, zero, suc, ◌+◌, ◌^◌, ◌≤◌, ◌<◌}
use native.Mathlib.Omega.{arith}
use native.Mathlib.Numerals.{add-one}
use lib.ListN.{length, get_or, set, take, replicate, length-replicate, get_or-replicate, length-set}
use lib.Seq.{get_or-set_other, ext_get_or, get_or-take, length-take-le}
use Rattle.laws.specs.Choose.{choose}
use Rattle.laws.proofs.Orders.{same_or_not, le_or_lt}
use Rattle.tables.specs.Slots.{empty, home, next, stops, probe, spot}
use Rattle.tables.specs.Changes.{blank, place, fill, rebuilt}
use Rattle.tables.specs.Shapes.{AllSmall, EmptyFrom}
use Rattle.tables.proofs.Laws.{home_lt, upto_set, all_empty}
use Rattle.tables.proofs.Stepping.{next_lt}
use Rattle.tables.proofs.Placing.{small_set}
use Rattle.tables.proofs.Refilled.{fill_none, fill_one, length_fill}

-- a search stays among the slots
pub probe_lt : (s : List ℕ) (n x left p : ℕ) → p < n → probe s n x left p < n
unfolding probe
probe_lt s n x zero p l = l
probe_lt s n x (suc left) p l = either (stops s x p) (probe_lt s n x left (next n p) (next_lt n p l))
  where
    either : (b : Bool) → probe s n x left (next n p) < n → choose b p (probe s n x left (next n p)) < n
    either true m = l
    either false m = m

pub spot_within : (s : List ℕ) (lg v x : ℕ) → lg ≤ v → x < 2 ^ v → spot s lg v x < 2 ^ lg
unfolding spot home
spot_within s lg v x l h = probe_lt s (2 ^ lg) x (2 ^ lg) (home lg v x) (home_lt lg v x l h)

place_other : (s : List ℕ) (lg v x p : ℕ) → (p ≡ spot s lg v x → ⊥) → get_or (place s lg v x) p 0 ≡ get_or s p 0
unfolding place
place_other s lg v x p d = get_or-set_other s (spot s lg v x) p x 0 d

place_small : (s : List ℕ) (lg v x n : ℕ) → lg ≤ v → 2 ^ lg ≤ length s → x < 2 ^ v → AllSmall s n v → AllSmall (place s lg v x) n v
unfolding place
place_small s lg v x n l room h f = small_set s n v (spot s lg v x) x (omega (arith, spot_within s lg v x l h)) f (λ d. h)

-- the slots beyond the table stay as they were, and every item is small
module _ (o : List ℕ) (m : ℕ) (t : List ℕ) (lg v : ℕ) (bits : lg ≤ v) (small : AllSmall o m v) where
  abbrev Stays : ℕ → Type 0
  Stays k = (p : ℕ) → 2 ^ lg ≤ p → get_or (fill o k t lg v) p 0 ≡ get_or t p 0

  stays_next : (k : ℕ) → k < m → Stays k → Stays (k + 1)
  stays_next k h f p l = ⊎_elim
      (λ (e : get_or o k 0 ≡ empty). rw (fill_none o k t lg v e) (f p l))
      (λ (d : get_or o k 0 ≡ empty → ⊥). rw (fill_one o k t lg v d) (past d))
      (same_or_not (get_or o k 0) empty)
    where
      past : (get_or o k 0 ≡ empty → ⊥) → get_or (place (fill o k t lg v) lg v (get_or o k 0)) p 0 ≡ get_or t p 0
      past d = place_other (fill o k t lg v) lg v (get_or o k 0) p (λ z. omega (arith, z, spot_within (fill o k t lg v) lg v (get_or o k 0) bits (small k h d))) ∙ f p l

  pub fill_stays : (k : ℕ) → k ≤ m → Stays k
  unfolding fill
  fill_stays zero h = λ p l. refl
  fill_stays (suc k) h = step (stays_next k h (fill_stays k (omega arith)))
    where
      step : Stays (k + 1) → Stays (suc k)
      step f = rw (add-one k) at f

  module _ (room : 2 ^ lg ≤ length t) (n : ℕ) (base : AllSmall t n v) where
    small_next : (k : ℕ) → k < m → AllSmall (fill o k t lg v) n v → AllSmall (fill o (k + 1) t lg v) n v
    small_next k h f = ⊎_elim
        (λ (e : get_or o k 0 ≡ empty). rw (fill_none o k t lg v e) f)
        (λ (d : get_or o k 0 ≡ empty → ⊥). rw (fill_one o k t lg v d) (place_small (fill o k t lg v) lg v (get_or o k 0) n bits (rw (length_fill o k t lg v) room) (small k h d) f))
        (same_or_not (get_or o k 0) empty)

    pub fill_small : (k : ℕ) → k ≤ m → AllSmall (fill o k t lg v) n v
    unfolding fill
    fill_small zero h = base
    fill_small (suc k) h = step (small_next k h (fill_small k (omega arith)))
      where
        step : AllSmall (fill o (k + 1) t lg v) n v → AllSmall (fill o (suc k) t lg v) n v
        step f = rw (add-one k) at f

-- a rebuild leaves the slots beyond its table empty, and its items small
module _ (s : List ℕ) (lg to v : ℕ) (bits : to ≤ v) (room : 2 ^ to ≤ length s) (small : AllSmall s (2 ^ lg) v) where
  blank_at : (p : ℕ) → p < length s → get_or (blank s) p 0 ≡ empty
  blank_at p l = get_or-replicate (length s) p empty 0 l

  pub length_rebuilt : length (rebuilt s lg to v) ≡ length s
  unfolding rebuilt
  length_rebuilt = length_fill s (2 ^ lg) (blank s) to v ∙ length-replicate (length s) empty

  pub rebuilt_beyond : EmptyFrom (rebuilt s lg to v) (2 ^ to) (length s)
  unfolding rebuilt
  rebuilt_beyond p h l = fill_stays s (2 ^ lg) (blank s) to v bits small (2 ^ lg) (omega arith) p h ∙ blank_at p l

-- the slots of a table are the first of its region
fill_first : (o : List ℕ) (m k : ℕ) (t : List ℕ) (lg v : ℕ) → k ≤ m → fill (take m o) k t lg v ≡ fill o k t lg v
unfolding fill
fill_first o m zero t lg v h = refl
fill_first o m (suc k) t lg v h = rw (get_or-take m o k 0 h, fill_first o m k t lg v (omega arith)) refl

-- the spare of a rebuild, once the items are stored in it
pub refilled : (s e f : List ℕ) (m lg to v : ℕ) → f ≡ fill (take m s) (length (take m s)) e to v → m ≡ 2 ^ lg → m ≤ length s → e ≡ blank e → length s ≡ length e → f ≡ rebuilt s lg to v
unfolding rebuilt
refilled s e f m lg to v is size long empties level =
    is ∙ ap (λ (k : ℕ). fill (take m s) k e to v) (length-take-le m s long) ∙ fill_first s m m e to v (omega arith)
    ∙ ap (λ (k : ℕ). fill s k e to v) size ∙ ap (λ (t : List ℕ). fill s (2 ^ lg) t to v) (empties ∙ ap (λ (k : ℕ). replicate k empty) (sym level))

pub refilled_fits : (s f : List ℕ) (n lg to v : ℕ) → f ≡ rebuilt s lg to v → to ≤ v → 2 ^ to ≤ n → n ≤ length s → AllSmall s (2 ^ lg) v
    → (length s ≡ length f) × EmptyFrom f n (length f)
refilled_fits s f n lg to v is bits span room small =
    let long = length_rebuilt s lg to v bits (omega arith) small in
    rw is (sym long, λ p h l. rebuilt_beyond s lg to v bits (omega arith) small p (omega arith) (rw long at l))

-- the first slots of the spare e, up to i, are in the region t, and emptied in the spare u; what lies beyond is as in s and e
pub record Moving (s e t u : List ℕ) (i : ℕ) : Type 0 where
  pub region_size : length t ≡ length s
  pub spare_size : length u ≡ length e
  pub moved : (k : ℕ) → k < i → get_or t k 0 ≡ get_or e k 0
  pub emptied : (k : ℕ) → k < i → get_or u k 0 ≡ empty
  pub left : (k : ℕ) → i ≤ k → get_or u k 0 ≡ get_or e k 0
  pub beyond : (k : ℕ) → i ≤ k → get_or t k 0 ≡ get_or s k 0

pub moving_start : (s e : List ℕ) → Moving s e s e 0
moving_start s e = record { region_size = refl; spare_size = refl; moved = λ k h. absurd (omega arith); emptied = λ k h. absurd (omega arith); left = λ k h. refl; beyond = λ k h. refl }

pub moving_turn : (s e t u : List ℕ) (n i : ℕ) → Moving s e t u i → length s ≡ length e → n ≤ length s → i < n → Moving s e (set t i (get_or u i 0)) (set u i empty) (i + 1)
moving_turn s e t u n i m level long h = record {
  region_size = simp length-set m.region_size;
  spare_size = simp length-set m.spare_size;
  moved = upto_set t (λ k. get_or e k 0) i _ (omega (arith, m.region_size)) m.moved (m.left i (omega arith));
  emptied = upto_set u (λ k. empty) i empty (omega (arith, m.spare_size)) m.emptied refl;
  left = λ k l. get_or-set_other u i k empty 0 (λ z. omega (arith, z)) ∙ m.left k (omega arith);
  beyond = λ k l. get_or-set_other t i k _ 0 (λ z. omega (arith, z)) ∙ m.beyond k (omega arith);
}

-- once the first n are through, the two are what they are to be, where both were empty beyond
module _ (s e t u : List ℕ) (n i : ℕ) (all : i ≡ n) (m : Moving s e t u i) (level : length s ≡ length e) (long : n ≤ length s) where
  pub moved : EmptyFrom s n (length s) → EmptyFrom e n (length e) → t ≡ e
  moved s_vacant e_vacant = ext_get_or 0 t e (m.region_size ∙ level) (λ k h. ⊎_elim
      (λ (l : n ≤ k). m.beyond k (omega (arith, all)) ∙ s_vacant k l (rw m.region_size at h) ∙ sym (e_vacant k l (rw (m.region_size, level) at h)))
      (λ (l : k < n). m.moved k (omega (arith, all)))
      (le_or_lt n k))

  pub emptied : EmptyFrom e n (length e) → u ≡ blank e
  emptied e_vacant = all_empty u _ m.spare_size (λ k h. ⊎_elim
      (λ (l : n ≤ k). m.left k (omega (arith, all)) ∙ e_vacant k l h)
      (λ (l : k < n). m.emptied k (omega (arith, all)))
      (le_or_lt n k))

-- one slot more of what is stored anew
pub fill_start : (o t : List ℕ) (lg v : ℕ) → t ≡ fill o 0 t lg v
unfolding fill
fill_start o t lg v = refl

pub fill_item : (o : List ℕ) (i : ℕ) (t u : List ℕ) (lg v q : ℕ) → u ≡ fill o i t lg v → (get_or o i 0 ≡ empty → ⊥) → q ≡ spot u lg v (get_or o i 0) → set u q (get_or o i 0) ≡ fill o (i + 1) t lg v
unfolding place
fill_item o i t u lg v q is d at = ap (λ (p : ℕ). set u p (get_or o i 0)) at ∙ rw is (sym (fill_one o i t lg v d))

pub fill_empty : (o : List ℕ) (i : ℕ) (t u : List ℕ) (lg v : ℕ) → u ≡ fill o i t lg v → get_or o i 0 ≡ empty → u ≡ fill o (i + 1) t lg v
fill_empty o i t u lg v is e = is ∙ sym (fill_none o i t lg v e)

pub ruleset refills = (fill_start, fill_item, fill_empty)
