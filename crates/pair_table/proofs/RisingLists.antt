-- A list that rises, stored without a search: from p on all slots are empty, and from the home of any item still to come up to p none is. Assumes nothing.
use mathlib.Core.Path.{◌≡◌, sym, ap, ◌∙◌, subst}
use mathlib.Core.Bool.{false}
use mathlib.Core.Logic.{◌⊎◌, ⊎_elim}
use mathlib.Core.List.{List, []}
use Prim.Native.Nat.{ℕ, ◌+◌, ◌-◌, ◌*◌, ◌^◌, ◌≤◌, ◌<◌, max}
use native.Mathlib.Omega.{arith}
use native.Mathlib.Nat.{le_trans, lt_of_lt_of_le as lt-le}
use native.Mathlib.Numerals.{lt_of_le_of_ne}
use lib.ListN.{length, get_or, set}
use lib.Pow.{pow_pos, pow_mono, shr_mono}
use lib.Seq.{get_or-set_same, get_or-set_other}
use Rattle.std.specs.Prelude.{Option}
use Rattle.laws.proofs.Orders.{same_or_not, lt_or_le}
use Rattle.refusals.specs.Outcome.{accepted}
use Rattle.tables.specs.Slots.{empty, home, stops, spot}
use Rattle.tables.specs.Changes.{blank}
use Rattle.tables.specs.Shapes.{steps, EmptyFrom, Lawful}
use Rattle.tables.specs.Calls.{item_judged, items_judged}
use Rattle.tables.proofs.Laws.{stops_empty, stops_not, at_or_below, all_empty}
use Rattle.tables.proofs.Stepping.{steps_line}
use Rattle.tables.proofs.Paths.{Ends, spot_ends, run_none}
use Rattle.tables.proofs.Refilled.{items_some}
use Rattle.tables.proofs.Items.{Fine, fine_item, fine_items}
use Rattle.tables.proofs.Finger.{Before, first, stay}
use Rattle.pair_table.specs.Steps.{NoneAbove, BuiltTo, BuiltUp}

-- ---- the highest item decides for all

pub none_more : (list : List ℕ) (i a b : ℕ) → NoneAbove list i a → a ≤ b → get_or list i 0 ≤ b → NoneAbove list (i + 1) b
none_more list i a b f h l k m = ⊎_elim (λ (e : k ≡ i). rw e l) (λ z. le_trans (f k z) h) (at_or_below m)

pub highest_fine : (v top : ℕ) (list : List ℕ) → NoneAbove list (length list) top → top < 4294967296 → accepted [] ≡ item_judged v top 0 → accepted [] ≡ items_judged v 0 list
highest_fine v top list f word e =
    let w : Fine v top = fine_item v top 0 (sym e) in
    sym (fine_items v 0 list (λ k h. record { small = omega (arith, f k h, w.small); full = λ z. w.full (omega (arith, f k h)) }))

-- ---- the pass that stores

-- what holds before the i-th item of o
pub record Rising (o t s : List ℕ) (lg v p least i : ℕ) : Type 0 where
  pub so_far : BuiltTo o t s lg v least i
  pub vacant : EmptyFrom s p (2 ^ lg)
  pub filled : (y : ℕ) → least ≤ y → (k : ℕ) → home lg v y ≤ k → k < p → get_or s k 0 ≡ empty → ⊥

-- the general loop may go on from there, with any number that is not below the items
pub goes_on : (o t s : List ℕ) (lg v least top i : ℕ) → BuiltTo o t s lg v least i → least ≤ top + 1 → Before o t s lg v 0 0 top i
goes_on o t s lg v least top i b h = record {
  within = b.within;
  long = b.long;
  now_is = b.now_is;
  lawful = b.lawful;
  finger = pow_pos lg;
  run = run_none s (2 ^ lg) 0 top (pow_pos lg);
  under = λ j jn f. omega (arith, b.below j jn f);
  fresh = b.fresh;
}

-- an empty table has no item anywhere
no_items : (t : List ℕ) (lg v : ℕ) → Lawful t lg v 0 → (k : ℕ) → get_or t k 0 ≡ empty ⊎ (get_or t k 0 ≡ empty → ⊥) → k < length t → get_or t k 0 ≡ empty
no_items t lg v l k e h = ⊎_elim
    (λ z. z)
    (λ f. ⊎_elim (λ (b : k < 2 ^ lg). absurd (omega (arith, items_some t (2 ^ lg) k b f, l.count))) (λ (b : 2 ^ lg ≤ k). l.beyond k b h) (lt_or_le k (2 ^ lg)))
    e

-- before the first item
pub rising_start : (o t : List ℕ) (lg v : ℕ) → Lawful t lg v 0 → Rising o t t lg v 0 0 0
rising_start o t lg v l =
    let b = first o t lg v l in
    record {
      so_far = record {
        within = b.within;
        long = b.long;
        now_is = b.now_is;
        lawful = l;
        below = λ j jn f. absurd (omega (arith, items_some t (2 ^ lg) j jn f, l.count));
        fresh = b.fresh;
      };
      vacant = λ j h jn. no_items t lg v l j (same_or_not (get_or t j 0) empty) (lt-le jn l.room);
      filled = λ y h k m d. absurd (omega arith);
    }

-- a search from the home h that ends e steps on
spot_at : (s : List ℕ) (lg v x h e : ℕ) → h ≡ home lg v x → e < 2 ^ lg → Ends s (2 ^ lg) x h e → spot s lg v x ≡ steps (2 ^ lg) h e
spot_at s lg v x h e hz l w = spot_ends s lg v x e l (subst (λ (z : ℕ). Ends s (2 ^ lg) x z e) hz w) ∙ ap (λ (z : ℕ). steps (2 ^ lg) z e) (sym hz)

-- the number after an item fits
pub item_next : (v x : ℕ) → v ≤ 32 → x < 2 ^ v → (x ≡ empty → ⊥) → x + 1 < 4294967296
item_next v x h l e =
    let m : 2 ^ v ≤ 2 ^ 32 = pow_mono h in
    let b : x < 4294967295 = lt_of_le_of_ne (omega (arith, m)) e in
    omega arith

module _ (o t s : List ℕ) (lg v p least i h q : ℕ) (r : Rising o t s lg v p least i) (more : i < length o) (load : 4 * length o ≤ 3 * 2 ^ lg)
    (small : get_or o i 0 < 2 ^ v) (full : get_or o i 0 ≡ empty → ⊥) (above : least ≤ get_or o i 0)
    (hz : h ≡ home lg v (get_or o i 0)) (later : q ≡ max h p) (qn : q < 2 ^ lg) where
  abbrev x : ℕ
  x = get_or o i 0

  q_empty : get_or s q 0 ≡ empty
  q_empty = r.vacant q (omega arith) qn

  new : get_or s q 0 ≡ x → ⊥
  new e = full (sym e ∙ q_empty)

  -- what lies between the home and the end lies before p
  before_p : (k : ℕ) → h ≤ k → k < q → k < p
  before_p k a b = omega arith

  passed : (k : ℕ) → h ≤ k → k < q → get_or s k 0 ≡ empty → ⊥
  passed k a b = r.filled x above k (rw hz at a) (before_p k a b)

  clear : (k : ℕ) → k < q - h → stops s x (steps (2 ^ lg) h k) ≡ false
  clear k l =
      let e : steps (2 ^ lg) h k ≡ h + k = steps_line (2 ^ lg) h k (omega arith) in
      let f : get_or s (h + k) 0 ≡ empty → ⊥ = passed (h + k) (omega arith) (omega arith) in
      rw e (stops_not s x (h + k) (λ g. omega (arith, g, r.so_far.below (h + k) (omega arith) f)) f)

  there : steps (2 ^ lg) h (q - h) ≡ q
  there = steps_line (2 ^ lg) h (q - h) (omega arith) ∙ omega arith

  qz : q ≡ spot s lg v x
  qz = sym (spot_at s lg v x h (q - h) hz (omega arith) (record { clear = clear; stop = rw there (stops_empty s x q q_empty) }) ∙ there)

  after : Before o t (set s q x) lg v 0 0 x (i + 1)
  after = stay o t s lg v 0 0 x i q (goes_on o t s lg v least x i r.so_far (omega arith)) more load small full qz qn new (omega arith)

  ql : q < length s
  ql = omega (arith, r.so_far.lawful.room)

  homes : (y : ℕ) → x + 1 ≤ y → h ≤ home lg v y
  unfolding home
  homes y l = rw hz (shr_mono (v - lg) (omega arith))

  pub rising_turn : Rising o t (set s q x) lg v (q + 1) (x + 1) (i + 1)
  rising_turn = record {
    so_far = record {
      within = after.within;
      long = after.long;
      now_is = after.now_is;
      lawful = after.lawful;
      below = λ j jn f. omega (arith, after.under j jn f);
      fresh = after.fresh;
    };
    vacant = λ k a b. get_or-set_other s q k x 0 (λ z. omega arith) ∙ r.vacant k (omega arith) b;
    filled = λ y l k a b. ⊎_elim
        (λ (e : k ≡ q). rw (e, get_or-set_same s q x 0 ql) full)
        (λ (m : k < q). rw (get_or-set_other s q k x 0 (λ z. omega arith)) (passed k (le_trans (homes y l) a) m))
        (at_or_below b);
  }

-- ---- the rest of the list

-- the table was all empty slots
pub empty_table : (t s : List ℕ) (lg v : ℕ) → Lawful t lg v 0 → length s ≡ length t → t ≡ blank s
empty_table t s lg v l e = all_empty t (length s) (sym e) (λ k h. no_items t lg v l k (same_or_not (get_or t k 0) empty) (omega arith))

-- a greater number
pub below_more : (o t s : List ℕ) (lg v least more i : ℕ) → BuiltTo o t s lg v least i → least ≤ more → BuiltTo o t s lg v more i
below_more o t s lg v least more i b h = record { within = b.within; long = b.long; now_is = b.now_is; lawful = b.lawful; below = λ j jn f. omega (arith, b.below j jn f); fresh = b.fresh }

pub rest_needs : (o t s : List ℕ) (lg v least most i : ℕ) → Lawful t lg v 0 → BuiltTo o t s lg v least i → most ≡ least - 1 → BuiltTo o (blank s) s lg v (most + 1) i
rest_needs o t s lg v least most i l b e =
    subst (λ (u : List ℕ). BuiltTo o u s lg v (most + 1) i) (empty_table t s lg v l b.long) (below_more o t s lg v least (most + 1) i b (omega arith))

pub rest_built : (o t s u : List ℕ) (lg v least i : ℕ) (r : Option ℕ) → Lawful t lg v 0 → BuiltTo o t s lg v least i → BuiltUp o (blank s) u lg v r → BuiltUp o t u lg v r
rest_built o t s u lg v least i r l b w = subst (λ (z : List ℕ). BuiltUp o z u lg v r) (sym (empty_table t s lg v l b.long)) w
