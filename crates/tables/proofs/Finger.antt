-- Building with a finger: an item above all before it, whose home is in the run of items that the last store ended, is searched for from that run's end. Assumes nothing.
use mathlib.Core.Path.{◌≡◌, refl, sym, ap, ◌∙◌}
use mathlib.Core.Bool.{true, false, true≢false}
use mathlib.Core.Logic.{⊎_elim}
use mathlib.Core.List.{List}
use Prim.Native.Nat.{ℕ, ◌+◌, ◌-◌, ◌*◌, ◌^◌, ◌≤◌, ◌<◌}
use native.Mathlib.Omega.{arith}
use native.Mathlib.Nat.{le_trans, eq-or-lt_of_le, lt_of_lt_of_le as lt-le}
use lib.ListN.{length, get_or, set, length-set}
use lib.Pow.{pow_pos}
use lib.Seq.{get_or-set_same, get_or-set_other}
use Rattle.laws.proofs.Orders.{same_or_not, le_or_lt}
use Rattle.tables.specs.Slots.{empty, home, next, stops, probe, spot}
use Rattle.tables.specs.Changes.{place, fill}
use Rattle.tables.specs.Shapes.{steps, Lawful, RunUp, AllUnder, EachNew, Stored, Built}
use Rattle.tables.proofs.Laws.{stops_empty, at_or_below}
use Rattle.tables.proofs.Stepping.{steps_add, steps_lt, next_lt, steps_apart, step_on}
use Rattle.tables.proofs.Paths.{probe_ends, Path-to, run_clear, run_none}
use Rattle.tables.proofs.Placing.{path, homed, at_end, stored_new}
use Rattle.tables.proofs.Refilled.{fill_one, items_some}

-- a search whose home is in a run of items below x may as well start at the run's end
pub resume : (s : List ℕ) (lg v c x p len top d : ℕ) → Lawful s lg v c → x < 2 ^ v → (x ≡ empty → ⊥) → RunUp s (2 ^ lg) p len top
    → steps (2 ^ lg) (home lg v x) d ≡ p → d ≤ len → top < x → (q : ℕ) → q ≡ probe s (2 ^ lg) x (2 ^ lg) p → q ≡ spot s lg v x
resume s lg v c x p len top d l xs xe u there near above q found =
    found ∙ probe_ends s n x n p (w.count - d) (omega (arith, w.short)) (record { clear = after; stop = rw (on_end) w.ends.stop }) ∙ on_end ∙ w.there
  where
    n : ℕ
    n = 2 ^ lg

    w : Path-to s lg v x (spot s lg v x)
    w = path s lg v c x l xs xe x xs

    clear : (k : ℕ) → k < d → stops s x (steps (2 ^ lg) (home lg v x) k) ≡ false
    clear = run_clear s (2 ^ lg) x (home lg v x) p len top d u (homed s lg v c x l xs xe x xs) there near above

    past : d ≤ w.count
    past = ⊎_elim (λ h. h) (λ h. absurd (true≢false (sym w.ends.stop ∙ clear w.count h))) (le_or_lt d w.count)

    on : (k : ℕ) → steps (2 ^ lg) p k ≡ steps (2 ^ lg) (home lg v x) (d + k)
    on k = ap (λ z. steps (2 ^ lg) z k) (sym there) ∙ sym (steps_add (2 ^ lg) (home lg v x) d k)

    on_end : steps (2 ^ lg) p (w.count - d) ≡ steps (2 ^ lg) (home lg v x) w.count
    on_end = let e : d + (w.count - d) ≡ w.count = omega (arith, past) in on (w.count - d) ∙ ap (steps (2 ^ lg) (home lg v x)) e

    after : (k : ℕ) → k < w.count - d → stops s x (steps (2 ^ lg) p k) ≡ false
    after k h = rw (on k) (w.ends.clear (d + k) (omega arith))

-- a store in an empty slot leaves a run as it was
pub run_keep : (s : List ℕ) (n p len top q x : ℕ) → RunUp s n p len top → get_or s q 0 ≡ empty → RunUp (set s q x) n p len top
run_keep s n p len top q x u e = record {
  from = u.from;
  from_lt = u.from_lt;
  meets = u.meets;
  full = λ k h. rw (same k h) (u.full k h);
  under = λ k h. rw (same k h) (u.under k h);
}
  where
    same : (k : ℕ) → k < len → get_or (set s q x) (steps n u.from k) 0 ≡ get_or s (steps n u.from k) 0
    same k h = get_or-set_other s q (steps n u.from k) x 0 (λ g. u.full k h (rw g e))

-- storing x, above all items, where its search ends makes a run from its home
pub run_path : (s : List ℕ) (lg v x q d : ℕ) → Path-to s lg v x q → home lg v x < 2 ^ lg → d < 2 ^ lg → steps (2 ^ lg) (home lg v x) d ≡ q → q < length s → get_or s q 0 ≡ empty
    → AllUnder s (2 ^ lg) x → (x ≡ empty → ⊥) → RunUp (set s q x) (2 ^ lg) (next (2 ^ lg) q) (d + 1) x
run_path s lg v x q d w hn dn there ql e under xe = record {
  from = home lg v x;
  from_lt = hn;
  meets = step_on (2 ^ lg) (home lg v x) d ∙ ap (next (2 ^ lg)) there;
  full = λ k m. ⊎_elim (λ (g : k ≡ d). rw (g, there, get_or-set_same s q x 0 ql) xe) (λ b g. full k b (sym (same k b) ∙ g)) (at_or_below m);
  under = λ k m. ⊎_elim (λ (g : k ≡ d). rw (g, there, get_or-set_same s q x 0 ql) (omega arith)) (λ b. rw (same k b) (under _ (steps_lt (2 ^ lg) (home lg v x) k hn) (full k b))) (at_or_below m);
}
  where
    count : w.count ≡ d
    count = ⊎_elim (λ h. ⊎_elim (λ z. sym z) (λ z. absurd (steps_apart (2 ^ lg) (home lg v x) d w.count hn z w.short (there ∙ sym w.there))) (eq-or-lt_of_le h))
        (λ z. absurd (steps_apart (2 ^ lg) (home lg v x) w.count d hn z dn (w.there ∙ sym there))) (le_or_lt d w.count)

    full : (k : ℕ) → k < d → get_or s (steps (2 ^ lg) (home lg v x) k) 0 ≡ empty → ⊥
    full k h g = true≢false (sym (stops_empty s x _ g) ∙ w.ends.clear k (omega (arith, count)))

    same : (k : ℕ) → k < d → get_or (set s q x) (steps (2 ^ lg) (home lg v x) k) 0 ≡ get_or s (steps (2 ^ lg) (home lg v x) k) 0
    same k h = get_or-set_other s q (steps (2 ^ lg) (home lg v x) k) x 0 (λ g. full k h (rw g e))

-- a store of an item that is not above top leaves none above it
pub under_set : (s : List ℕ) (n q x top : ℕ) → q < length s → AllUnder s n top → x ≤ top → AllUnder (set s q x) n top
under_set s n q x top l f h j jn full = ⊎_elim
    (λ (e : j ≡ q). rw (e, get_or-set_same s q x 0 l) h)
    (λ d. rw (get_or-set_other s q j x 0 d) (f j jn (λ z. full (get_or-set_other s q j x 0 d ∙ z))))
    (same_or_not j q)

-- what is not above a is not above b
pub under_more : (s : List ℕ) (n a b : ℕ) → AllUnder s n a → a ≤ b → AllUnder s n b
under_more s n a b f h j jn full = le_trans (f j jn full) h

-- Building, before the i-th item of o.
pub record Before (o t s : List ℕ) (lg v p len top i : ℕ) : Type 0 where
  pub within : i ≤ length o
  pub long : length s ≡ length t
  pub now_is : s ≡ fill o i t lg v
  pub lawful : Lawful s lg v i
  pub finger : p < 2 ^ lg
  pub run : RunUp s (2 ^ lg) p len top
  pub under : AllUnder s (2 ^ lg) top
  pub fresh : EachNew o t lg v i

module _ (o t s : List ℕ) (lg v p len top i q : ℕ) (b : Before o t s lg v p len top i) (more : i < length o) (load : 4 * length o ≤ 3 * 2 ^ lg)
    (small : get_or o i 0 < 2 ^ v) (full : get_or o i 0 ≡ empty → ⊥) (qz : q ≡ spot s lg v (get_or o i 0)) (qn : q < 2 ^ lg) (new : get_or s q 0 ≡ get_or o i 0 → ⊥) where
  abbrev x : ℕ
  x = get_or o i 0

  went : Stored s (set s q x) lg v i x true
  went = stored_new s lg v i x q b.lawful small full (omega arith) qz qn new

  ql : q < length s
  ql = lt-le qn b.lawful.room

  q_empty : get_or s q 0 ≡ empty
  q_empty = rw qz (at_end s lg v i x b.lawful small full (rw qz at new))

  is_fill : set s q x ≡ fill o (i + 1) t lg v
  unfolding place
  is_fill = rw qz (rw b.now_is (sym (fill_one o i t lg v full)))

  fresh_more : EachNew o t lg v (i + 1)
  fresh_more k h m = ⊎_elim (λ (e : k ≡ i). went.new refl (rw b.now_is (rw e at m))) (λ z. b.fresh k z m) (at_or_below h)

  -- an item that is not above all others: the finger stays
  pub stay : x ≤ top → Before o t (set s q x) lg v p len top (i + 1)
  stay h = record {
    within = omega arith;
    long = length-set s q x ∙ b.long;
    now_is = is_fill;
    lawful = went.lawful refl;
    finger = b.finger;
    run = run_keep s (2 ^ lg) p len top q x b.run q_empty;
    under = under_set s (2 ^ lg) q x top ql b.under h;
    fresh = fresh_more;
  }

  -- one that is: the finger moves behind it
  pub move : (d : ℕ) → top < x → home lg v x < 2 ^ lg → d < 2 ^ lg → steps (2 ^ lg) (home lg v x) d ≡ q → Before o t (set s q x) lg v (next (2 ^ lg) q) (d + 1) x (i + 1)
  move d h hn dn there = record {
    within = omega arith;
    long = length-set s q x ∙ b.long;
    now_is = is_fill;
    lawful = went.lawful refl;
    finger = next_lt (2 ^ lg) q qn;
    run = run_path s lg v x q d (rw (← qz) at (path s lg v i x b.lawful small full x small)) hn dn there ql q_empty (under_more s (2 ^ lg) top x b.under (omega arith)) full;
    under = under_set s (2 ^ lg) q x x ql (under_more s (2 ^ lg) top x b.under (omega arith)) (omega arith);
    fresh = fresh_more;
  }

-- before the first item
pub first : (o t : List ℕ) (lg v : ℕ) → Lawful t lg v 0 → Before o t t lg v 0 0 0 0
unfolding fill
first o t lg v l = record {
  within = omega arith;
  long = refl;
  now_is = refl;
  lawful = l;
  finger = pow_pos lg;
  run = run_none t (2 ^ lg) 0 0 (pow_pos lg);
  under = λ j jn f. absurd (omega (arith, items_some t (2 ^ lg) j jn f, l.count));
  fresh = λ k h. absurd (omega arith);
}

-- after the last item all are built
pub last : (o t s : List ℕ) (lg v p len top i : ℕ) → Before o t s lg v p len top i → length o ≤ i → Built o t s lg v i
last o t s lg v p len top i b h = record { within = b.within; now_is = b.now_is; lawful = b.lawful; fresh = b.fresh; stopped = λ l. absurd (omega arith) }

-- an item that is there already ends the build
pub twice : (o t s : List ℕ) (lg v p len top i q : ℕ) → Before o t s lg v p len top i → q < 2 ^ lg → get_or s q 0 ≡ get_or o i 0 → (get_or o i 0 ≡ empty → ⊥) → Built o t s lg v i
twice o t s lg v p len top i q b qn e full = record { within = b.within; now_is = b.now_is; lawful = b.lawful; fresh = b.fresh; stopped = λ l. (q, qn, e, full) }
