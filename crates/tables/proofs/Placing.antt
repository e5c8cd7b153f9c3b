-- Storing an item where its search ends: the table stays lawful, and holds it. Assumes nothing.
use mathlib.Core.Path.{◌≡◌, refl, sym, ◌∙◌}
use mathlib.Core.Bool.{true, true≢false}
use mathlib.Core.Logic.{◌⊎◌, inl, inr, ⊎_elim}
use mathlib.Core.List.{List}
use Prim.Native.Nat.{ℕ, ◌+◌, ◌*◌, ◌^◌, ◌≤◌, ◌<◌}
use native.Mathlib.Omega.{arith}
use lib.ListN.{length, get_or, set, length-set}
use lib.Seq.{get_or-set_same, get_or-set_other}
use lib.Pow.{pow_pos}
use Rattle.laws.proofs.Orders.{same_or_not}
use Rattle.tables.specs.Slots.{empty, home, stops, spot, held, items}
use Rattle.tables.specs.Changes.{place}
use Rattle.tables.specs.Shapes.{Placed, AllPlaced, Lawful, Sound, Member, Stored, AllSmall}
use Rattle.tables.proofs.Laws.{stops_empty, home_lt, held_empty, held_full}
use Rattle.tables.proofs.Stepping.{steps_lt}
use Rattle.tables.proofs.Paths.{Path-to, path_of, path_spot, stop_empty, path_fill, own_path}
use Rattle.tables.proofs.Tally.{total_set, some_empty}

-- a store keeps the region's length
pub length_place : (s : List ℕ) (lg v x : ℕ) → length (place s lg v x) ≡ length s
unfolding place
length_place s lg v x = length-set s (spot s lg v x) x

-- a store of a small item leaves all items small
pub small_set : (s : List ℕ) (n v q a : ℕ) → q < length s → AllSmall s n v → ((a ≡ empty → ⊥) → a < 2 ^ v) → AllSmall (set s q a) n v
small_set s n v q a l f g j jn full = ⊎_elim
    (λ (e : j ≡ q). let h : get_or (set s q a) j 0 ≡ a = rw e (get_or-set_same s q a 0 l) in rw h (g (λ z. full (h ∙ z))))
    (λ d. let h = get_or-set_other s q j a 0 d in rw h (f j jn (λ z. full (h ∙ z))))
    (same_or_not j q)

-- A lawful table, with x to be stored where its search ends, and room for it.
module _ (s : List ℕ) (lg v c x : ℕ) (l : Lawful s lg v c) (xs : x < 2 ^ v) (xe : x ≡ empty → ⊥) where
  pub homed : (y : ℕ) → y < 2 ^ v → home lg v y < 2 ^ lg
  unfolding home
  homed y h = home_lt lg v y (omega (arith, l.bits_least)) h

  -- an empty slot stops every search
  free : (p : ℕ) × (p < 2 ^ lg) × (get_or s p 0 ≡ empty)
  free = some_empty s (2 ^ lg) (omega (arith, l.count, l.load, pow_pos lg))

  -- the search for any y below 2 ^ v ends at y or at an empty slot
  pub path : (y : ℕ) → y < 2 ^ v → Path-to s lg v y (spot s lg v y)
  path y h = path_of s lg v y free.0 (homed y h) free.1 (stops_empty s y free.0 free.2)

  -- the search for x ends at a slot
  pub spot_lt : spot s lg v x < 2 ^ lg
  spot_lt = rw (path x xs).there at (steps_lt (2 ^ lg) (home lg v x) (path x xs).count (homed x xs))

  q : ℕ
  q = spot s lg v x

  stopped : stops s x q ≡ true
  unfolding q
  stopped = rw (path x xs).there at (path x xs).ends.stop

  -- that is empty if it is not x
  pub at_end : (get_or s (spot s lg v x) 0 ≡ x → ⊥) → get_or s (spot s lg v x) 0 ≡ empty
  unfolding q
  at_end d = stop_empty s x q stopped d

  -- x is in the table exactly if its search ends at it
  pub only_there : Member s (2 ^ lg) x → get_or s (spot s lg v x) 0 ≡ x
  only_there m =
      let w = l.placed m.0 m.1 (λ e. xe (sym m.2 ∙ e)) in
      let f : spot s lg v x ≡ m.0 = rw m.2 at w.found in
      rw f m.2

  module _ (qn : spot s lg v x < 2 ^ lg) (e : get_or s (spot s lg v x) 0 ≡ empty) where
    ql : spot s lg v x < length s
    ql = omega (arith, l.room)

    t : List ℕ
    t = place s lg v x

    at_q : get_or t q 0 ≡ x
    unfolding t place q
    at_q = get_or-set_same s q x 0 ql

    at_other : (p : ℕ) → (p ≡ q → ⊥) → get_or t p 0 ≡ get_or s p 0
    unfolding t place q
    at_other p d = get_or-set_other s q p x 0 d

    placed_q : Placed t lg v q
    unfolding t place q
    placed_q = rec at_q
      where
        rec : get_or t q 0 ≡ x → Placed t lg v q
        rec g = record {
          small = rw g xs;
          found = rw g (path_spot (path_fill s lg v x q q x (path x xs) ql e (λ d. refl)));
        }

    placed_other : (p : ℕ) → p < 2 ^ lg → (p ≡ q → ⊥) → (get_or s p 0 ≡ empty → ⊥) → Placed t lg v p
    unfolding t place q
    placed_other p h d f =
        let g = at_other p d in
        record {
          small = rw g (l.placed p h f).small;
          found = rw g (path_spot (path_fill s lg v (get_or s p 0) p q x (own_path s lg v c p l h f) ql e (λ z. absurd (d z))));
        }

    -- after the store every item is placed
    pub place_placed : AllPlaced (place s lg v x) lg v (2 ^ lg)
    unfolding t
    place_placed p h f = ⊎_elim (λ (z : p ≡ q). rw z placed_q) (λ d. placed_other p h d (λ g. f (at_other p d ∙ g))) (same_or_not p q)

    -- there is one more
    pub place_count : items (place s lg v x) (2 ^ lg) ≡ c + 1
    unfolding place
    place_count = omega (arith, total_set held s (spot s lg v x) x (2 ^ lg) qn ql, held_empty (get_or s (spot s lg v x) 0) e, held_full x xe, l.count)

    -- so the table is sound
    pub place_sound : Sound (place s lg v x) lg v (c + 1)
    place_sound = record { bits_most = l.bits_most; room = rw (length_place s lg v x) l.room; count = place_count; placed = place_placed }

    -- and lawful if it is not too full
    pub place_lawful : 4 * (c + 1) ≤ 3 * 2 ^ lg → Lawful (place s lg v x) lg v (c + 1)
    unfolding t q
    place_lawful r = record {
      lg_least = l.lg_least;
      lg_most = l.lg_most;
      bits_least = l.bits_least;
      bits_most = l.bits_most;
      room = rw long l.room;
      count = place_count;
      load = r;
      placed = place_placed;
      beyond = λ p h m. past p h (rw long at m);
    }
      where
        long : length (place s lg v x) ≡ length s
        long = length_place s lg v x

        past : (p : ℕ) → 2 ^ lg ≤ p → p < length s → get_or (place s lg v x) p 0 ≡ empty
        past p h m = at_other p (λ z. omega (arith, z)) ∙ l.beyond p h m

    -- what it holds was there or is x
    pub place_member : (y : ℕ) → Member (place s lg v x) (2 ^ lg) y → Member s (2 ^ lg) y ⊎ (y ≡ x)
    unfolding t q
    place_member y m = ⊎_elim
        (λ (z : m.0 ≡ q). inr (sym m.2 ∙ rw z at_q))
        (λ d. inl (m.0, m.1, sym (at_other m.0 d) ∙ m.2, m.3))
        (same_or_not m.0 q)

    -- what was there it holds, and x
    pub member_place : (y : ℕ) → Member s (2 ^ lg) y ⊎ (y ≡ x) → Member (place s lg v x) (2 ^ lg) y
    unfolding t q
    member_place y (inl m) = (m.0, m.1, at_other m.0 (λ z. m.3 (sym m.2 ∙ rw z e)) ∙ m.2, m.3)
    member_place y (inr z) = (spot s lg v x, qn, at_q ∙ sym z, λ g. xe (sym z ∙ g))

-- a store of an item that is not there, from where the search ended
pub stored_new : (s : List ℕ) (lg v c x q : ℕ) → Lawful s lg v c → x < 2 ^ v → (x ≡ empty → ⊥) → 4 * (c + 1) ≤ 3 * 2 ^ lg
    → q ≡ spot s lg v x → q < 2 ^ lg → (get_or s q 0 ≡ x → ⊥) → Stored s (set s q x) lg v c x true
unfolding place
stored_new s lg v c x q l xs xe room z qn d = rw z (go (rw z at qn) (at_end s lg v c x l xs xe (rw z at d)))
  where
    go : spot s lg v x < 2 ^ lg → get_or s (spot s lg v x) 0 ≡ empty → Stored s (set s (spot s lg v x) x) lg v c x true
    go h e = record {
      was = λ r. absurd (true≢false r);
      kept = λ r. absurd (true≢false r);
      new = λ r m. xe (sym (only_there s lg v c x l xs xe m) ∙ e);
      now_is = λ r. refl;
      lawful = λ r. place_lawful s lg v c x l xs xe h e room;
      holds = λ r. place_member s lg v c x l xs xe h e;
      held_on = λ r. member_place s lg v c x l xs xe h e;
    }
