-- Deleting an item: its slot is emptied, the items after it are taken and stored again, and the table stands for the set without it. Assumes nothing.
use mathlib.Core.Path.{◌≡◌, sym, ap, ◌∙◌}
use mathlib.Core.Bool.{true, true≢false}
use mathlib.Core.Logic.{⊎_elim}
use mathlib.Core.List.{List}
use Prim.Native.Nat.{ℕ, zero, suc, ◌-◌, ◌^◌, ◌<◌}
use native.Mathlib.Omega.{arith}
use lib.ListN.{get_or, set}
use lib.Pow.{pow_pos}
use Rattle.laws.proofs.Orders.{same_or_not}
use Rattle.tables.specs.Slots.{empty, next, stops, spot}
use Rattle.tables.specs.Changes.{reseat, remove}
use Rattle.tables.specs.Shapes.{steps, Lawful, Member, Removed}
use Rattle.tables.proofs.Laws.{stops_same, stops_empty}
use Rattle.tables.proofs.Stepping.{meets}
use Rattle.tables.proofs.Paths.{Ends, ends_within, stop_empty}
use Rattle.tables.proofs.Tally.{some_empty}
use Rattle.tables.proofs.Reseating.{back_lawful, kept, was_there, not_it}

-- a search for the empty slot's number ends at an empty slot
empty_ends : (s : List ℕ) (p : ℕ) → stops s empty p ≡ true → get_or s p 0 ≡ empty
empty_ends s p t = ⊎_elim (λ e. e) (λ d. stop_empty s empty p t d) (same_or_not (get_or s p 0) empty)

-- The items from slot i on end at an empty slot, the m-th after it.
pub record Cluster (o : List ℕ) (lg i : ℕ) : Type 0 where
  pub m : ℕ
  pub short : m < 2 ^ lg
  pub some : 0 < m
  pub run : (u : ℕ) → u < m → get_or o (steps (2 ^ lg) i u) 0 ≡ empty → ⊥
  pub gap : get_or o (steps (2 ^ lg) i m) 0 ≡ empty

-- there is one: a lawful table has an empty slot
pub cluster : (o : List ℕ) (lg v c i : ℕ) → Lawful o lg v c → i < 2 ^ lg → (get_or o i 0 ≡ empty → ⊥) → Cluster o lg i
unfolding steps
cluster o lg v c i l iN full =
    let free = some_empty o (2 ^ lg) (omega (arith, l.count, l.load, pow_pos lg)) in
    let k = meets (2 ^ lg) i free.0 iN free.1 in
    ends k.0 k.1 (rw k.2 free.2)
  where
    some : (e : ℕ) → get_or o (steps (2 ^ lg) i e) 0 ≡ empty → 0 < e
    some zero gap = absurd (full gap)
    some (suc e) gap = omega arith

    from : (e : ℕ) → e < 2 ^ lg → Ends o (2 ^ lg) empty i e → Cluster o lg i
    from e h w =
        let gap : get_or o (steps (2 ^ lg) i e) 0 ≡ empty = empty_ends o (steps (2 ^ lg) i e) w.stop in
        record { m = e; short = h; some = some e gap; run = λ u k z. true≢false (sym (stops_empty o empty (steps (2 ^ lg) i u) z) ∙ w.clear u k); gap = gap }

    ends : (k : ℕ) → k < 2 ^ lg → get_or o (steps (2 ^ lg) i k) 0 ≡ empty → Cluster o lg i
    ends k h e = let r = ends_within o (2 ^ lg) empty i k (stops_same o empty (steps (2 ^ lg) i k) e) in from r.0 (omega arith) r.2

-- Deleting the item at slot i.
pub record Gone (o r : List ℕ) (lg v c i : ℕ) : Type 0 where
  pub lawful : Lawful r lg v (c - 1)
  pub kept : (y : ℕ) → Member o (2 ^ lg) y → (y ≡ get_or o i 0 → ⊥) → Member r (2 ^ lg) y
  pub was_there : (y : ℕ) → Member r (2 ^ lg) y → Member o (2 ^ lg) y
  pub not_it : Member r (2 ^ lg) (get_or o i 0) → ⊥

-- taking and storing again leaves the others
pub gone_at : (o : List ℕ) (lg v c i : ℕ) → Lawful o lg v c → i < 2 ^ lg → (get_or o i 0 ≡ empty → ⊥)
    → Gone o (reseat (set o i empty) lg v (2 ^ lg) (next (2 ^ lg) i)) lg v c i
gone_at o lg v c i l iN full =
    let k = cluster o lg v c i l iN full in
    record {
      lawful = back_lawful o lg v c i k.m l iN k.short k.some k.run k.gap;
      kept = kept o lg v c i k.m l iN k.short k.some k.run k.gap;
      was_there = was_there o lg v c i k.m l iN k.short k.some k.run k.gap;
      not_it = not_it o lg v c i k.m l iN k.short k.some k.run k.gap;
    }

-- a delete of an item that is there, from where the search ended
pub removed_some : (s : List ℕ) (lg v c x q : ℕ) → Lawful s lg v c → (x ≡ empty → ⊥) → q ≡ spot s lg v x → q < 2 ^ lg → get_or s q 0 ≡ x
    → Removed s (reseat (set s q empty) lg v (2 ^ lg) (next (2 ^ lg) q)) lg v c x true
unfolding remove
removed_some s lg v c x q l xe z qn e =
    let g = gone_at s lg v c q l qn (λ f. xe (sym e ∙ f)) in
    record {
      missing = λ r. absurd (true≢false r);
      kept = λ r. absurd (true≢false r);
      was = λ r. (q, qn, e, xe);
      now_is = λ r. ap (λ (p : ℕ). reseat (set s p empty) lg v (2 ^ lg) (next (2 ^ lg) p)) z;
      lawful = λ r. g.lawful;
      gone = λ r m. g.not_it (rw e m);
      others = λ r y m d. g.kept y m (λ f. d (f ∙ e));
      no_others = λ r. g.was_there;
    }
