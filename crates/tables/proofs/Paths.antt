-- Laws of where a search ends: it walks from its home, slot after slot, to the first that stops it. Assumes nothing.
use mathlib.Core.Path.{◌≡◌, refl, sym, ap, ◌∙◌}
use mathlib.Core.Bool.{Bool, true, false, true≢false, false≢true}
use mathlib.Core.Logic.{◌⊎◌, inl, inr, ⊎_elim}
use mathlib.Core.List.{List}
use Prim.Native.Nat.{ℕ, zero, suc, ◌+◌, ◌-◌, ◌^◌, ◌≤◌, ◌<◌}
use native.Mathlib.Omega.{arith}
use native.Mathlib.Nat.{le_trans, eq-or-lt_of_le, eq-zero-or-pos}
use lib.ListN.{length, get_or, set}
use lib.Seq.{get_or-set_same, get_or-set_other}
use Rattle.laws.proofs.Orders.{same_or_not}
use Rattle.tables.specs.Slots.{empty, home, next, stops, probe, spot}
use Rattle.tables.specs.Shapes.{steps, Placed, Lawful, RunUp}
use Rattle.tables.proofs.Laws.{next_inner, stops_same, stops_empty, stops_not, probe_stop, probe_go, home_lt, at_or_below}
use Rattle.tables.proofs.Stepping.{steps_add, steps_line, steps_behind, steps_around, meets, steps_lt, steps_inj}

-- the search for x from h ends e steps on
pub record Ends (s : List ℕ) (n x h e : ℕ) : Type 0 where
  pub clear : (k : ℕ) → k < e → stops s x (steps n h k) ≡ false
  pub stop : stops s x (steps n h e) ≡ true

-- then a search of enough steps ends there
pub probe_ends : (s : List ℕ) (n x left h e : ℕ) → e < left → Ends s n x h e → probe s n x left h ≡ steps n h e
unfolding steps
probe_ends s n x zero h e l w = absurd (omega arith)
probe_ends s n x (suc left) h zero l w = probe_stop s n x (suc left) h (omega arith) w.stop
probe_ends s n x (suc left) h (suc e) l w =
    let d : suc left - 1 ≡ left = omega arith in
    probe_go s n x (suc left) h (omega arith) (w.clear 0 (omega arith))
    ∙ rw d (probe_ends s n x left (next n h) e (omega arith) (record { clear = λ k m. w.clear (suc k) (omega arith); stop = w.stop }))

-- what stops the search within k steps has a first such slot
pub ends_within : (s : List ℕ) (n x h k : ℕ) → stops s x (steps n h k) ≡ true → (e : ℕ) × (e ≤ k) × Ends s n x h e
unfolding steps
ends_within s n x h zero t = (0, omega arith, record { clear = λ k l. absurd (omega arith); stop = t })
ends_within s n x h (suc k) t = go (stops s x h) refl (ends_within s n x (next n h) k t)
  where
    from_next : (e : ℕ) → Ends s n x (next n h) e → stops s x h ≡ false → (k : ℕ) → k < suc e → stops s x (steps n h k) ≡ false
    from_next e w b zero l = b
    from_next e w b (suc k) l = w.clear k (omega arith)

    go : (b : Bool) → stops s x h ≡ b → (e : ℕ) × (e ≤ k) × Ends s n x (next n h) e → (e : ℕ) × (e ≤ suc k) × Ends s n x h e
    go true b r = (0, omega arith, record { clear = λ k l. absurd (omega arith); stop = b })
    go false b r = (suc r.0, omega arith, record { clear = from_next r.0 r.2 b; stop = r.2.stop })

-- and spot is that slot
pub spot_ends : (s : List ℕ) (lg v x e : ℕ) → e < 2 ^ lg → Ends s (2 ^ lg) x (home lg v x) e → spot s lg v x ≡ steps (2 ^ lg) (home lg v x) e
unfolding spot
spot_ends s lg v x e l w = probe_ends s (2 ^ lg) x (2 ^ lg) (home lg v x) e l w

-- a search that some slot stops
pub record Path-to (s : List ℕ) (lg v x p : ℕ) : Type 0 where
  pub count : ℕ
  pub short : count < 2 ^ lg
  pub ends : Ends s (2 ^ lg) x (home lg v x) count
  pub there : steps (2 ^ lg) (home lg v x) count ≡ p

-- a slot that stops it within reach gives a path
pub path_of : (s : List ℕ) (lg v x q : ℕ) → home lg v x < 2 ^ lg → q < 2 ^ lg → stops s x q ≡ true → Path-to s lg v x (spot s lg v x)
path_of s lg v x q hn qn t =
    let m = meets (2 ^ lg) (home lg v x) q hn qn in
    let r = ends_within s (2 ^ lg) x (home lg v x) m.0 (rw m.2 t) in
    record { count = r.0; short = omega arith; ends = r.2; there = sym (spot_ends s lg v x r.0 (omega arith) r.2) }

-- a path leads to spot
pub path_spot : {s : List ℕ} {lg v x p : ℕ} → Path-to s lg v x p → spot s lg v x ≡ p
path_spot {s} {lg} {v} {x} w = spot_ends s lg v x w.count w.short w.ends ∙ w.there

-- what stops a search is what stands there
pub stops_value : (s t : List ℕ) (x p : ℕ) → get_or s p 0 ≡ get_or t p 0 → stops s x p ≡ stops t x p
unfolding stops
stops_value s t x p e = rw e

-- a slot that stops a search for x and does not hold x is empty
pub stop_empty : (s : List ℕ) (x p : ℕ) → stops s x p ≡ true → (get_or s p 0 ≡ x → ⊥) → get_or s p 0 ≡ empty
stop_empty s x p t d = ⊎_elim (λ e. e) (λ f. absurd (false≢true (sym (stops_not s x p d f) ∙ t))) (same_or_not (get_or s p 0) empty)

-- filling an empty slot leaves a search where it was, unless it ended there
pub path_fill : (s : List ℕ) (lg v x p q a : ℕ) → Path-to s lg v x p → q < length s → get_or s q 0 ≡ empty → (p ≡ q → a ≡ x) → Path-to (set s q a) lg v x p
path_fill s lg v x p q a w l e f = record {
  count = w.count;
  short = w.short;
  ends = record { clear = λ k m. keep (steps (2 ^ lg) (home lg v x) k) (w.ends.clear k m); stop = rw w.there (last (same_or_not p q)) };
  there = w.there;
}
  where
    other : (r : ℕ) → (r ≡ q → ⊥) → stops (set s q a) x r ≡ stops s x r
    other r d = stops_value (set s q a) s x r (get_or-set_other s q r a 0 d)

    keep : (r : ℕ) → stops s x r ≡ false → stops (set s q a) x r ≡ false
    keep r b = other r (λ (d : r ≡ q). true≢false (sym (stops_empty s x r (rw d e)) ∙ b)) ∙ b

    last : (p ≡ q) ⊎ (p ≡ q → ⊥) → stops (set s q a) x p ≡ true
    last (inl d) = stops_same (set s q a) x p (rw d (get_or-set_same s q a 0 l ∙ f d))
    last (inr d) = other p d ∙ (rw w.there at w.ends.stop)

-- a store off its path leaves a search where it was
pub path_off : (s : List ℕ) (lg v x p b a : ℕ) (w : Path-to s lg v x p) → ((k : ℕ) → k ≤ w.count → steps (2 ^ lg) (home lg v x) k ≡ b → ⊥) → Path-to (set s b a) lg v x p
path_off s lg v x p b a w off = record {
  count = w.count;
  short = w.short;
  ends = record {
    clear = λ k m. stops_value (set s b a) s x _ (get_or-set_other s b _ a 0 (off k (omega arith))) ∙ w.ends.clear k m;
    stop = stops_value (set s b a) s x _ (get_or-set_other s b _ a 0 (off w.count (omega arith))) ∙ w.ends.stop;
  };
  there = w.there;
}

-- the search for the item at p ends at p
pub own_path : (s : List ℕ) (lg v c p : ℕ) → Lawful s lg v c → p < 2 ^ lg → (get_or s p 0 ≡ empty → ⊥) → Path-to s lg v (get_or s p 0) p
unfolding home
own_path s lg v c p l h f =
    let w = l.placed p h f in
    rw w.found at (path_of s lg v (get_or s p 0) p (home_lt lg v (get_or s p 0) (omega (arith, l.bits_least)) w.small) h (stops_same s (get_or s p 0) p refl))

-- a search whose home is in a run of items below x walks the run to its end
pub run_clear : (s : List ℕ) (n x h p len top d : ℕ) → RunUp s n p len top → h < n → steps n h d ≡ p → d ≤ len → top < x → (k : ℕ) → k < d → stops s x (steps n h k) ≡ false
run_clear s n x h p len top d u hn there near above k l =
    rw (along k) (stops_not s x (steps n u.from (len - d + k)) (λ g. omega (arith, g, u.under (len - d + k) (omega arith))) (u.full (len - d + k) (omega arith)))
  where
    joins : h ≡ steps n u.from (len - d)
    joins =
        let e : len - d + d ≡ len = omega arith in
        steps_inj n h (steps n u.from (len - d)) d hn (steps_lt n u.from (len - d) u.from_lt)
        (there ∙ sym u.meets ∙ ap (steps n u.from) (sym e) ∙ steps_add n u.from (len - d) d)

    along : (k : ℕ) → steps n h k ≡ steps n u.from (len - d + k)
    along k = ap (λ z. steps n z k) joins ∙ sym (steps_add n u.from (len - d) k)

-- An item above the `run` items before it, whose home is among them or itself, is placed: nothing is searched.
pub run_placed : (s : List ℕ) (lg v p run top d : ℕ) → RunUp s (2 ^ lg) p run top → home lg v (get_or s p 0) < 2 ^ lg → d < 2 ^ lg
    → steps (2 ^ lg) (home lg v (get_or s p 0)) d ≡ p → get_or s p 0 < 2 ^ v → d ≤ run → top < get_or s p 0 → Placed s lg v p
run_placed s lg v p run top d u hn dn there small near above = record {
  small = small;
  found = spot_ends s lg v (get_or s p 0) d dn (record {
    clear = run_clear s (2 ^ lg) (get_or s p 0) (home lg v (get_or s p 0)) p run top d u hn there near above;
    stop = rw there (stops_same s (get_or s p 0) p refl);
  }) ∙ there;
}

-- no item is a run
pub run_none : (s : List ℕ) (n p top : ℕ) → p < n → RunUp s n p 0 top
unfolding steps
run_none s n p top l = record { from = p; from_lt = l; meets = refl; full = λ k m. absurd (omega arith); under = λ k m. absurd (omega arith) }

-- one item more
pub run_more : (s : List ℕ) (n p run top more : ℕ) → RunUp s n p run top → top ≤ more → (get_or s p 0 ≡ empty → ⊥) → get_or s p 0 ≤ more → p + 1 < n → RunUp s n (p + 1) (run + 1) more
unfolding steps
run_more s n p run top more u l f h pn = record {
  from = u.from;
  from_lt = u.from_lt;
  meets = steps_add n u.from run 1 ∙ ap (next n) u.meets ∙ next_inner n p (λ e. omega arith);
  full = λ k m. ⊎_elim (λ (e : k ≡ run). rw (e, u.meets) f) (λ b. u.full k b) (at_or_below m);
  under = λ k m. ⊎_elim (λ (e : k ≡ run). rw (e, u.meets) h) (λ b. le_trans (u.under k b) l) (at_or_below m);
}

-- the items from slot i to the last are a run up to slot 0
pub run_tail : (s : List ℕ) (n i top : ℕ) → i ≤ n → 0 < n → ((k : ℕ) → i ≤ k → k < n → (get_or s k 0 ≡ empty → ⊥) × (get_or s k 0 ≤ top)) → RunUp s n 0 (n - i) top
run_tail s n i top l pos f = go (eq-or-lt_of_le l)
  where
    at : (k : ℕ) → k < n - i → steps n i k ≡ i + k
    at k m = steps_line n i k (omega arith)

    go : (i ≡ n) ⊎ (i < n) → RunUp s n 0 (n - i) top
    go (inl e) = let z : n - i ≡ 0 = omega arith in rw z (run_none s n 0 top pos)
    go (inr h) = record {
      from = i;
      from_lt = h;
      meets = wraps (eq-zero-or-pos i);
      full = λ k m. rw (at k m) (f (i + k) (omega arith) (omega arith)).0;
      under = λ k m. rw (at k m) (f (i + k) (omega arith) (omega arith)).1;
    }
      where
        wraps : (i ≡ 0) ⊎ (0 < i) → steps n i (n - i) ≡ 0
        wraps (inl z) = steps_around n i h z
        wraps (inr z) = let e : n - i ≡ n - i + 0 = omega arith in rw e (steps_behind n i 0 h z)
