-- Storing an item, and doubling. Assumes nothing.
use mathlib.Core.Path.{◌≡◌, sym, ap, ◌∙◌}
use mathlib.Core.Bool.{Bool, true, false}
use mathlib.Core.List.{List, []}
use Prim.Native.Nat.{ℕ, ◌+◌, ◌*◌, ◌^◌, ◌≤◌, ◌<◌}
use native.Mathlib.Omega.{arith}
use native.Mathlib.Nat.{pow-suc}
use native.Mathlib.Numerals.{add-one}
use lib.ListN.{length, get_or, set, length-set, replicate, length-replicate}
use lib.Seq.{get_or-set_other}
use lib.Dec.{eqb}
use lib.Pow.{pow_mono}
use borrow.Author.Tests.{eq-eqb, ne_eqb}
use Rattle.std.specs.Prelude.{Option, None, Result, Ok, Err}
use Rattle.refusals.specs.declared.Refusal.{Refusal}
use Rattle.pair_table.specs.declared.PairTable.{PairTable}
use Rattle.refusals.specs.Outcome.{Outcome, accepted, and_then}
use Rattle.refusals.specs.Told.{told}
use Rattle.refusals.specs.declared.Refusal.{Refusal}
use Rattle.refusals.proofs.Refusing.{stays}
use Rattle.tables.specs.Slots.{empty, spot, holds}
use Rattle.tables.specs.Changes.{blank, place, rebuilt, fits, inserted}
use Rattle.tables.specs.Shapes.{Lawful, AllSmall, EmptyFrom}
use Rattle.tables.specs.Calls.{unchanged, changed, if_changed, growth_judged}
use Rattle.tables.proofs.Bridges.{holds_spot}
use Rattle.tables.proofs.Placing.{small_set}
use Rattle.pair_table.specs.Told.{told_change}
use Rattle.pair_table.specs.Steps.{ChangedBy, grow_on, insert_on, GrownBy, InsertedBy}
use Rattle.pair_table.proofs.Called.{unchanged_if_refused}

pub double : (lg : ℕ) → 2 ^ (lg + 1) ≡ 2 * 2 ^ lg
double lg = ap (λ (k : ℕ). 2 ^ k) (add-one lg) ∙ pow-suc 2 lg ∙ omega arith

-- one item more is counted
pub few : (s : List ℕ) (lg v c : ℕ) → Lawful s lg v c → c + 1 < 2 ^ 27
few s lg v c l = omega (arith, l.load, pow_mono {i = lg} {j = 26} l.lg_most)

pub wiped : (w e : List ℕ) → w ≡ blank e → (w ≡ blank w) × (length w ≡ length e)
wiped w e is =
    let long : length w ≡ length e = ap length is ∙ length-replicate (length e) empty in
    (is ∙ ap (λ (k : ℕ). replicate k empty) (sym long), long)

-- a change that goes through
pub went : (outcome : Outcome) (after s e t u : List ℕ) (answer : Result (Option PairTable) Refusal) (lg v c : ℕ) → told_change answer ≡ changed lg v c → outcome ≡ changed lg v c → t ≡ after → u ≡ blank e
    → ChangedBy outcome after s e t u answer
went outcome after s e t u answer lg v c told is p q = record {
  says = told ∙ sym is;
  region = p ∙ sym (ap (λ (o : Outcome). if_changed o after s) is);
  spare = q ∙ sym (ap (λ (o : Outcome). if_changed o (blank e) e) is);
}

pub stayed : (outcome : Outcome) (after s e : List ℕ) → outcome ≡ unchanged → ChangedBy outcome after s e s e (Ok None)
stayed outcome after s e is = record {
  says = sym is;
  region = sym (ap (λ (o : Outcome). if_changed o after s) is);
  spare = sym (ap (λ (o : Outcome). if_changed o (blank e) e) is);
}

pub refused_change : (outcome : Outcome) (after s e : List ℕ) (why : Refusal) → outcome ≡ told why → ChangedBy outcome after s e s e (Err why)
refused_change outcome after s e why is = record {
  says = sym is;
  region = sym (ap (λ (o : Outcome). if_changed o after s) is ∙ unchanged_if_refused why after s);
  spare = sym (ap (λ (o : Outcome). if_changed o (blank e) e) is ∙ unchanged_if_refused why (blank e) e);
}

module _ (s e : List ℕ) (lg v c x at : ℕ) (l : Lawful s lg v c) (level : length s ≡ length e) (xs : x < 2 ^ v) (is : at ≡ spot s lg v x) (within : at < 2 ^ lg) where
  pub at_room : at < length s
  at_room = omega (arith, l.room)

  stored : set s at x ≡ place s lg v x
  unfolding place
  stored = ap (λ (p : ℕ). set s p x) is

  -- what the rebuild of a doubled table needs
  pub grow_needs : (w : List ℕ) → w ≡ blank e → 2 ^ (lg + 1) ≤ length s
      → ((length (set s at x) ≡ length w) × (w ≡ blank w) × EmptyFrom (set s at x) (2 ^ lg) (length (set s at x)) × AllSmall (set s at x) (2 ^ lg) v)
      × ((2 ^ lg ≤ length (set s at x)) × (2 ^ (lg + 1) ≤ length (set s at x)))
  grow_needs w clean g =
      let long = length-set s at x in
      let b = wiped w e clean in (
        (
          long ∙ level ∙ sym b.1,
          b.0,
          (λ p h m. get_or-set_other s at p x 0 (λ z. omega (arith, z)) ∙ l.beyond p h (rw long at m)),
          small_set s (2 ^ lg) v at x at_room (λ p h f. (l.placed p h f).small) (λ f. xs),
        ),
        (rw long l.room, rw long g),
      )

  pub grown_refused : (why : Refusal) → told why ≡ growth_judged s (lg + 1) v → GrownBy s e lg v c x s e (Err why)
  unfolding grow_on
  grown_refused why r = refused_change (grow_on s lg v c) (rebuilt (place s lg v x) lg (lg + 1) v) s e why (ap (λ (o : Outcome). and_then o (changed (lg + 1) v (c + 1))) (sym r) ∙ stays why (changed (lg + 1) v (c + 1)))

  pub grown_done : (t u w : List ℕ) (answer : Result (Option PairTable) Refusal) → told_change answer ≡ changed (lg + 1) v (c + 1) → growth_judged s (lg + 1) v ≡ accepted [] → w ≡ blank e
      → t ≡ rebuilt (set s at x) lg (lg + 1) v → u ≡ blank w → GrownBy s e lg v c x t u answer
  unfolding grow_on
  grown_done t u w answer told r clean p q =
      went (grow_on s lg v c) (rebuilt (place s lg v x) lg (lg + 1) v) s e t u answer (lg + 1) v (c + 1) told
      (ap (λ (o : Outcome). and_then o (changed (lg + 1) v (c + 1))) r) (p ∙ ap (λ (o : List ℕ). rebuilt o lg (lg + 1) v) stored) (q ∙ ap (λ (k : ℕ). replicate k empty) (wiped w e clean).1)

  module _ (xe : x ≡ empty → ⊥) where
    abbrev after : List ℕ
    after = inserted s lg v c x

    there : (b : Bool) → eqb (get_or s at 0) x ≡ b → holds s (2 ^ lg) x ≡ b
    there b h = holds_spot s lg v c x l xs xe ∙ ap (λ (p : ℕ). eqb (get_or s p 0) x) (sym is) ∙ h

    pub insert_there : get_or s at 0 ≡ x → InsertedBy s e lg v c x s e (Ok None)
    unfolding insert_on
    insert_there h = stayed (insert_on s lg v c x) after s e (simp (there true (eq-eqb (get_or s at 0) x h)))

    pub insert_fits : (get_or s at 0 ≡ x → ⊥) → fits (c + 1) lg ≡ true → (u : List ℕ) (answer : Result (Option PairTable) Refusal) → told_change answer ≡ changed lg v (c + 1) → u ≡ blank e
        → InsertedBy s e lg v c x (set s at x) u answer
    unfolding insert_on inserted
    insert_fits d f u answer told q =
        went (insert_on s lg v c x) after s e (set s at x) u answer lg v (c + 1) told (simp (there false (ne_eqb (get_or s at 0) x d), f)) (simp f stored) q

    pub insert_grows : (get_or s at 0 ≡ x → ⊥) → fits (c + 1) lg ≡ false → (t u : List ℕ) (answer : Result (Option PairTable) Refusal) → GrownBy s e lg v c x t u answer → InsertedBy s e lg v c x t u answer
    unfolding insert_on inserted
    insert_grows d f t u answer w = simp (there false (ne_eqb (get_or s at 0) x d), f) w
