-- What the tests of Slots say, as the shapes that laws speak of; and the other way round. Assumes nothing.
use mathlib.Core.Path.{◌≡◌, refl, sym, ap, ◌∙◌}
use mathlib.Core.Bool.{Bool, true, false, not, ◌&&◌, ◌||◌, true≢false}
use mathlib.Core.Logic.{⊎_elim}
use mathlib.Core.List.{List}
use Prim.Native.Nat.{ℕ, ◌*◌, ◌^◌, ◌≤◌, ◌<◌}
use native.Mathlib.Omega.{arith}
use lib.ListN.{length, get_or}
use lib.Dec.{eqb, leb, ltb}
use borrow.Author.Tests.{eq-eqb, ne_eqb, eqb-true, lt-ltb, ltb-true, le-leb, leb-true, not-true, not-false}
use Rattle.laws.specs.Below.{every_below}
use Rattle.laws.proofs.Below.{every_at, every_of, some_false}
use Rattle.laws.proofs.Truths.{true_or_false, never_true, and_left, and_right, and_both, or_true, or_left, or_right}
use Rattle.laws.proofs.Orders.{same_or_not, le_or_lt}
use Rattle.tables.specs.Slots.{empty, spot, items, holds, sized, placed_at, empty_beyond, lawful}
use Rattle.tables.specs.Shapes.{Placed, AllPlaced, EmptyFrom, Lawful, Decides, Member}
use Rattle.tables.proofs.Placing.{only_there, spot_lt}

-- two ways to say whether A holds are the same
pub decided : {A : Type 0} (r b : Bool) → Decides A r → (b ≡ true → A) → (A → b ≡ true) → r ≡ b
decided true b d is of = sym (of (d.holds refl))
decided false b d is of = sym (never_true b (λ e. d.fails refl (is e)))

-- and a test says it
pub decides : {A : Type 0} (b : Bool) → (b ≡ true → A) → (A → b ≡ true) → Decides A b
decides b is of = record { holds = is; fails = λ e a. absurd (true≢false (sym (of a) ∙ e)) }

-- the sizes of a table
pub record Sized (lg v : ℕ) : Type 0 where
  pub lg_least : 2 ≤ lg
  pub lg_most : lg ≤ 26
  pub bits_least : lg < v
  pub bits_most : v ≤ 32

-- the test of the sizes, as a record
pub sized_is : (lg v : ℕ) → sized lg v ≡ true → Sized lg v
unfolding sized
sized_is lg v e =
    let a : (leb 2 lg && leb lg 26) ≡ true = and_left (leb 2 lg && leb lg 26) (ltb lg v && leb v 32) e in
    let b : (ltb lg v && leb v 32) ≡ true = and_right (leb 2 lg && leb lg 26) (ltb lg v && leb v 32) e in
    record {
      lg_least = leb-true 2 lg (and_left (leb 2 lg) (leb lg 26) a);
      lg_most = leb-true lg 26 (and_right (leb 2 lg) (leb lg 26) a);
      bits_least = ltb-true lg v (and_left (ltb lg v) (leb v 32) b);
      bits_most = leb-true v 32 (and_right (ltb lg v) (leb v 32) b);
    }

-- and back
pub is_sized : (lg v : ℕ) → Sized lg v → sized lg v ≡ true
unfolding sized
is_sized lg v w =
    and_both (and_both (le-leb 2 lg w.lg_least) (le-leb lg 26 w.lg_most)) (and_both (lt-ltb lg v w.bits_least) (le-leb v 32 w.bits_most))

-- a slot that holds an item is placed
pub placed_is : (s : List ℕ) (lg v p : ℕ) → placed_at s lg v p ≡ true → (get_or s p 0 ≡ empty → ⊥) → Placed s lg v p
unfolding placed_at
placed_is s lg v p e full = ⊎_elim
    (λ (t : eqb (get_or s p 0) empty ≡ true). absurd (full (eqb-true (get_or s p 0) empty t)))
    (λ (t : (ltb (get_or s p 0) (2 ^ v) && eqb (spot s lg v (get_or s p 0)) p) ≡ true). record {
      small = ltb-true (get_or s p 0) (2 ^ v) (and_left (ltb (get_or s p 0) (2 ^ v)) (eqb (spot s lg v (get_or s p 0)) p) t);
      found = eqb-true (spot s lg v (get_or s p 0)) p (and_right (ltb (get_or s p 0) (2 ^ v)) (eqb (spot s lg v (get_or s p 0)) p) t);
    })
    (or_true (eqb (get_or s p 0) empty) (ltb (get_or s p 0) (2 ^ v) && eqb (spot s lg v (get_or s p 0)) p) e)

-- and back
pub is_placed : (s : List ℕ) (lg v p : ℕ) → ((get_or s p 0 ≡ empty → ⊥) → Placed s lg v p) → placed_at s lg v p ≡ true
unfolding placed_at
is_placed s lg v p f = ⊎_elim
    (λ e. or_left (eqb (get_or s p 0) empty) (ltb (get_or s p 0) (2 ^ v) && eqb (spot s lg v (get_or s p 0)) p) (eq-eqb (get_or s p 0) empty e))
    (λ d. or_right (eqb (get_or s p 0) empty) (ltb (get_or s p 0) (2 ^ v) && eqb (spot s lg v (get_or s p 0)) p)
    (and_both (lt-ltb (get_or s p 0) (2 ^ v) (f d).small) (eq-eqb (spot s lg v (get_or s p 0)) p (f d).found)))
    (same_or_not (get_or s p 0) empty)

-- every slot of the first n that holds an item is placed
pub all_placed : (s : List ℕ) (lg v n : ℕ) → every_below n (placed_at s lg v) ≡ true → AllPlaced s lg v n
all_placed s lg v n e p h full = placed_is s lg v p (every_at n (placed_at s lg v) e p h) full

-- and back
pub placed_all : (s : List ℕ) (lg v n : ℕ) → AllPlaced s lg v n → every_below n (placed_at s lg v) ≡ true
placed_all s lg v n f = every_of n (placed_at s lg v) (λ p h. is_placed s lg v p (f p h))

-- the slots beyond a table are empty
pub beyond_is : (s : List ℕ) (n : ℕ) → empty_beyond s n ≡ true → EmptyFrom s n (length s)
unfolding empty_beyond
beyond_is s n e p h l = ⊎_elim
    (λ (t : ltb p n ≡ true). absurd (omega (arith, ltb-true p n t)))
    (λ (t : eqb (get_or s p 0) empty ≡ true). eqb-true (get_or s p 0) empty t)
    (or_true (ltb p n) (eqb (get_or s p 0) empty) (every_at (length s) (λ p. ltb p n || eqb (get_or s p 0) empty) e p l))

-- and back
pub is_beyond : (s : List ℕ) (n : ℕ) → EmptyFrom s n (length s) → empty_beyond s n ≡ true
unfolding empty_beyond
is_beyond s n f = every_of (length s) (λ p. ltb p n || eqb (get_or s p 0) empty) (λ p l. ⊎_elim
    (λ (h : n ≤ p). or_right (ltb p n) (eqb (get_or s p 0) empty) (eq-eqb (get_or s p 0) empty (f p h l)))
    (λ (h : p < n). or_left (ltb p n) (eqb (get_or s p 0) empty) (lt-ltb p n h))
    (le_or_lt n p))

-- a lawful region
pub lawful_is : (s : List ℕ) (lg v c : ℕ) → lawful s lg v c ≡ true → Lawful s lg v c
unfolding lawful
lawful_is s lg v c e =
    let load : Bool = leb (4 * c) (3 * 2 ^ lg) && empty_beyond s (2 ^ lg) in
    let count : Bool = eqb (items s (2 ^ lg)) c && load in
    let placed : Bool = every_below (2 ^ lg) (placed_at s lg v) && count in
    let room : Bool = leb (2 ^ lg) (length s) && placed in
    let e₁ : room ≡ true = and_right (sized lg v) room e in
    let e₂ : placed ≡ true = and_right (leb (2 ^ lg) (length s)) placed e₁ in
    let e₃ : count ≡ true = and_right (every_below (2 ^ lg) (placed_at s lg v)) count e₂ in
    let e₄ : load ≡ true = and_right (eqb (items s (2 ^ lg)) c) load e₃ in
    let w = sized_is lg v (and_left (sized lg v) room e) in
    record {
      lg_least = w.lg_least;
      lg_most = w.lg_most;
      bits_least = w.bits_least;
      bits_most = w.bits_most;
      room = leb-true (2 ^ lg) (length s) (and_left (leb (2 ^ lg) (length s)) placed e₁);
      count = eqb-true (items s (2 ^ lg)) c (and_left (eqb (items s (2 ^ lg)) c) load e₃);
      load = leb-true (4 * c) (3 * 2 ^ lg) (and_left (leb (4 * c) (3 * 2 ^ lg)) (empty_beyond s (2 ^ lg)) e₄);
      placed = all_placed s lg v (2 ^ lg) (and_left (every_below (2 ^ lg) (placed_at s lg v)) count e₂);
      beyond = beyond_is s (2 ^ lg) (and_right (leb (4 * c) (3 * 2 ^ lg)) (empty_beyond s (2 ^ lg)) e₄);
    }

-- and back
pub is_lawful : (s : List ℕ) (lg v c : ℕ) → Lawful s lg v c → lawful s lg v c ≡ true
unfolding lawful
is_lawful s lg v c l =
    and_both (is_sized lg v (record { lg_least = l.lg_least; lg_most = l.lg_most; bits_least = l.bits_least; bits_most = l.bits_most }))
    (and_both (le-leb (2 ^ lg) (length s) l.room)
    (and_both (placed_all s lg v (2 ^ lg) l.placed)
    (and_both (eq-eqb (items s (2 ^ lg)) c l.count) (and_both (le-leb (4 * c) (3 * 2 ^ lg) l.load) (is_beyond s (2 ^ lg) l.beyond)))))

-- a test that says whether a region is lawful answers as the definition
pub lawful_by : (s : List ℕ) (lg v c : ℕ) (r : Bool) → Decides (Lawful s lg v c) r → r ≡ lawful s lg v c
lawful_by s lg v c r d = decided r (lawful s lg v c) d (lawful_is s lg v c) (is_lawful s lg v c)

-- one of the first n slots holds x
pub holds_at : (s : List ℕ) (n x : ℕ) → holds s n x ≡ true → (p : ℕ) × (p < n) × (get_or s p 0 ≡ x)
unfolding holds
holds_at s n x e =
    let r = some_false n (λ p. not (eqb (get_or s p 0) x)) (not-true (every_below n (λ p. not (eqb (get_or s p 0) x))) e) in
    (r.0, r.1, eqb-true (get_or s r.0 0) x (not-false (eqb (get_or s r.0 0) x) r.2))

-- a slot below n that holds x: the test says so
pub at_holds : (s : List ℕ) (n x p : ℕ) → p < n → get_or s p 0 ≡ x → holds s n x ≡ true
unfolding holds
at_holds s n x p h e = ⊎_elim
    (λ (t : every_below n (λ p. not (eqb (get_or s p 0) x)) ≡ true).
    absurd (true≢false (sym (eq-eqb (get_or s p 0) x e) ∙ not-true (eqb (get_or s p 0) x) (every_at n (λ p. not (eqb (get_or s p 0) x)) t p h))))
    (λ (t : every_below n (λ p. not (eqb (get_or s p 0) x)) ≡ false). ap not t)
    (true_or_false (every_below n (λ p. not (eqb (get_or s p 0) x))))

-- an x that is not the empty slot's number: the test says that it is a member
pub holds_member : (s : List ℕ) (n x : ℕ) → (x ≡ empty → ⊥) → holds s n x ≡ true → Member s n x
holds_member s n x d e = let r = holds_at s n x e in (r.0, r.1, r.2, d)

-- and back
pub member_holds : (s : List ℕ) (n x : ℕ) → Member s n x → holds s n x ≡ true
member_holds s n x m = at_holds s n x m.0 m.1 m.2

-- what is no member is not held
pub holds_not : (s : List ℕ) (n x : ℕ) → (Member s n x → ⊥) → (x ≡ empty → ⊥) → holds s n x ≡ false
holds_not s n x f d = never_true (holds s n x) (λ e. f (holds_member s n x d e))

-- what is not held is no member
pub not_holds : (s : List ℕ) (n x : ℕ) → holds s n x ≡ false → Member s n x → ⊥
not_holds s n x e m = true≢false (sym (member_holds s n x m) ∙ e)

-- in a lawful table a search for x finds it exactly if it is there
pub holds_spot : (s : List ℕ) (lg v c x : ℕ) → Lawful s lg v c → x < 2 ^ v → (x ≡ empty → ⊥) → holds s (2 ^ lg) x ≡ eqb (get_or s (spot s lg v x) 0) x
holds_spot s lg v c x l xs xe = ⊎_elim
    (λ e. at_holds s (2 ^ lg) x (spot s lg v x) (spot_lt s lg v c x l xs xe) e ∙ sym (eq-eqb (get_or s (spot s lg v x) 0) x e))
    (λ d. holds_not s (2 ^ lg) x (λ m. d (only_there s lg v c x l xs xe m)) xe ∙ sym (ne_eqb (get_or s (spot s lg v x) 0) x d))
    (same_or_not (get_or s (spot s lg v x) 0) x)
