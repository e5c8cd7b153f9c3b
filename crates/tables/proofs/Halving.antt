-- Halving a table: each turn is a rebuild that keeps the set, and the end is lawful. Assumes nothing.
use mathlib.Core.Path.{◌≡◌, refl, ◌∙◌}
use mathlib.Core.Bool.{Bool, true, false, ◌&&◌}
use mathlib.Core.List.{List}
use Prim.Native.Nat.{ℕ, zero, suc, ◌-◌, ◌*◌, ◌^◌, ◌≤◌, ◌<◌}
use native.Mathlib.Omega.{arith}
use native.Mathlib.Nat.{pow-suc}
use lib.ListN.{length, length-replicate}
use lib.Dec.{ltb}
use borrow.Author.Tests.{lt-ltb, le-ltb, ltb-true}
use Rattle.laws.specs.Choose.{choose}
use Rattle.laws.proofs.Truths.{and_left, and_right, and_both}
use Rattle.tables.specs.Slots.{empty}
use Rattle.tables.specs.Changes.{rebuilt, halves, halved_lg, halved}
use Rattle.tables.specs.Shapes.{Lawful, Sound, Member}
use Rattle.tables.proofs.Refilled.{length_fill, rebuilt_lawful, rebuilt_has, rebuilt_only}

-- the first n slots of s and the first k of t stand for one set
pub record Same (s : List ℕ) (n : ℕ) (t : List ℕ) (k : ℕ) : Type 0 where
  pub there : (y : ℕ) → Member s n y → Member t k y
  pub back : (y : ℕ) → Member t k y → Member s n y

-- 4·items < slots and lg > 2, and otherwise
pub halves_yes : (c lg : ℕ) → 4 * c < 2 ^ lg → 2 < lg → halves c lg ≡ true
halves_yes c lg h l = and_both (lt-ltb (4 * c) (2 ^ lg) h) (lt-ltb 2 lg l)

-- it is full enough
pub halves_full : (c lg : ℕ) → 2 ^ lg ≤ 4 * c → halves c lg ≡ false
halves_full c lg h = simp (le-ltb (4 * c) (2 ^ lg) h)

-- it is of the least size
pub halves_least : (c lg : ℕ) → lg ≤ 2 → halves c lg ≡ false
halves_least c lg h = rw (le-ltb 2 lg h) (no (ltb (4 * c) (2 ^ lg)))
  where
    no : (b : Bool) → (b && false) ≡ false
    no true = refl
    no false = refl

-- as a loop takes it: the region and the lg stay, or go one down
pub halved_stop : (times : ℕ) (s : List ℕ) (lg v c : ℕ) → halves c lg ≡ false → halved times s lg v c ≡ s
unfolding halved
halved_stop zero s lg v c e = refl
halved_stop (suc times) s lg v c e = rw e

-- so does the lg
pub halved_lg_stop : (times lg c : ℕ) → halves c lg ≡ false → halved_lg times lg c ≡ lg
unfolding halved_lg
halved_lg_stop zero lg c e = refl
halved_lg_stop (suc times) lg c e = rw e

-- a turn: a rebuild of half the slots
pub halved_go : (times : ℕ) (s : List ℕ) (lg v c : ℕ) → 0 < times → halves c lg ≡ true → halved times s lg v c ≡ halved (times - 1) (rebuilt s lg (lg - 1) v) (lg - 1) v c
unfolding halved
halved_go zero s lg v c h e = absurd (omega arith)
halved_go (suc times) s lg v c h e = let z : suc times - 1 ≡ times = omega arith in rw (e, z)

-- and the lg goes one down
pub halved_lg_go : (times lg c : ℕ) → 0 < times → halves c lg ≡ true → halved_lg times lg c ≡ halved_lg (times - 1) (lg - 1) c
unfolding halved_lg
halved_lg_go zero lg c h e = absurd (omega arith)
halved_lg_go (suc times) lg c h e = let z : suc times - 1 ≡ times = omega arith in rw (e, z)

-- a rebuild keeps the region's length
pub length_rebuilt : (s : List ℕ) (lg to v : ℕ) → length (rebuilt s lg to v) ≡ length s
unfolding rebuilt
length_rebuilt s lg to v = length_fill s (2 ^ lg) _ to v ∙ length-replicate (length s) empty

-- a lawful table is sound
pub lawful_sound : (s : List ℕ) (lg v c : ℕ) → Lawful s lg v c → Sound s lg v c
lawful_sound s lg v c l = record { bits_most = l.bits_most; room = l.room; count = l.count; placed = l.placed }

double : (lg : ℕ) → 0 < lg → 2 ^ lg ≡ 2 ^ (lg - 1) * 2
double zero h = absurd (omega arith)
double (suc k) h = let z : suc k - 1 ≡ k = omega arith in rw z (pow-suc 2 k)

-- One turn on a lawful table.
module _ (s : List ℕ) (lg v c : ℕ) (l : Lawful s lg v c) (h : halves c lg ≡ true) where
  few : 4 * c < 2 ^ lg
  few = ltb-true (4 * c) (2 ^ lg) (and_left (ltb (4 * c) (2 ^ lg)) (ltb 2 lg) h)

  large : 2 < lg
  large = ltb-true 2 lg (and_right (ltb (4 * c) (2 ^ lg)) (ltb 2 lg) h)

  least : 2 ≤ lg - 1
  least = omega (arith, large)

  most : lg - 1 ≤ 26
  most = omega (arith, l.lg_most)

  bits : lg - 1 < v
  bits = omega (arith, l.bits_least)

  -- half the slots fit in the region
  pub half_room : 2 ^ (lg - 1) ≤ length s
  half_room = omega (arith, double lg (omega (arith, large)), l.room)

  load : 4 * c ≤ 3 * 2 ^ (lg - 1)
  load = omega (arith, double lg (omega (arith, large)), few)

  -- the rebuild is lawful
  pub half_lawful : Lawful (rebuilt s lg (lg - 1) v) (lg - 1) v c
  half_lawful = rebuilt_lawful s lg v c (lg - 1) (lawful_sound s lg v c l) least most bits half_room load

  -- and stands for the same set
  pub half_same : Same s (2 ^ lg) (rebuilt s lg (lg - 1) v) (2 ^ (lg - 1))
  half_same = record {
    there = rebuilt_has s lg v c (lg - 1) (lawful_sound s lg v c l) least most bits half_room load;
    back = rebuilt_only s lg v c (lg - 1) (lawful_sound s lg v c l) least most bits half_room load;
  }

-- All turns: a lawful table again, of the same set.
pub record Halved (s t : List ℕ) (lg to v c : ℕ) : Type 0 where
  pub lawful : Lawful t to v c
  pub same : Same s (2 ^ lg) t (2 ^ to)
  pub long : length t ≡ length s

-- by induction on the turns that may be taken
pub halved_is : (times : ℕ) (s : List ℕ) (lg v c : ℕ) → Lawful s lg v c → Halved s (halved times s lg v c) lg (halved_lg times lg c) v c
unfolding halved halved_lg
halved_is zero s lg v c l = record { lawful = l; same = record { there = λ y m. m; back = λ y m. m }; long = refl }
halved_is (suc times) s lg v c l = go (halves c lg) refl (λ k. halved_is times (rebuilt s lg (lg - 1) v) (lg - 1) v c k)
  where
    on : (h : halves c lg ≡ true) (t : List ℕ) (to : ℕ) → Halved (rebuilt s lg (lg - 1) v) t (lg - 1) to v c → Halved s t lg to v c
    on h t to w = record {
      lawful = w.lawful;
      same = record { there = λ y m. w.same.there y ((half_same s lg v c l h).there y m); back = λ y m. (half_same s lg v c l h).back y (w.same.back y m) };
      long = w.long ∙ length_rebuilt s lg (lg - 1) v;
    }

    go : (b : Bool) → halves c lg ≡ b
        → (Lawful (rebuilt s lg (lg - 1) v) (lg - 1) v c → Halved (rebuilt s lg (lg - 1) v) (halved times (rebuilt s lg (lg - 1) v) (lg - 1) v c) (lg - 1) (halved_lg times (lg - 1) c) v c)
        → Halved s (choose b (halved times (rebuilt s lg (lg - 1) v) (lg - 1) v c) s) lg (choose b (halved_lg times (lg - 1) c) lg) v c
    go true e ih = on e (halved times (rebuilt s lg (lg - 1) v) (lg - 1) v c) (halved_lg times (lg - 1) c) (ih (half_lawful s lg v c l e))
    go false e ih = record { lawful = l; same = record { there = λ y m. m; back = λ y m. m }; long = refl }

-- halving as many times as lg ends where it cannot go on
pub halved_end : (times lg c : ℕ) → lg ≤ times → halves c (halved_lg times lg c) ≡ false
unfolding halved_lg
halved_end zero lg c h = halves_least c lg (omega arith)
halved_end (suc times) lg c h = go (halves c lg) refl (halved_end times (lg - 1) c (omega arith))
  where
    go : (b : Bool) → halves c lg ≡ b → halves c (halved_lg times (lg - 1) c) ≡ false → halves c (choose b (halved_lg times (lg - 1) c) lg) ≡ false
    go true e ih = ih
    go false e ih = e
