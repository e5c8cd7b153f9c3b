-- What a source that is accepted is. Assumes nothing.
use mathlib.Core.Path.{◌≡◌, refl, sym, ap, ap₂, ◌∙◌}
use mathlib.Core.Bool.{Bool, true, false, not}
use mathlib.Core.List.{List, [], ◌∷◌}
use Prim.Native.Nat.{ℕ, suc, ◌+◌, ◌*◌, ◌/◌, ◌^◌, ◌<◌}
use borrow.Author.Tests.{eq-eqb, eqb-true, not-false}
use lib.Dec.{eqb, ltb}
use lib.ListN.{length, get_or}
use Rattle.laws.specs.Choose.{choose}
use Rattle.refusals.specs.Outcome.{accepted, refused, and_then}
use Rattle.refusals.proofs.Refusing.{took, both_accepted}
use Rattle.numbers.specs.Numbers.{offset_at}
use Rattle.pair_lists.specs.Lists.{judged_from, pairs_judged}
use Rattle.matrices.specs.Listing.{in_list}
use Rattle.matrices.specs.Matrix.{matrix_of, coupons, reserved}
use Rattle.matrices.specs.Source.{expanded, source_set, has_window, held, window_judged, columns_judged, places_judged, source_judged}
use Rattle.matrices.proofs.Inverse.{Parts}
use Rattle.matrices.proofs.Judged.{judged_sorted, judged_below}
use Rattle.matrices.proofs.Places.{window_inside, window_empty, columns_apart, columns_empty}

-- ---- the pairs that a source stands for, with a window and without

module _ (k c : ℕ) (window ps : List ℕ) where
  -- with a window: by the window and the list
  pub held_wide : has_window k c ≡ true → held k c window ps ≡ expanded (offset_at k c) window ps
  unfolding held
  held_wide w = ap (λ (t : Bool). source_set t (offset_at k c) window ps) w

  -- without: by the list
  pub held_listed : has_window k c ≡ false → held k c window ps ≡ (λ r d. in_list ps (64 * r + d))
  unfolding held
  held_listed w = ap (λ (t : Bool). source_set t (offset_at k c) window ps) w

-- ---- lawful parts

-- parts that no judgement refuses are lawful
pub parts_judged : (o k : ℕ) (window ps : List ℕ) → pairs_judged k ps ≡ accepted [] → window_judged o 0 window ≡ accepted [] → columns_judged o 0 ps ≡ accepted []
    → length window ≡ k → ((r : ℕ) → get_or window r 0 < 2 ^ 8) → Parts o k window ps
parts_judged o k window ps pairs inside apart long byte = record {
  sorted = judged_sorted k ps pairs;
  below = judged_below k ps pairs;
  long = long;
  byte = byte;
  inside = window_inside o window inside;
  apart = columns_apart o ps apart;
}

-- ---- an accepted source

pub record Accepted (lg c : ℕ) (window ps : List ℕ) : Type 0 where
  pub pairs : pairs_judged (2 ^ lg) ps ≡ accepted []
  pub places : has_window (2 ^ lg) c ≡ true → (window_judged (offset_at (2 ^ lg) c) 0 window ≡ accepted []) × (columns_judged (offset_at (2 ^ lg) c) 0 ps ≡ accepted [])
  pub clear : reserved lg (matrix_of (2 ^ lg) (held (2 ^ lg) c window ps)) ≡ false
  pub count : coupons (matrix_of (2 ^ lg) (held (2 ^ lg) c window ps)) ≡ c

-- a list of pairs is accepted with no values
pairs_empty : (k place least : ℕ) (ps own : List ℕ) → judged_from k place least ps ≡ accepted own → judged_from k place least ps ≡ accepted []
unfolding judged_from
pairs_empty k place least [] own e = refl
pairs_empty k place least (pair ∷ more) own e =
    let a = took (not (ltb (pair / 64) k)) _ 8 place own e in
    let b = took (ltb pair least) _ 11 place own a.1 in
    let d = took (eqb pair 4294967295) _ 10 place own b.1 in
    rw (a.0, b.0, d.0) (pairs_empty k (suc place) (suc pair) more own d.1)

-- a judged source is accepted exactly so
pub source_accepted : (lg c : ℕ) (window ps values : List ℕ) → source_judged lg c window ps ≡ accepted values → Accepted lg c window ps
unfolding source_judged
source_accepted lg c window ps values e =
    let k = 2 ^ lg in
    let m = matrix_of k (held k c window ps) in
    let a = both_accepted (pairs_judged k ps) _ values e in
    let b = both_accepted (places_judged (has_window k c) (offset_at k c) window ps) _ values a.1 in
    let d = took (reserved lg m) _ 10 67108863 values b.1 in
    let t = took (not (eqb (coupons m) c)) _ 17 0 values d.1 in
    record {
      pairs = pairs_empty k 0 0 ps a.0.0 a.0.1;
      places = λ w.
          let f = both_accepted (window_judged (offset_at k c) 0 window) (columns_judged (offset_at k c) 0 ps) b.0.0 (sym (ap (λ (u : Bool). places_judged u (offset_at k c) window ps) w) ∙ b.0.1) in
          (window_empty (offset_at k c) window f.0.0 f.0.1, columns_empty (offset_at k c) ps b.0.0 f.1);
      clear = d.0;
      count = eqb-true (coupons m) c (not-false (eqb (coupons m) c) t.0);
    }

-- and such a source is accepted
pub source_given : (lg c : ℕ) (window ps : List ℕ) → Accepted lg c window ps → source_judged lg c window ps ≡ accepted []
unfolding source_judged
source_given lg c window ps a =
    let k = 2 ^ lg in
    let m = matrix_of k (held k c window ps) in
    ap₂ and_then a.pairs
    (ap₂ and_then (places (has_window k c) refl)
    (ap₂ (λ (t u : Bool). choose t (refused 10 67108863) (choose (not u) (refused 17 0) (accepted []))) a.clear (eq-eqb (coupons m) c a.count)))
  where
    places : (w : Bool) → has_window (2 ^ lg) c ≡ w → places_judged w (offset_at (2 ^ lg) c) window ps ≡ accepted []
    places true w = ap₂ and_then (a.places w).0 (a.places w).1
    places false w = refl

-- the parts of an accepted source with a window are lawful
pub accepted_parts : (lg c : ℕ) (window ps : List ℕ) → Accepted lg c window ps → has_window (2 ^ lg) c ≡ true → length window ≡ 2 ^ lg → ((r : ℕ) → get_or window r 0 < 2 ^ 8)
    → Parts (offset_at (2 ^ lg) c) (2 ^ lg) window ps
accepted_parts lg c window ps a w long byte = parts_judged (offset_at (2 ^ lg) c) (2 ^ lg) window ps a.pairs (a.places w).0 (a.places w).1 long byte
