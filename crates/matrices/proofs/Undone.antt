-- Expansion undoes the split, and the split undoes the expansion: the calls, on all lawful input. Assumes nothing.
use mathlib.Core.Path.{◌≡◌, refl, sym, ap, ap₂, ◌∙◌, subst}
use mathlib.Core.Logic.{⊎_elim}
use mathlib.Core.Bool.{Bool, true, false, ◌&&◌}
use mathlib.Core.List.{List, [], ◌∷◌, ◌++◌, map}
use Prim.Native.Nat.{ℕ, ◌+◌, ◌*◌, ◌/◌, ◌%◌, ◌^◌, ◌≤◌, ◌<◌}
use native.Mathlib.Nat.{zero-add}
use native.Mathlib.Omega.{arith}
use borrow.Author.Tests.{le-ltb}
use lib.ListN.{length, get_or, take, drop, length-map, get_or-eq_default}
use lib.Pow.{pow_pos}
use lib.Seq.{take_at}
use Rattle.laws.specs.Below.{count_below}
use Rattle.laws.specs.Choose.{choose}
use Rattle.laws.specs.Columns.{has}
use Rattle.laws.proofs.Columns.{has_out, has_zero}
use Rattle.laws.proofs.Orders.{lt_or_le}
use Rattle.laws.proofs.Words.{has_word_of}
use Rattle.refusals.specs.Outcome.{Outcome, accepted, if_accepted}
use Rattle.numbers.specs.Calls.{outside}
use Rattle.numbers.specs.Numbers.{flavor_at, offset_at}
use Rattle.numbers.specs.Told.{flavor_number}
use Rattle.pair_lists.specs.Lists.{pairs_judged}
use Rattle.matrices.specs.Calls.{offset_in, window_in, listed, split_of, split_window, split_pairs, expand_of, expanded_matrix}
use Rattle.matrices.specs.Listing.{list_from, in_list}
use Rattle.matrices.specs.Matrix.{at, matrix_of, coupons, reserved}
use Rattle.matrices.specs.Parts.{window_at, surprise_word, surprise_pairs, first_column}
use Rattle.matrices.specs.Source.{expanded, has_window, held, window_judged, columns_judged}
use Rattle.matrices.proofs.Accepting.{Accepted, held_wide, held_listed, accepted_parts}
use Rattle.matrices.proofs.Answered.{split_accepted, split_given, Expanded, expand_accepted, expand_given, inside_most}
use Rattle.matrices.proofs.CouponsHeld.{offset_most}
use Rattle.matrices.proofs.Fits.{count_le, sum_le}
use Rattle.matrices.proofs.Inverse.{listed_at, expand_split, expand_list, windows_expand, surprises_expand}
use Rattle.matrices.proofs.Judged.{judged_sorted, judged_below}
use Rattle.matrices.proofs.Listed.{list_same}
use Rattle.matrices.proofs.Members.{in_list_is, list_of_sorted}
use Rattle.matrices.proofs.Parting.{surprises_in}
use Rattle.matrices.proofs.Places.{window_accepted, columns_accepted}
use Rattle.matrices.proofs.Rows.{length_matrix, at_matrix}
use Rattle.matrices.proofs.SplitLists.{split_judged}
use Rattle.matrices.proofs.SplitTurn.{get_d_map}

-- no matrix of k rows holds more than 64k
pub coupons_most : (m : List ℕ) → coupons m ≤ 64 * length m
unfolding coupons
coupons_most m = sum_le (length m) (λ r. count_below 64 (at m r)) (λ r. count_le 64 (at m r))

-- ---- the window and the pairs that a split leaves

-- none if Empty or Sparse
abbrev pub window_left : ℕ → List ℕ → List ℕ → List ℕ → List ℕ
window_left lg m window out = choose (window_in lg m) (split_window lg m window out) []

-- as many as the split says
abbrev pub pairs_left : ℕ → List ℕ → List ℕ → List ℕ → List ℕ
pairs_left lg m window out = take (length (listed lg m)) (split_pairs lg m window out)

-- an increasing list, put into a matrix, is listed again
listed_again : (o k : ℕ) (ps : List ℕ) → pairs_judged k ps ≡ accepted [] → surprise_pairs false o (matrix_of k (λ r d. in_list ps (64 * r + d))) ≡ ps
unfolding surprise_pairs
listed_again o k ps e =
    let f : ℕ → ℕ → Bool = λ r d. in_list ps (64 * r + d) in
    ap (λ (n : ℕ). list_from 0 (64 * n) (λ y. at (matrix_of k f) (y / 64) (y % 64))) (length_matrix k f)
    ∙ list_same 0 (64 * k) (λ y. at (matrix_of k f) (y / 64) (y % 64)) (in_list ps) (λ y h. back (0 + y) (omega (arith, zero-add y)))
    ∙ list_of_sorted ps (judged_sorted k ps e) (64 * k) (judged_below k ps e)
  where
    back : (y : ℕ) → y < 64 * k → at (matrix_of k (λ r d. in_list ps (64 * r + d))) (y / 64) (y % 64) ≡ in_list ps y
    back y h =
        let q : 64 * (y / 64) + y % 64 ≡ y = omega arith in
        at_matrix k (λ r d. in_list ps (64 * r + d)) (y / 64) (y % 64) (omega arith) (omega arith) ∙ ap (in_list ps) q

-- ---- expansion undoes the split

-- no pair is listed past the last row
listed_past : (wide : Bool) (o : ℕ) (m : List ℕ) (r c : ℕ) → length m ≤ r → in_list (surprise_pairs wide o m) (64 * r + c) ≡ false
unfolding surprise_pairs
listed_past wide o m r c h =
    let p : ℕ → Bool = λ x. has (surprise_word wide o (get_or m (x / 64) 0)) (x % 64) in
    in_list_is (64 * length m) p (64 * r + c) ∙ ap (λ (t : Bool). t && p (64 * r + c)) (le-ltb (64 * r + c) (64 * length m) (omega arith))

module _ (o : ℕ) (m : List ℕ) (words : (r : ℕ) → get_or m r 0 < 2 ^ 64) where
  windows_inside : window_judged o 0 (map (window_at o) m) ≡ accepted []
  windows_inside =
      window_accepted o (map (window_at o) m)
      (λ r i h l.
      ⊎_elim
      (λ (g : r < length m).
      ap (λ (x : ℕ). has x i) (get_d_map (window_at o) m r g) ∙ has_word_of 8 (λ j. has (get_or m r 0) (o + j)) i h ∙ has_out 64 (get_or m r 0) (o + i) (words r) l)
      (λ (g : length m ≤ r). ap (λ (x : ℕ). has x i) (get_or-eq_default (map (window_at o) m) 0 (omega (arith, length-map m (window_at o)))) ∙ has_zero i) (lt_or_le r (length m)))

  surprises_apart : columns_judged o 0 (surprise_pairs true o m) ≡ accepted []
  surprises_apart =
      columns_accepted o (surprise_pairs true o m)
      (λ r c l w.
      ⊎_elim (λ (g : r < length m). listed_at true o m r c g l ∙ surprises_in o (get_or m r 0) c l w) (λ (g : length m ≤ r). listed_past true o m r c g) (lt_or_le r (length m)))

module _ (lg : ℕ) (m : List ℕ) (words : (r : ℕ) → get_or m r 0 < 2 ^ 64) (inside : outside lg ≡ false) (rows : length m ≡ 2 ^ lg) (clear : reserved lg m ≡ false) where
  abbrev k : ℕ
  k = 2 ^ lg

  abbrev c : ℕ
  c = coupons m

  abbrev o : ℕ
  o = offset_in lg m

  -- the window that the split makes, and its list
  abbrev w : List ℕ
  w = choose (window_in lg m) (map (window_at o) m) []

  abbrev ps : List ℕ
  ps = listed lg m

  restored : matrix_of k (held k c w ps) ≡ m
  restored = go (window_in lg m) refl
    where
      go : (t : Bool) → has_window k c ≡ t → matrix_of k (held k c (choose t (map (window_at o) m) []) (surprise_pairs t o m)) ≡ m
      go true e =
          ap (matrix_of k) (held_wide k c (map (window_at o) m) (surprise_pairs true o m) e) ∙ ap (λ (n : ℕ). matrix_of n (expanded o (map (window_at o) m) (surprise_pairs true o m))) (sym rows)
          ∙ expand_split o m words
      go false e =
          ap (matrix_of k) (held_listed k c [] (surprise_pairs false o m) e) ∙ ap (λ (n : ℕ). matrix_of n (λ r d. in_list (surprise_pairs false o m) (64 * r + d))) (sym rows)
          ∙ expand_list o m words

  few : c ≤ 64 * k
  few = omega (arith, coupons_most m)

  source : Accepted lg c w ps
  source = record {
    pairs = split_judged lg (window_in lg m) o m (inside_most lg inside) rows (offset_most k c (pow_pos lg) few) clear;
    places = λ e.
        subst (λ (t : Bool). (window_judged o 0 (choose t (map (window_at o) m) []) ≡ accepted []) × (columns_judged o 0 (surprise_pairs t o m) ≡ accepted [])) (sym e)
        (windows_inside o m words, surprises_apart o m words);
    clear = ap (λ (x : List ℕ). reserved lg x) restored ∙ clear;
    count = ap coupons restored;
  }

  long : length w ≡ choose (window_in lg m) k 0
  long = go (window_in lg m)
    where
      go : (t : Bool) → length (choose t (map (window_at o) m) []) ≡ choose t k 0
      go true = length-map m (window_at o) ∙ rows
      go false = refl

  parts_expand : (m' : List ℕ) → length m' ≡ k → (expand_of lg c w ps m' ≡ accepted []) × (expanded_matrix lg c w ps m' ≡ m)
  parts_expand m' l =
      let e = expand_given lg c w ps m' (record { inside = inside; most = few; rows = l; bytes = long; source = source }) in
      (e, ap (λ (a : Outcome). if_accepted a (matrix_of k (held k c w ps)) m') e ∙ restored)

-- whatever was lent: what an accepted split leaves is accepted by the expansion, and gives the matrix again
pub expand_after_split : (lg : ℕ) (m window out values m' : List ℕ) → ((r : ℕ) → get_or m r 0 < 2 ^ 64) → split_of lg m window out ≡ accepted values → length m' ≡ 2 ^ lg
    → (expand_of lg (coupons m) (window_left lg m window out) (pairs_left lg m window out) m' ≡ accepted [])
    × (expanded_matrix lg (coupons m) (window_left lg m window out) (pairs_left lg m window out) m' ≡ m)
expand_after_split lg m window out values m' words e l =
    let s = split_accepted lg m window out values e in
    let made : split_window lg m window out ≡ choose (window_in lg m) (map (window_at (offset_in lg m)) m) window =
    ap (λ (a : Outcome). if_accepted a (choose (window_in lg m) (map (window_at (offset_in lg m)) m) window) window) e in
    let left : window_left lg m window out ≡ choose (window_in lg m) (map (window_at (offset_in lg m)) m) [] =
    ap (λ (x : List ℕ). choose (window_in lg m) x []) made ∙ twice (window_in lg m) (map (window_at (offset_in lg m)) m) window in
    let list : pairs_left lg m window out ≡ listed lg m =
    ap (λ (a : Outcome). take (length (listed lg m)) (if_accepted a (listed lg m ++ drop (length (listed lg m)) out) out)) e
    ∙ take_at (listed lg m) (drop (length (listed lg m)) out) (length (listed lg m)) refl in
    subst (λ (x : List ℕ). (expand_of lg (coupons m) x (pairs_left lg m window out) m' ≡ accepted []) × (expanded_matrix lg (coupons m) x (pairs_left lg m window out) m' ≡ m)) (sym left)
    (subst (λ (x : List ℕ). (expand_of lg (coupons m) (w lg m words s.inside s.rows s.clear) x m' ≡ accepted []) × (expanded_matrix lg (coupons m) (w lg m words s.inside s.rows s.clear) x m' ≡ m)) (sym list)
    (parts_expand lg m words s.inside s.rows s.clear m' l))
  where
    twice : (t : Bool) (x y : List ℕ) → choose t (choose t x y) [] ≡ choose t x []
    twice true x y = refl
    twice false x y = refl

-- ---- the split undoes the expansion

module _ (lg c : ℕ) (window ps m' values : List ℕ) (bytes : (r : ℕ) → get_or window r 0 < 2 ^ 8) (e : expand_of lg c window ps m' ≡ accepted values) where
  abbrev x : Expanded lg c window ps m'
  x = expand_accepted lg c window ps m' values e

  abbrev made : List ℕ
  made = matrix_of (2 ^ lg) (held (2 ^ lg) c window ps)

  same_window : has_window (2 ^ lg) c ≡ true → map (window_at (offset_at (2 ^ lg) c)) made ≡ window
  same_window w =
      let long : length window ≡ 2 ^ lg = x.bytes ∙ ap (λ (t : Bool). choose t (2 ^ lg) 0) w in
      ap (λ (f : ℕ → ℕ → Bool). map (window_at (offset_at (2 ^ lg) c)) (matrix_of (2 ^ lg) f)) (held_wide (2 ^ lg) c window ps w)
      ∙ windows_expand (offset_at (2 ^ lg) c) (2 ^ lg) window ps (accepted_parts lg c window ps x.source w long bytes)

  same_pairs : listed lg made ≡ ps
  same_pairs = ap (λ (n : ℕ). surprise_pairs (has_window (2 ^ lg) n) (offset_at (2 ^ lg) n) made) x.source.count ∙ go (has_window (2 ^ lg) c) refl
    where
      go : (t : Bool) → has_window (2 ^ lg) c ≡ t → surprise_pairs t (offset_at (2 ^ lg) c) made ≡ ps
      go true w =
          let long : length window ≡ 2 ^ lg = x.bytes ∙ ap (λ (t : Bool). choose t (2 ^ lg) 0) w in
          ap (λ (f : ℕ → ℕ → Bool). surprise_pairs true (offset_at (2 ^ lg) c) (matrix_of (2 ^ lg) f)) (held_wide (2 ^ lg) c window ps w)
          ∙ surprises_expand (offset_at (2 ^ lg) c) (2 ^ lg) window ps (accepted_parts lg c window ps x.source w long bytes)
      go false w =
          ap (λ (f : ℕ → ℕ → Bool). surprise_pairs false (offset_at (2 ^ lg) c) (matrix_of (2 ^ lg) f)) (held_listed (2 ^ lg) c window ps w)
          ∙ listed_again (offset_at (2 ^ lg) c) (2 ^ lg) ps x.source.pairs

  -- into any lent window and any list with room for the pairs
  module _ (lent out : List ℕ) (rows : length lent ≡ 2 ^ lg) (room : length ps ≤ length out) where
    again : split_of lg made lent out
        ≡ accepted (c ∷ flavor_number (flavor_at (2 ^ lg) c) ∷ offset_at (2 ^ lg) c ∷ first_column (has_window (2 ^ lg) c) (offset_at (2 ^ lg) c) made ∷ length ps ∷ [])
    again =
        split_given lg made lent out
        (record {
          inside = x.inside;
          rows = length_matrix (2 ^ lg) (held (2 ^ lg) c window ps);
          bytes = rows;
          clear = x.source.clear;
          room = omega (arith, ap length same_pairs);
        })
        ∙ ap₂ (λ (n : ℕ) (l : List ℕ). accepted (n ∷ flavor_number (flavor_at (2 ^ lg) n) ∷ offset_at (2 ^ lg) n ∷ first_column (has_window (2 ^ lg) n) (offset_at (2 ^ lg) n) made ∷ length l ∷ []))
        x.source.count same_pairs

    is_made : expanded_matrix lg c window ps m' ≡ made
    is_made = ap (λ (a : Outcome). if_accepted a made m') e

    -- it answers the stated coupons, their flavor and offset, and as many pairs as were given
    pub split_after_expand : split_of lg (expanded_matrix lg c window ps m') lent out
        ≡ accepted (c ∷ flavor_number (flavor_at (2 ^ lg) c) ∷ offset_at (2 ^ lg) c ∷ first_column (has_window (2 ^ lg) c) (offset_at (2 ^ lg) c) (expanded_matrix lg c window ps m') ∷ length ps ∷ [])
    split_after_expand =
        subst
        (λ (y : List ℕ).
        split_of lg y lent out ≡ accepted (c ∷ flavor_number (flavor_at (2 ^ lg) c) ∷ offset_at (2 ^ lg) c ∷ first_column (has_window (2 ^ lg) c) (offset_at (2 ^ lg) c) y ∷ length ps ∷ []))
        (sym is_made) again

    -- the window is the one that was given; Empty and Sparse leave it unwritten
    pub window_after_expand : split_window lg (expanded_matrix lg c window ps m') lent out ≡ choose (has_window (2 ^ lg) c) window lent
    window_after_expand =
        ap (λ (y : List ℕ). split_window lg y lent out) is_made
        ∙ ap (λ (a : Outcome). if_accepted a (choose (window_in lg made) (map (window_at (offset_in lg made)) made) lent) lent) again
        ∙ ap (λ (n : ℕ). choose (has_window (2 ^ lg) n) (map (window_at (offset_at (2 ^ lg) n)) made) lent) x.source.count
        ∙ go (has_window (2 ^ lg) c) refl
      where
        go : (t : Bool) → has_window (2 ^ lg) c ≡ t → choose t (map (window_at (offset_at (2 ^ lg) c)) made) lent ≡ choose t window lent
        go true w = same_window w
        go false w = refl

    -- and so is the list
    pub pairs_after_expand : split_pairs lg (expanded_matrix lg c window ps m') lent out ≡ ps ++ drop (length ps) out
    pairs_after_expand =
        ap (λ (y : List ℕ). split_pairs lg y lent out) is_made
        ∙ ap (λ (a : Outcome). if_accepted a (listed lg made ++ drop (length (listed lg made)) out) out) again
        ∙ ap (λ (l : List ℕ). l ++ drop (length l) out) same_pairs
