-- The set that a read sketch stands for, and which sketches are lawful. A source is its coupons c, its window and its list of pairs, at k rows; flavor and offset come
-- from its stated coupons. Assumes nothing.
use Rattle.std.specs.Prelude.{ℕ, suc, ◌+◌, ◌-◌, ◌*◌, ◌%◌, ◌^◌, Bool, not, ◌&&◌, ◌||◌, List, [], ◌∷◌, eqb, leb, ltb, length, get_or}
use Rattle.laws.specs.Choose.{choose}
use Rattle.laws.specs.Below.{any_below}
use Rattle.laws.specs.Columns.{has, differs}
use Rattle.refusals.specs.Outcome.{Outcome, accepted, refused, and_then}
use Rattle.numbers.specs.Numbers.{flavor_at, offset_at}
use Rattle.pair_lists.specs.Lists.{pairs_judged}
use Rattle.matrices.specs.Matrix.{matrix_of, coupons, reserved, in_window}
use Rattle.matrices.specs.Listing.{in_list}
use Rattle.matrices.specs.Parts.{windowed}

-- with a window at offset o: the window's columns by the window, the others by the list, flipped below o
abbrev pub expanded : ℕ → List ℕ → List ℕ → ℕ → ℕ → Bool
expanded o window ps r c =
    (in_window o c && has (get_or window r 0) (c - o)) || (not (in_window o c) && differs (in_list ps (64 * r + c)) (ltb c o))

-- without a window: the list
abbrev pub source_set : Bool → ℕ → List ℕ → List ℕ → ℕ → ℕ → Bool
source_set wide o window ps r c = choose wide (expanded o window ps r c) (in_list ps (64 * r + c))

-- a sketch of these coupons has a window
abbrev pub has_window : ℕ → ℕ → Bool
has_window k c = windowed (flavor_at k c)

-- the pairs that a source stands for
unfoldable pub held : ℕ → ℕ → List ℕ → List ℕ → ℕ → ℕ → Bool
held k c window ps = source_set (has_window k c) (offset_at k c) window ps

-- window not k bytes, none if Empty or Sparse
abbrev pub wrong_window : ℕ → ℕ → List ℕ → Bool
wrong_window k c window = not (eqb (length window) (choose (has_window k c) k 0))

-- 14: a window bit past column 63, with its row
abbrev pub past_columns : ℕ → ℕ → Bool
past_columns o byte = any_below 8 (λ i. leb 64 (o + i) && has byte i)

unfoldable pub window_judged : ℕ → ℕ → List ℕ → Outcome
window_judged o row [] = accepted []
window_judged o row (byte ∷ more) = choose (past_columns o byte) (refused 14 row) (window_judged o (suc row) more)

-- 14: a listed pair inside the window's columns, with its index
unfoldable pub columns_judged : ℕ → ℕ → List ℕ → Outcome
columns_judged o i [] = accepted []
columns_judged o i (pair ∷ more) = choose (in_window o (pair % 64)) (refused 14 i) (columns_judged o (suc i) more)

-- 14: window, then pairs; Empty and Sparse never give it
abbrev pub places_judged : Bool → ℕ → List ℕ → List ℕ → Outcome
places_judged wide o window ps = choose wide (and_then (window_judged o 0 window) (columns_judged o 0 ps)) (accepted [])

-- first faulty pair (8, 11, 10), 14 (window, then pairs), 10, 17
unfoldable pub source_judged : ℕ → ℕ → List ℕ → List ℕ → Outcome
source_judged lg c window ps =
    and_then (pairs_judged (2 ^ lg) ps)
    (and_then (places_judged (has_window (2 ^ lg) c) (offset_at (2 ^ lg) c) window ps)
    (choose (reserved lg (matrix_of (2 ^ lg) (held (2 ^ lg) c window ps))) (refused 10 67108863)
    (choose (not (eqb (coupons (matrix_of (2 ^ lg) (held (2 ^ lg) c window ps))) c)) (refused 17 0) (accepted []))))
