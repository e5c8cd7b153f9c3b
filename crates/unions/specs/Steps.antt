-- How private contracts say it: what is judged so far, and work half done. Nothing here has to be believed. Assumes nothing.
use Rattle.std.specs.Prelude.{Option, Some, None, ◌≡◌, ℕ, zero, suc, ◌+◌, ◌-◌, ◌*◌, ◌/◌, ◌%◌, ◌^◌, ◌≤◌, ◌<◌, Bool, not, ◌&&◌, ◌||◌, List, [], ◌∷◌, ◌++◌, eqb, leb, ltb, length, get_or, drop}
use Rattle.std.specs.Int.Bits.{bit_or}
use Rattle.std.specs.Int.Count.{count_trailing_zeros}
use Rattle.laws.specs.Below.{any_below, every_below}
use Rattle.laws.specs.Choose.{choose}
use Rattle.laws.specs.Columns.{has, word_of}
use Rattle.refusals.specs.Outcome.{Outcome, accepted, refused, if_accepted}
use Rattle.numbers.specs.Calls.{outside}
use Rattle.numbers.specs.Numbers.{flavor_at}
use Rattle.numbers.specs.Told.{flavor_number}
use Rattle.matrices.specs.Calls.{offset_in, window_in, listed}
use Rattle.matrices.specs.Listing.{in_list, list_from}
use Rattle.matrices.specs.Matrix.{at, matrix_of, coupons, reserved, in_window}
use Rattle.matrices.specs.Parts.{surprise_word, surprise_pairs, first_column}
use Rattle.matrices.specs.Shapes.{folded, merged, joined_at, windows}
use Rattle.matrices.specs.Source.{has_window, held}
use Rattle.unions.specs.declared.judged.Judged.{Judged}
use Rattle.unions.specs.declared.parts.Parts.{Parts}
use Rattle.unions.specs.declared.planning.Plan.{Plan}
use Rattle.unions.specs.declared.shape.Shape.{Shape}
use Rattle.unions.specs.declared.splitting.Surprises.{Surprises}

-- a source with a window, but for its late pairs, those past the window: below the window each column but those of the listed pairs
abbrev pub early_set : ℕ → List ℕ → List ℕ → ℕ → ℕ → Bool
early_set o window ps r c = (in_window o c && has (get_or window r 0) (c - o)) || (ltb c o && not (in_list ps (64 * r + c)))

-- m, and of the first n pairs of a list those from column `first` on, their rows taken mod k
abbrev pub pairs_set : ℕ → ℕ → List ℕ → List ℕ → ℕ → ℕ → ℕ → Bool
pairs_set k first m ps n r c = at m r c || any_below n (λ i. eqb (get_or ps i 0 / 64 % k) r && (leb first c && eqb c (get_or ps i 0 % 64)))

-- from `start` on, no pair of the list is in a row before r
pub record NoneBefore (ps : List ℕ) (start r : ℕ) : Type 0 where
  pub none : (i : ℕ) → start ≤ i → i < length ps → 64 * r ≤ get_or ps i 0

-- the early pairs of the list, those below the window: before `start` in rows before r, and from there on in none of them
pub record EarlyFrom (o : ℕ) (ps : List ℕ) (start r : ℕ) : Type 0 where
  pub within : start ≤ length ps
  pub before : (i : ℕ) → i < start → get_or ps i 0 % 64 < o → get_or ps i 0 < 64 * r
  pub after : (i : ℕ) → start ≤ i → i < length ps → get_or ps i 0 % 64 < o → 64 * r ≤ get_or ps i 0

-- the next early pair from `start` on, or the end of the list
pub record NextEarly (o : ℕ) (ps : List ℕ) (start n : ℕ) : Type 0 where
  pub within : n ≤ length ps
  pub least : start ≤ n
  pub none : (i : ℕ) → start ≤ i → i < n → o ≤ get_or ps i 0 % 64
  pub here : n < length ps → get_or ps n 0 % 64 < o

-- a stretch ends at the last row, or before it at the first row with a pair from `start` on
pub record EndsAt (ps : List ℕ) (start last r : ℕ) : Type 0 where
  pub most : r ≤ last
  pub before : NoneBefore ps start r
  pub least : (from : ℕ) → from ≤ last → NoneBefore ps start from → from ≤ r

-- whatever source was merged up to row `from`: if its rows up to `to` are those of the window alone, it is merged up to `to`
pub record Stretched (k o : ℕ) (window : List ℕ) (from to : ℕ) (before after : List ℕ) : Type 0 where
  pub long : length after ≡ length before
  pub rows : (m : List ℕ) (src : ℕ → ℕ → Bool) → ((r c : ℕ) → from ≤ r → r < to → c < 64 → has (joined_at o (get_or window r 0) 0) c ≡ src r c) → length m ≡ length before
      → before ≡ matrix_of (length m) (merged k from m src) → after ≡ matrix_of (length m) (merged k to m src)

-- m, and a source, its rows taken mod 2^lg: by rows, as many as its window has, and then the late pairs, or all where there is no window
abbrev pub source_merged : ℕ → Bool → ℕ → List ℕ → List ℕ → List ℕ → List ℕ
source_merged lg wide o m window ps =
    matrix_of (length m) (pairs_set (2 ^ lg) (choose wide (o + 8) 0) (matrix_of (length m) (merged (2 ^ lg) (length window) m (early_set o window ps))) ps (length ps))

-- m, folded to 2^from rows where that is less than 2^present
abbrev pub lowered : ℕ → ℕ → List ℕ → List ℕ
lowered present from m = choose (ltb from present) (matrix_of (length m) (folded (2 ^ from) m)) m

-- 1, and 17 where the coupons exceed 64k
unfoldable pub shape_judged : ℕ → ℕ → Outcome
shape_judged lg c = choose (outside lg) (refused 1 0) (choose (ltb (64 * 2 ^ lg) c) (refused 17 0) (accepted []))

-- 1, 17 where the coupons exceed 64k, 2: a matrix of so many words at lg, a window of so many bytes at the source's lg
unfoldable pub lent_judged : ℕ → ℕ → ℕ → ℕ → ℕ → Outcome
lent_judged lg words from c bytes =
    choose (outside from || outside lg) (refused 1 0)
    (choose (ltb (64 * 2 ^ from) c) (refused 17 0)
    (choose (not (eqb words (2 ^ lg)) || not (eqb bytes (choose (has_window (2 ^ from) c) (2 ^ from) 0))) (refused 2 0) (accepted [])))

-- the rows from k on are zero
abbrev pub zeros_from : ℕ → List ℕ → Bool
zeros_from k m = every_below (length m) (λ r. ltb r k || eqb (get_or m r 0) 0)

-- the shape of a source with so many coupons
abbrev pub ShapeOf : ℕ → ℕ → Shape → Type 0
ShapeOf lg c s = (s.size.lg ≡ lg) × (s.coupons ≡ c)

-- a source with this window and these pairs
abbrev pub PartsOf : ℕ → ℕ → List ℕ → List ℕ → Parts → Type 0
PartsOf lg c window ps p = ShapeOf lg c p.shape × (p.window.now ≡ window) × (p.pairs.now ≡ ps)

abbrev pub JudgedOf : ℕ → ℕ → List ℕ → List ℕ → Judged → Type 0
JudgedOf lg c window ps p = ShapeOf lg c p.shape × (p.window.now ≡ window) × (p.pairs.now ≡ ps)

-- that source, and the size of a union
abbrev pub PlanOf : ℕ → ℕ → ℕ → List ℕ → List ℕ → Plan → Type 0
PlanOf present lg c window ps p = (p.present.lg ≡ present) × JudgedOf lg c window ps p.source

-- refusal 14 at this place, if there is one
abbrev pub wrong_at : Option ℕ → Outcome
wrong_at None = accepted []
wrong_at (Some place) = refused 14 place

-- the late 10, then 17
unfoldable pub held_judged : ℕ → ℕ → List ℕ → List ℕ → Outcome
held_judged lg c window ps =
    choose (reserved lg (matrix_of (2 ^ lg) (held (2 ^ lg) c window ps))) (refused 10 67108863)
    (choose (not (eqb (coupons (matrix_of (2 ^ lg) (held (2 ^ lg) c window ps))) c)) (refused 17 0) (accepted []))

-- a word that is 0 only if the rows from `from` to `to` hold no surprise
pub record QuietIf (w : ℕ) (wide : Bool) (o : ℕ) (m : List ℕ) (from to : ℕ) : Type 0 where
  pub none : w ≡ 0 → (t : ℕ) → from ≤ t → t < to → surprise_word wide o (get_or m t 0) ≡ 0

-- all surprise words of a matrix ORed, and how many surprises there are
pub record SurpriseSum (wide : Bool) (o : ℕ) (m : List ℕ) (s : Surprises) : Type 0 where
  pub first : count_trailing_zeros 64 s.ored ≡ first_column wide o m
  pub count : s.count ≡ length (surprise_pairs wide o m)

-- 5, or what a split says
unfoldable pub room_judged : ℕ → List ℕ → ℕ → Outcome
room_judged lg m room =
    choose (ltb room (length (listed lg m))) (refused 5 0)
    (accepted
    (coupons m ∷ flavor_number (flavor_at (2 ^ lg) (coupons m)) ∷ offset_in lg m ∷ first_column (window_in lg m) (offset_in lg m) m ∷ length (listed lg m) ∷ []))

-- which of eight rows hold a surprise
abbrev pub hit_rows : Bool → ℕ → List ℕ → ℕ → ℕ
hit_rows wide o m r = word_of 8 (λ j. not (eqb (surprise_word wide o (get_or m (r + j) 0)) 0))

-- the surprises of n rows from row r on
abbrev pub pairs_from : Bool → ℕ → List ℕ → ℕ → ℕ → List ℕ
pairs_from wide o m r n = list_from (64 * r) (64 * n) (λ x. has (surprise_word wide o (get_or m (x / 64) 0)) (x % 64))

-- the surprises of the first n of some blocks of eight rows, which are given by their first rows
unfoldable pub block_pairs : Bool → ℕ → List ℕ → List ℕ → ℕ → List ℕ
block_pairs wide o m found zero = []
block_pairs wide o m found (suc n) = block_pairs wide o m found n ++ pairs_from wide o m (get_or found n 0) 8

-- blocks of eight rows that are among the first n
abbrev pub BlocksWithin : List ℕ → ℕ → Type 0
BlocksWithin found n = (i : ℕ) → i < length found → get_or found i 0 + 8 ≤ n

-- blocks that hold all surprises of the rows from `from` to `to`
pub record Found (wide : Bool) (o : ℕ) (m : List ℕ) (from to : ℕ) (found : List ℕ) (n : ℕ) : Type 0 where
  pub few : from + 8 * n ≤ to
  pub within : (i : ℕ) → i < n → get_or found i 0 + 8 ≤ length m
  pub all : pairs_from wide o m from (to - from) ≡ block_pairs wide o m found n

-- the columns of pairs
unfoldable pub columns_of : List ℕ → ℕ
columns_of [] = 0
columns_of (p ∷ more) = bit_or (2 ^ (p % 64)) (columns_of more)

-- pairs are listed: after whatever pairs were written over the front of what was lent
pub record Added (ps : List ℕ) (before : Surprises) (out : List ℕ) (after : Surprises) (left : List ℕ) : Type 0 where
  pub count : after.count ≡ before.count + length ps
  pub ored : after.ored ≡ bit_or before.ored (columns_of ps)
  pub list : (written lent : List ℕ) → before.count ≡ length written → out ≡ written ++ drop (length written) lent
      → left ≡ (written ++ ps) ++ drop (length (written ++ ps)) lent

-- what a split answers and leaves, where neither 1 nor 2 nor 10 is due
pub record SplitLeft (lg : ℕ) (m window out : List ℕ) (answer : Outcome) (bytes pairs : List ℕ) : Type 0 where
  pub told : answer ≡ room_judged lg m (length out)
  pub parted : bytes ≡ if_accepted (room_judged lg m (length out)) (choose (window_in lg m) (windows (offset_in lg m) m) window) window
  pub written : pairs ≡ if_accepted (room_judged lg m (length out)) (listed lg m ++ drop (length (listed lg m)) out) out
