-- How laws and private contracts say it: rows, lists and work half done. Nothing here has to be believed. Assumes nothing.
use Rattle.std.specs.Prelude.{◌≡◌, ℕ, ◌+◌, ◌-◌, ◌*◌, ◌/◌, ◌%◌, ◌^◌, ◌≤◌, ◌<◌, Bool, true, false, not, ◌&&◌, ◌||◌, List, map, eqb, ltb, length, get_or}
use Rattle.laws.specs.Below.{any_below}
use Rattle.laws.specs.Columns.{has, word_of, differs}
use Rattle.matrices.specs.Matrix.{at, in_window}
use Rattle.matrices.specs.Listing.{list_from}
use Rattle.matrices.specs.Parts.{window_at, surprises_at}

-- m folded to k rows: (r, c) for r below k, if (t, c) is in m for some row t with t mod k = r
abbrev pub folded : ℕ → List ℕ → ℕ → ℕ → Bool
folded k m r c = ltb r k && any_below (length m) (λ t. eqb (t % k) r && at m t c)

-- m, and the pairs of s rows of a source, folded to k rows
abbrev pub merged : ℕ → ℕ → List ℕ → (ℕ → ℕ → Bool) → ℕ → ℕ → Bool
merged k s m src r c = at m r c || (ltb r k && any_below s (λ t. eqb (t % k) r && src t c))

-- the word with the window b and the surprises s
abbrev pub joined_at : ℕ → ℕ → ℕ → ℕ
joined_at o b s = word_of 64 (λ c. (in_window o c && has b (c - o)) || (not (in_window o c) && differs (has s c) (ltb c o)))

-- lawful parts: no window bit past column 63, no surprise in the window's columns
pub record Lawful (o b s : ℕ) : Type 0 where
  pub byte : b < 2 ^ 8
  pub word : s < 2 ^ 64
  pub inside : (i : ℕ) → i < 8 → 64 ≤ o + i → has b i ≡ false
  pub apart : (c : ℕ) → in_window o c ≡ true → has s c ≡ false

-- the pairs 64·row + c of the columns c of a word
abbrev pub row_pairs : ℕ → ℕ → List ℕ
row_pairs row w = list_from (64 * row) 64 (λ x. has w (x % 64))

-- each is above the one before
pub record Sorted (ps : List ℕ) : Type 0 where
  pub less : (i j : ℕ) → i < j → j < length ps → get_or ps i 0 < get_or ps j 0

-- the first n are below hi, and the others are lo or more
pub record Between (ps : List ℕ) (n lo hi : ℕ) : Type 0 where
  pub within : n ≤ length ps
  pub before : (i : ℕ) → i < n → get_or ps i 0 < hi
  pub after : (i : ℕ) → n ≤ i → i < length ps → lo ≤ get_or ps i 0

abbrev pub windows : ℕ → List ℕ → List ℕ
windows o m = map (window_at o) m

-- the pair number x is a surprise of m
abbrev pub surprising : ℕ → List ℕ → ℕ → Bool
surprising o m x = has (surprises_at o (get_or m (x / 64) 0)) (x % 64)
