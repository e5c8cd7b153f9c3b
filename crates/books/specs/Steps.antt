-- What the private functions promise each other: no public contract cites it, so there is nothing here to believe. Assumes nothing.
use Rattle.std.specs.Prelude.{◌≡◌, Bool, true, false, not, ◌&&◌, ◌||◌, List, [], ◌∷◌, ℕ, zero, suc, ◌+◌, ◌-◌, ◌*◌, ◌/◌, ◌%◌, ◌^◌, ◌≤◌, ◌<◌, eqb, ltb, length, get_or, Result, Ok, Err}
use Rattle.std.specs.Int.Bits.{bit_or}
use Rattle.laws.specs.Columns.{has}
use Rattle.refusals.specs.Outcome.{Outcome, refused}
use Rattle.books.specs.Book.{length_in, codeword_in, first_misshapen}
use Rattle.books.specs.Calls.{judged}
use Rattle.refusals.specs.Told.{told}
use Rattle.refusals.specs.declared.Refusal.{Refusal}

-- a test says that a fact holds, or that it does not
abbrev pub Decides : Type 0 → Bool → Type 0
Decides P true = P
Decides P false = P → ⊥

-- ---- shapes

-- an entry of the right shape
pub record Shape (entry : ℕ) : Type 0 where
  pub least : 1 ≤ length_in entry
  pub most : length_in entry ≤ 12
  pub fits : codeword_in entry < 2 ^ length_in entry

abbrev pub AllShaped : List ℕ → Type 0
AllShaped book = (x : ℕ) → x < length book → Shape (get_or book x 0)

-- how many numbers below 4,096 the codewords take, all together
unfoldable pub taken : List ℕ → ℕ
taken [] = 0
taken (entry ∷ more) = 4096 / 2 ^ length_in entry + taken more

abbrev pub ShapesBy : List ℕ → Result ℕ Refusal → Type 0
ShapesBy book (Ok sum) = (first_misshapen book ≡ length book) × (sum ≡ taken book)
ShapesBy book (Err why) = (told why ≡ refused 3 (first_misshapen book)) × (first_misshapen book < length book)

-- the shapes and the sum alone
abbrev pub first_judged : List ℕ → Outcome
first_judged book = judged book (eqb (taken book) 4096)

-- ---- entries

-- the codeword of a symbol is the number's low bits
abbrev pub Hit : List ℕ → ℕ → ℕ → Type 0
Hit book x n = n % 2 ^ length_in (get_or book x 0) ≡ codeword_in (get_or book x 0)

-- a symbol's entry in a decoding table
abbrev pub entry_of : List ℕ → ℕ → ℕ
entry_of book x = length_in (get_or book x 0) * 256 + x

-- the table holds the entry of each symbol at each of its numbers
abbrev pub Agreed : List ℕ → List ℕ → Type 0
Agreed book table = (y n : ℕ) → y < length book → n < 4096 → Hit book y n → get_or table n 0 ≡ entry_of book y

-- the entry of each symbol stands at its codeword
abbrev pub Stands : List ℕ → List ℕ → Type 0
Stands book table = (x : ℕ) → x < length book → get_or table (codeword_in (get_or book x 0)) 0 ≡ entry_of book x

-- an entry of few bits, and one that should repeat it and does not
abbrev pub breaks : ℕ → ℕ → ℕ → Bool
breaks a b limit = ltb a limit && not (eqb b a)

-- the entries below the limit stand in the second half too
abbrev pub Repeats : List ℕ → ℕ → ℕ → Type 0
Repeats table half limit = (m : ℕ) → m < half → get_or table m 0 < limit → get_or table (half + m) 0 ≡ get_or table m 0

-- an entry of length at most `bits` below 2^bits stands again 2^bits higher
abbrev pub AllRepeat : List ℕ → Type 0
AllRepeat table = (bits : ℕ) → bits < 12 → Repeats table (2 ^ bits) ((bits + 1) * 256)

-- a symbol's entry stands at each of its numbers, and the rest is as it was
pub record Entered (table table' : List ℕ) (entry x : ℕ) : Type 0 where
  pub mine : (n : ℕ) → n < 4096 → n % 2 ^ length_in entry ≡ codeword_in entry → get_or table' n 0 ≡ length_in entry * 256 + x
  pub others : (n : ℕ) → n < 4096 → (n % 2 ^ length_in entry ≡ codeword_in entry → ⊥) → get_or table' n 0 ≡ get_or table n 0

-- ---- marks

-- a mark is a bit of an array of words
abbrev pub marked : List ℕ → ℕ → Bool
marked marks at = has (get_or marks (at / 64) 0) (at % 64)

-- the mark of a number of 6 + d bits
abbrev pub mark_of : ℕ → ℕ → ℕ
mark_of d n = 2 ^ (6 + d) + n

-- a codeword is marked among the numbers of as many bits; one of fewer than six bits at its numbers of six
abbrev pub is_mark : ℕ → ℕ → ℕ → ℕ → Bool
is_mark len codeword d n = eqb d (len - 6) && eqb (n % 2 ^ len) codeword

abbrev pub Marked : List ℕ → List ℕ → ℕ → ℕ → Type 0
Marked marks marks' len codeword =
    (d n : ℕ) → d ≤ 6 → n < 2 ^ (6 + d) → marked marks' (mark_of d n) ≡ (marked marks (mark_of d n) || is_mark len codeword d n)

-- the symbols below x are marked, and nothing else
pub record Marking (book marks : List ℕ) (x : ℕ) : Type 0 where
  pub given : (y n : ℕ) → y < x → n < 2 ^ (6 + (length_in (get_or book y 0) - 6)) → Hit book y n
      → marked marks (mark_of (length_in (get_or book y 0) - 6) n) ≡ true
  pub owned : (d n : ℕ) → d ≤ 6 → n < 2 ^ (6 + d) → marked marks (mark_of d n) ≡ true
      → (y : ℕ) × (y < x) × (length_in (get_or book y 0) ≤ 6 + d) × Hit book y n

-- a number of one more bit has a mark of its own, or its low bits have one
abbrev pub reached : List ℕ → ℕ → ℕ → Bool
reached marks zero n = marked marks (mark_of zero n)
reached marks (suc d) n = marked marks (mark_of (suc d) n) || reached marks d (n % 2 ^ (6 + d))

-- each number of six bits and more is marked where it is reached
abbrev pub Spread : List ℕ → List ℕ → Type 0
Spread marks marks' = (d n : ℕ) → d ≤ 6 → n < 2 ^ (6 + d) → marked marks' (mark_of d n) ≡ reached marks d n

-- so many words have gone into as many others
pub record Joined (marks marks' : List ℕ) (from to count : ℕ) : Type 0 where
  pub inside : (i : ℕ) → i < count → get_or marks' (to + i) 0 ≡ bit_or (get_or marks (to + i) 0) (get_or marks (from + i) 0)
  pub below : (w : ℕ) → w < to → get_or marks' w 0 ≡ get_or marks w 0
  pub above : (w : ℕ) → to + count ≤ w → get_or marks' w 0 ≡ get_or marks w 0

-- the words from half up go into the two halves of those from 2 * half up
pub record Widened (marks marks' : List ℕ) (half : ℕ) : Type 0 where
  pub low : (w : ℕ) → w < half * 2 → get_or marks' w 0 ≡ get_or marks w 0
  pub first : (i : ℕ) → i < half → get_or marks' (half * 2 + i) 0 ≡ bit_or (get_or marks (half * 2 + i) 0) (get_or marks (half + i) 0)
  pub second : (i : ℕ) → i < half → get_or marks' (half * 3 + i) 0 ≡ bit_or (get_or marks (half * 3 + i) 0) (get_or marks (half + i) 0)
  pub high : (w : ℕ) → half * 4 ≤ w → get_or marks' w 0 ≡ get_or marks w 0

-- every number of twelve bits is marked
abbrev pub Full : List ℕ → Type 0
Full marks = (n : ℕ) → n < 4096 → marked marks (mark_of 6 n) ≡ true
