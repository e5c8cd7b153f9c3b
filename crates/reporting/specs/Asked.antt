-- What a text asks for: lines that are judged as they come. Assumes nothing.
use Rattle.std.specs.Prelude.{ℕ, zero, suc, ◌+◌, ◌-◌, ◌*◌, ◌^◌, Bool, true, false, not, ◌&&◌, ◌||◌, List, [], ◌∷◌, ◌++◌, ltb, leb, eqb}
use Rattle.laws.specs.Choose.{choose}
use Rattle.reporting.specs.Lines.{newline, equals, lg_name, pairs_name, pair_name}

-- a number at the front of a text, and the text after it
pub data Found : Type 0 where
  found : (value : ℕ) (rest : List ℕ) → Found
  wrong : Found

-- the digit may follow the number so far: no leading zero, and below 2^32
abbrev pub digit_follows : Bool → ℕ → ℕ → Bool
digit_follows begun sofar byte = (leb 48 byte && leb byte 57) && (not (begun && eqb sofar 0) && ltb (10 * sofar + (byte - 48)) (2 ^ 32))

-- the digits of a decimal, up to the byte that ends it
unfoldable pub digits_to : ℕ → Bool → ℕ → List ℕ → Found
digits_to end begun sofar [] = wrong
digits_to end begun sofar (byte ∷ text) =
    choose (begun && eqb byte end) (found sofar text)
    (choose (digit_follows begun sofar byte) (digits_to end true (10 * sofar + (byte - 48)) text) wrong)

-- a decimal below 2^32 without leading zeros, and the byte that ends it
abbrev pub decimal_to : ℕ → List ℕ → Found
decimal_to end text = digits_to end false 0 text

-- the text begins with a name, and goes on so
unfoldable pub after : List ℕ → (List ℕ → Found) → List ℕ → Found
after [] more text = more text
after (letter ∷ name) more [] = wrong
after (letter ∷ name) more (byte ∷ text) = choose (eqb byte letter) (after name more text) wrong

-- a line that says a number
abbrev pub number_line : List ℕ → List ℕ → Found
number_line name text = after (name ++ (equals ∷ [])) (decimal_to newline) text

-- the index is this one, and the line says a number
abbrev pub indexed : ℕ → Found → Found
indexed i (found value rest) = choose (eqb value i) (decimal_to newline rest) wrong
indexed i wrong = wrong

-- the line of pair i
abbrev pub pair_line : ℕ → List ℕ → Found
pair_line i text = after pair_name (λ rest. indexed i (decimal_to equals rest)) text

-- lg_k and the pairs, or the number of a refusal
pub data Asked : Type 0 where
  asked : (lg : ℕ) (pairs : List ℕ) → Asked
  unasked : (number : ℕ) → Asked

abbrev pub with_pair : ℕ → Asked → Asked
with_pair pair (asked lg pairs) = asked lg (pair ∷ pairs)
with_pair pair (unasked number) = unasked number

-- nothing after the last line
abbrev pub no_more : ℕ → List ℕ → Asked
no_more lg [] = asked lg []
no_more lg (byte ∷ text) = unasked 15

-- a pair's line, then the others; another form is 15
abbrev pub pair_then : Found → (List ℕ → Asked) → Asked
pair_then (found value rest) more = with_pair value (more rest)
pair_then wrong more = unasked 15

-- so many more pairs, from index i on, by form only
unfoldable pub pair_lines : ℕ → ℕ → ℕ → List ℕ → Asked
pair_lines lg zero i text = no_more lg text
pair_lines lg (suc left) i text = pair_then (pair_line i text) (pair_lines lg left (suc i))

-- up to 4,096 pairs, and no more than there is room for, else 5
abbrev pub count_then : ℕ → ℕ → Found → Asked
count_then room lg (found n rest) = choose (ltb 4096 n || ltb room n) (unasked 5) (pair_lines lg n 0 rest)
count_then room lg wrong = unasked 15

-- lg_k from 4 up to 12, else 1
abbrev pub lg_then : ℕ → Found → Asked
lg_then room (found lg rest) = choose (ltb lg 4 || ltb 12 lg) (unasked 1) (count_then room lg (number_line pairs_name rest))
lg_then room wrong = unasked 15

-- what a text asks for, with room for so many pairs
abbrev pub asked_by : ℕ → List ℕ → Asked
asked_by room text = lg_then room (number_line lg_name text)
