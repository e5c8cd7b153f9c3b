-- What a reader looks at: n is the stream as one number, and no look may pass bit `end`, the end of the last whole word. Assumes nothing.
use Rattle.std.specs.Prelude.{ℕ, zero, suc, ◌+◌, ◌*◌, ◌/◌, ◌%◌, ◌^◌, List, leb, eqb}
use Rattle.std.specs.Int.Count.{count_trailing_zeros}
use Rattle.laws.specs.Choose.{choose}
use Rattle.books.specs.Table.{decoded}
use Rattle.streams.specs.Stream.{bits_at}

-- a value and the bit after it, or the first bit of the look that would pass the end
pub data Looked : Type 0 where
  found : (value next : ℕ) → Looked
  cut : (bit : ℕ) → Looked

-- one look after another: one that fails ends both
abbrev pub then_look : Looked → (ℕ → ℕ → Looked) → Looked
then_look (found value next) more = more value next
then_look (cut bit) more = cut bit

-- a look at so many bits
abbrev pub field_at : ℕ → ℕ → ℕ → ℕ → Looked
field_at n end count at = choose (leb (at + count) end) (found (bits_at n at count) (at + count)) (cut at)

-- a look at 12 bits for a code: the symbol, and the bit after its codeword
abbrev pub code_at : ℕ → ℕ → List ℕ → ℕ → Looked
code_at n end book at = then_look (field_at n end 12 at) (λ look next. found (decoded book look % 256) (at + decoded book look / 256))

-- eight more zeros than were found further on
abbrev pub eight_more : Looked → Looked
eight_more (found zeros next) = found (8 + zeros) next
eight_more (cut bit) = cut bit

-- looks at 8 bits at a time for the zeros before a one, at most so many looks
unfoldable pub zeros_from : ℕ → ℕ → ℕ → ℕ → Looked
zeros_from zero n end at = cut at
zeros_from (suc looks) n end at =
    then_look (field_at n end 8 at)
    (λ look next. choose (eqb look 0) (eight_more (zeros_from looks n end next)) (found (count_trailing_zeros 8 look) (at + count_trailing_zeros 8 look + 1)))

-- the stream has room for fewer looks than that
abbrev pub zeros_at : ℕ → ℕ → ℕ → Looked
zeros_at n end at = zeros_from (suc (end / 8)) n end at

-- a row step: zeros and a one, then b low bits
abbrev pub row_step_at : ℕ → ℕ → ℕ → ℕ → Looked
row_step_at n end b at = then_look (zeros_at n end at) (λ zeros next. then_look (field_at n end b next) (λ low bit. found (zeros * 2 ^ b + low) bit))
