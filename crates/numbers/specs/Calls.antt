-- What the public calls answer. Assumes nothing.
use Rattle.std.specs.Prelude.{ℕ, ◌*◌, ◌^◌, Bool, ◌||◌, [], ◌∷◌, ltb}
use Rattle.laws.specs.Choose.{choose}
use Rattle.refusals.specs.Outcome.{Outcome, accepted, refused}
use Rattle.refusals.specs.Units.{words_for}
use Rattle.numbers.specs.Numbers.{flavor_at, offset_at, phase_at, base_bits_at, most_bits_at}
use Rattle.numbers.specs.Told.{flavor_number}

-- an lg_k outside 4..26
abbrev pub outside : ℕ → Bool
outside lg = ltb lg 4 || ltb 26 lg

-- k
unfoldable pub rows_of : ℕ → Outcome
rows_of lg = choose (outside lg) (refused 1 0) (accepted (2 ^ lg ∷ []))

-- Flavor and phase: 1
unfoldable pub flavor_of : ℕ → ℕ → Outcome
flavor_of lg c = choose (outside lg) (refused 1 0) (accepted (flavor_number (flavor_at (2 ^ lg) c) ∷ []))

unfoldable pub phase_of : ℕ → ℕ → Outcome
phase_of lg c = choose (outside lg) (refused 1 0) (accepted (phase_at lg (2 ^ lg) c ∷ []))

-- Offset: 1, 17 where the coupons exceed 64k
unfoldable pub offset_of : ℕ → ℕ → Outcome
offset_of lg c = choose (outside lg) (refused 1 0) (choose (ltb (64 * 2 ^ lg) c) (refused 17 0) (accepted (offset_at (2 ^ lg) c ∷ [])))

-- base bits of n pairs: 1
unfoldable pub base_bits_of : ℕ → ℕ → Outcome
base_bits_of lg n = choose (outside lg) (refused 1 0) (accepted (base_bits_at (2 ^ lg) n ∷ []))

-- the most bits, and the words that they fill, of n pairs: 1, 4 where n is more than 2^28
unfoldable pub most_bits_of : ℕ → ℕ → Outcome
most_bits_of lg n =
    choose (outside lg) (refused 1 0)
    (choose (ltb (2 ^ 28) n) (refused 4 0) (accepted (most_bits_at (2 ^ lg) n ∷ words_for (most_bits_at (2 ^ lg) n) ∷ [])))
