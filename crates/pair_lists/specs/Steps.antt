-- What the private functions promise each other: no public contract cites it, so there is nothing here to believe. Assumes nothing.
use Rattle.std.specs.Prelude.{List, ℕ, ◌+◌, ◌<◌, get_or}

-- of the first i pairs, each is above the one before
abbrev pub RisesTo : List ℕ → ℕ → Type 0
RisesTo pairs i = (j : ℕ) → j + 1 < i → get_or pairs j 0 < get_or pairs (j + 1) 0
