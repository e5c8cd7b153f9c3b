-- Lines of text, as the bytes of their letters. Assumes nothing.
use Rattle.std.specs.Prelude.{ℕ, zero, suc, ◌+◌, ◌/◌, ◌%◌, List, [], ◌∷◌, ◌++◌, ltb}
use Rattle.laws.specs.Choose.{choose}

abbrev pub newline : ℕ
newline = 10

abbrev pub equals : ℕ
equals = 61

-- lg_k
abbrev pub lg_name : List ℕ
lg_name = 108 ∷ 103 ∷ 95 ∷ 107 ∷ []

-- pairs
abbrev pub pairs_name : List ℕ
pairs_name = 112 ∷ 97 ∷ 105 ∷ 114 ∷ 115 ∷ []

-- p, before a pair's index
abbrev pub pair_name : List ℕ
pair_name = 112 ∷ []

-- the digits of n, the most significant first, where it has no more than so many
unfoldable pub digits_within : ℕ → ℕ → List ℕ
digits_within zero n = []
digits_within (suc more) n = choose (ltb n 10) ((48 + n) ∷ []) (digits_within more (n / 10) ++ ((48 + n % 10) ∷ []))

-- a number below 2^64 as a decimal
abbrev pub decimal : ℕ → List ℕ
decimal n = digits_within 20 n

-- a line: its name, an equals sign, what it says, a newline
abbrev pub line : List ℕ → List ℕ → List ℕ
line name said = name ++ (equals ∷ []) ++ said ++ (newline ∷ [])
