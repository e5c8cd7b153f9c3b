-- The practice books. Assumes nothing.
use Rattle.std.specs.Prelude.{ℕ, ◌+◌, ◌-◌, ◌*◌, ◌/◌, ◌%◌, ◌^◌, List, ltb, eqb}
use Rattle.laws.specs.Choose.{choose}
use Rattle.laws.specs.Lists.{list_of}

abbrev pub entry : ℕ → ℕ → ℕ
entry length codeword = length * 4096 + codeword

-- Pair symbols 0 to 3: that many zeros and a one. The others: four zeros, then five bits v; v = 0, 1, 2 are symbols 4, 5, 6,
-- else one more bit c, and the symbol is 7 + 2 (v - 3) + c. The low bit comes first.
unfoldable pub pair_entry : ℕ → ℕ
pair_entry x =
    choose (ltb x 4) (entry (x + 1) (2 ^ x))
    (choose (ltb x 7) (entry 9 ((x - 4) * 2 ^ 4)) (entry 10 ((3 + (x - 7) / 2) * 2 ^ 4 + (x - 7) % 2 * 2 ^ 9)))

unfoldable pub pair_book : List ℕ
pair_book = list_of 65 pair_entry

-- Window byte 0: a one. Else a zero and seven bits v; v = 0 is byte 1, else one more bit c, and the byte is 2v + c.
unfoldable pub window_entry : ℕ → ℕ
window_entry b = choose (eqb b 0) (entry 1 1) (choose (eqb b 1) (entry 8 0) (entry 9 (b / 2 * 2 ^ 1 + b % 2 * 2 ^ 8)))

unfoldable pub window_book : List ℕ
window_book = list_of 256 window_entry
