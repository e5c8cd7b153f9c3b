-- Where the bytes of a stream and its fields of bits stand in its number. Assumes nothing.
use mathlib.Core.Path.{◌≡◌, refl, sym, ap, ◌∙◌}
use mathlib.Core.List.{List, [], ◌∷◌}
use Prim.Native.Nat.{ℕ, zero, suc, ◌+◌, ◌*◌, ◌/◌, ◌%◌, ◌^◌, ◌<◌}
use native.Mathlib.Nat.{div-one, add-zero, add-suc, mul-suc}
use native.Mathlib.Omega.{arith}
use lib.ListN.{get_or, drop}
use lib.Pow.{shr-shr, low}
use Rattle.streams.specs.Stream.{number, bits_at}

abbrev AllBytes : List ℕ → Type 0
AllBytes s = (i : ℕ) → get_or s i 0 < 256

-- the byte at j, and what is above it; past the end both are 0
number_drop : (s : List ℕ) (j : ℕ) → number (drop j s) ≡ get_or s j 0 + 256 * number (drop (suc j) s)
unfolding number
number_drop [] zero = refl
number_drop [] (suc j) = refl
number_drop (b ∷ bs) zero = refl
number_drop (b ∷ bs) (suc j) = number_drop bs j

-- the same at a sum, as the code counts
number_next : (s : List ℕ) (j i : ℕ) → number (drop (j + i) s) ≡ get_or s (j + i) 0 + 256 * number (drop (j + suc i) s)
number_next s j i = rw add-suc (number_drop s (j + i))

-- the bytes from j on are the number less its 8 j low bits
number_shift : (s : List ℕ) (j : ℕ) → AllBytes s → number s / 2 ^ (8 * j) ≡ number (drop j s)
unfolding number
number_shift s zero all = div-one (number s)
number_shift s (suc j) all =
    ap (λ (k : ℕ). number s / 2 ^ k) (mul-suc 8 j) ∙ sym (shr-shr (number s) (8 * j) 8)
    ∙ ap (λ (n : ℕ). n / 256) (number_shift s j all ∙ number_drop s j)
    ∙ omega (arith, all j)

-- four bytes from j on are the field of 32 bits at 8 j
pub four_bytes : (s : List ℕ) (j : ℕ) → AllBytes s
    → get_or s j 0 + get_or s (j + 1) 0 * 0x100 + get_or s (j + 2) 0 * 0x1_0000 + get_or s (j + 3) 0 * 0x100_0000 ≡ bits_at (number s) (8 * j) 32
four_bytes s j all =
    let v : ℕ = get_or s j 0 + get_or s (j + 1) 0 * 0x100 + get_or s (j + 2) 0 * 0x1_0000 + get_or s (j + 3) 0 * 0x100_0000 in
    let e : number (drop j s) ≡ number (drop (j + 4) s) * 2 ^ 32 + v =
    omega (arith, rw add-zero at (number_next s j 0), number_next s j 1, number_next s j 2, number_next s j 3) in
    let l : v < 2 ^ 32 = omega (arith, all j, all (j + 1), all (j + 2), all (j + 3)) in
    sym (ap (λ (n : ℕ). n % 2 ^ 32) (number_shift s j all ∙ e) ∙ low (number (drop (j + 4) s)) 32 l)
