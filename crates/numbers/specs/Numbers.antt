-- Flavor, offset, phase and base bits, from document 01, and the bits that n pairs are granted. k is 2 ^ lg_k, c the coupons, n the pairs. Assumes nothing.
use Rattle.std.specs.Prelude.{ℕ, zero, suc, ◌+◌, ◌-◌, ◌*◌, ◌/◌, ◌%◌, ◌^◌, not, ◌||◌, ltb, eqb}
use Rattle.laws.specs.Choose.{choose}
use Rattle.numbers.specs.declared.Flavor.{Flavor}
use Rattle.numbers.specs.declared.Flavor.TheVariants.{Empty, Sparse, Hybrid, Pinned, Sliding}

-- Empty C = 0; Sparse 32C < 3k; Hybrid 2C < k; Pinned 8C < 27k; else Sliding
unfoldable pub flavor_at : ℕ → ℕ → Flavor
flavor_at k c =
    choose (eqb c 0) Empty
    (choose (ltb (32 * c) (3 * k)) Sparse (choose (ltb (2 * c) k) Hybrid (choose (ltb (8 * c) (27 * k)) Pinned Sliding)))

-- 0 if 8C < 19k, else floor((8C - 19k) / 8k)
unfoldable pub offset_at : ℕ → ℕ → ℕ
offset_at k c = choose (ltb (8 * c) (19 * k)) 0 ((8 * c - 19 * k) / (8 * k))

-- the middle range; first that holds: 4C < 3k: 16; 10C < 11k: 17; 100C < 132k: 18; 3C < 5k: 19; 1000C < 1965k: 20; 1000C < 2275k: 21; else 6
unfoldable pub middle_phase_at : ℕ → ℕ → ℕ
middle_phase_at k c =
    choose (ltb (4 * c) (3 * k)) 16
    (choose (ltb (10 * c) (11 * k)) 17
    (choose (ltb (100 * c) (132 * k)) 18
    (choose (ltb (3 * c) (5 * k)) 19 (choose (ltb (1000 * c) (1965 * k)) 20 (choose (ltb (1000 * c) (2275 * k)) 21 6)))))

-- not 1000C < 2375k: (C >> (lg_k - 4)) mod 16; else the middle range
unfoldable pub phase_at : ℕ → ℕ → ℕ → ℕ
phase_at lg k c = choose (not (ltb (1000 * c) (2375 * k))) (c / 2 ^ (lg - 4) % 16) (middle_phase_at k c)

-- how often q can be halved before it is below 2, at most so many times
unfoldable pub halvings : ℕ → ℕ → ℕ
halvings zero q = 0
halvings (suc times) q = choose (ltb q 2) 0 (suc (halvings times (q / 2)))

-- floor(log2(q)) of a q from 1 to 2^26, which a quotient of k is
unfoldable pub floor_log2 : ℕ → ℕ
unfolding halvings
floor_log2 q = halvings 26 q

-- b = 0 if n = 0 or n > k, else floor(log2(floor(k/n)))
unfoldable pub base_bits_at : ℕ → ℕ → ℕ
base_bits_at k n = choose (eqb n 0 || ltb k n) 0 (floor_log2 (k / n))

-- n pairs are granted n(15+b)+10 bits, and none no bits
unfoldable pub most_bits_at : ℕ → ℕ → ℕ
most_bits_at k n = choose (eqb n 0) 0 (n * (15 + base_bits_at k n) + 10)
