-- The pair table: where a search ends, and which regions are lawful. A region is the list of its slots; the table's own are the first 2 ^ lg. v are its valid bits. Assumes nothing.
use Rattle.std.specs.Prelude.{ℕ, zero, suc, ◌+◌, ◌-◌, ◌*◌, ◌/◌, ◌^◌, Bool, not, ◌&&◌, ◌||◌, List, length, get_or, eqb, leb, ltb}
use Rattle.laws.specs.Choose.{choose}
use Rattle.laws.specs.Below.{every_below}

-- the empty slot
abbrev pub empty : ℕ
empty = 4294967295

-- home of an item is item >> (v-lg)
unfoldable pub home : ℕ → ℕ → ℕ → ℕ
home lg v x = x / 2 ^ (v - lg)

-- search steps by one, wrapping: the slot after p among n
unfoldable pub next : ℕ → ℕ → ℕ
next n p = choose (eqb (p + 1) n) 0 (p + 1)

-- a search for x stops at a slot that holds x or is empty
unfoldable pub stops : List ℕ → ℕ → ℕ → Bool
stops s x p = eqb (get_or s p 0) x || eqb (get_or s p 0) empty

-- where a search for x that stands at p ends, if it takes at most `left` steps
unfoldable pub probe : List ℕ → ℕ → ℕ → ℕ → ℕ → ℕ
probe s n x zero p = p
probe s n x (suc left) p = choose (stops s x p) p (probe s n x left (next n p))

-- where the search for x ends
unfoldable pub spot : List ℕ → ℕ → ℕ → ℕ → ℕ
spot s lg v x = probe s (2 ^ lg) x (2 ^ lg) (home lg v x)

-- the sum of f over the first n slots
unfoldable pub total : (ℕ → ℕ) → List ℕ → ℕ → ℕ
total f s zero = 0
total f s (suc n) = total f s n + f (get_or s n 0)

-- 1 for an item, 0 for the empty slot
unfoldable pub held : ℕ → ℕ
held x = choose (eqb x empty) 0 1

-- how many of the first n slots hold an item
abbrev pub items : List ℕ → ℕ → ℕ
items s n = total held s n

-- one of the first n slots holds x
unfoldable pub holds : List ℕ → ℕ → ℕ → Bool
holds s n x = not (every_below n (λ p. not (eqb (get_or s p 0) x)))

-- slots 2^lg, lg 2..26, valid bits v, lg+1 <= v <= 32
unfoldable pub sized : ℕ → ℕ → Bool
sized lg v = (leb 2 lg && leb lg 26) && (ltb lg v && leb v 32)

-- the item at slot p, if there is one, is below 2^v, and found at its own slot
unfoldable pub placed_at : List ℕ → ℕ → ℕ → ℕ → Bool
placed_at s lg v p = eqb (get_or s p 0) empty || (ltb (get_or s p 0) (2 ^ v) && eqb (spot s lg v (get_or s p 0)) p)

-- empty beyond the slots
unfoldable pub empty_beyond : List ℕ → ℕ → Bool
empty_beyond s n = every_below (length s) (λ p. ltb p n || eqb (get_or s p 0) empty)

-- lawful: each item found at its own slot, count true, 4·items <= 3·slots, items below 2^v, region no shorter than the slots and empty beyond them
unfoldable pub lawful : List ℕ → ℕ → ℕ → ℕ → Bool
lawful s lg v c =
    sized lg v
    && (leb (2 ^ lg) (length s)
    && (every_below (2 ^ lg) (placed_at s lg v) && (eqb (items s (2 ^ lg)) c && (leb (4 * c) (3 * 2 ^ lg) && empty_beyond s (2 ^ lg)))))
