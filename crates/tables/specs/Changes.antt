-- What changes a table: storing, taking out, rebuilding. Assumes nothing.
use Rattle.std.specs.Prelude.{ℕ, zero, suc, ◌+◌, ◌-◌, ◌*◌, ◌^◌, Bool, ◌&&◌, List, length, get_or, set, replicate, eqb, leb, ltb}
use Rattle.laws.specs.Choose.{choose}
use Rattle.tables.specs.Slots.{empty, next, spot}

-- a region of the same length, all empty slots
abbrev pub blank : List ℕ → List ℕ
blank s = replicate (length s) empty

-- the table with x stored where its search ends
unfoldable pub place : List ℕ → ℕ → ℕ → ℕ → List ℕ
place s lg v x = set s (spot s lg v x) x

-- takes and re-inserts each item from slot p on up to the next empty slot
unfoldable pub reseat : List ℕ → ℕ → ℕ → ℕ → ℕ → List ℕ
reseat s lg v zero p = s
reseat s lg v (suc left) p =
    choose (eqb (get_or s p 0) empty) s (reseat (place (set s p empty) lg v (get_or s p 0)) lg v left (next (2 ^ lg) p))

-- empties the slot of x, takes and re-inserts each item up to the next empty slot
unfoldable pub remove : List ℕ → ℕ → ℕ → ℕ → List ℕ
remove s lg v x = reseat (set s (spot s lg v x) empty) lg v (2 ^ lg) (next (2 ^ lg) (spot s lg v x))

-- t with the items of the first k slots of o stored in it, in that order
unfoldable pub fill : List ℕ → ℕ → List ℕ → ℕ → ℕ → List ℕ
fill o zero t lg v = t
fill o (suc k) t lg v = choose (eqb (get_or o k 0) empty) (fill o k t lg v) (place (fill o k t lg v) lg v (get_or o k 0))

-- a rebuild re-inserts in old slot order: the table of 2 ^ lg slots anew in 2 ^ to
unfoldable pub rebuilt : List ℕ → ℕ → ℕ → ℕ → List ℕ
rebuilt s lg to v = fill s (2 ^ lg) (blank s) to v

-- c items go without growth: not 4·items > 3·slots
abbrev pub fits : ℕ → ℕ → Bool
fits c lg = leb (4 * c) (3 * 2 ^ lg)

-- stores, then doubles if 4·items > 3·slots; c were the items before
unfoldable pub inserted : List ℕ → ℕ → ℕ → ℕ → ℕ → List ℕ
inserted s lg v c x = choose (fits (c + 1) lg) (place s lg v x) (rebuilt (place s lg v x) lg (lg + 1) v)

-- halves while 4·items < slots and lg > 2
abbrev pub halves : ℕ → ℕ → Bool
halves c lg = ltb (4 * c) (2 ^ lg) && ltb 2 lg

-- the lg that halving, at most so many times, ends at
unfoldable pub halved_lg : ℕ → ℕ → ℕ → ℕ
halved_lg zero lg c = lg
halved_lg (suc times) lg c = choose (halves c lg) (halved_lg times (lg - 1) c) lg

-- and the region; each halving is a rebuild
unfoldable pub halved : ℕ → List ℕ → ℕ → ℕ → ℕ → List ℕ
halved zero s lg v c = s
halved (suc times) s lg v c = choose (halves c lg) (halved times (rebuilt s lg (lg - 1) v) (lg - 1) v c) s

-- takes x out, then halves; c were the items before
unfoldable pub deleted : List ℕ → ℕ → ℕ → ℕ → ℕ → List ℕ
deleted s lg v c x = halved lg (remove s lg v x) lg v (c - 1)

-- the least lg from this one up with 4·n <= 3·2^lg, or so many above it
unfoldable pub least_lg : ℕ → ℕ → ℕ → ℕ
least_lg zero lg n = lg
least_lg (suc more) lg n = choose (fits n lg) lg (least_lg more (lg + 1) n)

-- the least lg from 2 up with 4·n <= 3·2^lg; 27 where it would pass 26
abbrev pub build_lg : ℕ → ℕ
build_lg n = least_lg 25 2 n
