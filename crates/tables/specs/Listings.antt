-- The orders in which a table's items are listed. Assumes nothing.
use Rattle.std.specs.Prelude.{ℕ, ◌+◌, ◌-◌, ◌*◌, ◌/◌, ◌%◌, ◌^◌, Bool, not, List, [], ◌∷◌, ◌++◌, length, get_or, drop, eqb, leb}
use Rattle.laws.specs.Choose.{choose}
use Rattle.laws.specs.Lists.{list_of}
use Rattle.tables.specs.Slots.{empty}

-- those of a list that pass a test, in their order
unfoldable pub keep : (ℕ → Bool) → List ℕ → List ℕ
keep test [] = []
keep test (x ∷ more) = choose (test x) (x ∷ keep test more) (keep test more)

-- a list backwards
unfoldable pub backwards : List ℕ → List ℕ
backwards [] = []
backwards (x ∷ more) = backwards more ++ (x ∷ [])

-- a slot that is not empty
abbrev pub is_item : ℕ → Bool
is_item x = not (eqb x empty)

-- bit v-1 of an item is set: it is below 2^v
abbrev pub high : ℕ → ℕ → Bool
high v x = leb (2 ^ (v - 1)) x

-- the slots before the first empty one
unfoldable pub front : List ℕ → List ℕ
front [] = []
front (x ∷ more) = choose (eqb x empty) [] (x ∷ front more)

-- before the first empty slot, items with bit v-1 set go to the end backwards
unfoldable pub extraction : List ℕ → ℕ → List ℕ
extraction slots v =
    keep (λ x. not (high v x)) (front slots) ++ keep is_item (drop (length (front slots)) slots) ++ backwards (keep (high v) (front slots))

-- floor(6180339887498949·2^lg / 10^16), plus one if even
abbrev pub odd_above : ℕ → ℕ
odd_above n = choose (eqb (n % 2) 0) (n + 1) n

unfoldable pub stride_at : ℕ → ℕ
stride_at lg = odd_above (6180339887498949 * 2 ^ lg / 10 ^ 16)

-- the slots in the order of a walk from slot 0 by that stride
unfoldable pub walked_slots : List ℕ → ℕ → List ℕ
walked_slots s lg = list_of (2 ^ lg) (λ i. get_or s (i * stride_at lg % 2 ^ lg) 0)

-- the items in that order
unfoldable pub walk_order : List ℕ → ℕ → List ℕ
walk_order s lg = keep is_item (walked_slots s lg)
