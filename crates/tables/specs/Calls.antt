-- What the table calls answer, and what they leave. A table is lent as its record (lg, v, c items), its region s and its spare e. Assumes nothing.
use Rattle.std.specs.Prelude.{ℕ, zero, suc, ◌+◌, ◌-◌, ◌^◌, Bool, not, ◌||◌, List, [], ◌∷◌, ◌++◌, length, get_or, take, drop, eqb, leb, ltb}
use Rattle.laws.specs.Choose.{choose}
use Rattle.refusals.specs.Outcome.{Outcome, accepted, refused, stopped, and_then, if_accepted}
use Rattle.tables.specs.Slots.{empty, holds, sized, lawful}
use Rattle.tables.specs.Changes.{blank, fill, fits, inserted, halved_lg, deleted, build_lg}
use Rattle.tables.specs.Listings.{extraction, walk_order}

-- 2: table and spare unequal
abbrev pub unequal : List ℕ → List ℕ → Bool
unequal s e = not (eqb (length s) (length e))

-- the record that a call answers
abbrev pub record_of : ℕ → ℕ → ℕ → Outcome
record_of lg v c = accepted (lg ∷ v ∷ c ∷ [])

-- an answer of false, and an answer of true with the record
abbrev pub unchanged : Outcome
unchanged = accepted (0 ∷ [])

abbrev pub changed : ℕ → ℕ → ℕ → Outcome
changed lg v c = accepted (1 ∷ lg ∷ v ∷ c ∷ [])

-- what lent memory holds afterwards: an answer of false, or a refusal, changes nothing
abbrev pub if_changed : Outcome → List ℕ → List ℕ → List ℕ
if_changed (accepted []) after before = before
if_changed (accepted (zero ∷ more)) after before = before
if_changed (accepted (suc n ∷ more)) after before = after
if_changed (refused number place) after before = before
if_changed (stopped number place bit) after before = before

-- 2, 15
unfoldable pub table_judged : List ℕ → List ℕ → ℕ → ℕ → ℕ → Outcome
table_judged s e lg v c = choose (unequal s e) (refused 2 0) (choose (not (lawful s lg v c)) (refused 15 0) (accepted []))

-- 10, 12
unfoldable pub item_judged : ℕ → ℕ → ℕ → Outcome
item_judged v x place = choose (eqb x empty) (refused 10 place) (choose (leb (2 ^ v) x) (refused 12 place) (accepted []))

-- 13 if the table must grow and its new lg would pass 26 or not be below the valid bits, 5 if the region is shorter than that
unfoldable pub growth_judged : List ℕ → ℕ → ℕ → Outcome
growth_judged s lg v = choose (ltb 26 lg || leb v lg) (refused 13 0) (choose (ltb (length s) (2 ^ lg)) (refused 5 0) (accepted []))

-- Table call: 2, 15, 10, 12, then 13, 5
unfoldable pub insert_of : List ℕ → List ℕ → ℕ → ℕ → ℕ → ℕ → Outcome
insert_of s e lg v c x =
    and_then (table_judged s e lg v c)
    (and_then (item_judged v x 0)
    (choose (holds s (2 ^ lg) x) unchanged
    (choose (fits (c + 1) lg) (changed lg v (c + 1)) (and_then (growth_judged s (lg + 1) v) (changed (lg + 1) v (c + 1))))))

unfoldable pub delete_of : List ℕ → List ℕ → ℕ → ℕ → ℕ → ℕ → Outcome
delete_of s e lg v c x =
    and_then (table_judged s e lg v c)
    (and_then (item_judged v x 0) (choose (holds s (2 ^ lg) x) (changed (halved_lg lg lg (c - 1)) v (c - 1)) unchanged))

abbrev pub insert_region : List ℕ → List ℕ → ℕ → ℕ → ℕ → ℕ → List ℕ
insert_region s e lg v c x = if_changed (insert_of s e lg v c x) (inserted s lg v c x) s

abbrev pub delete_region : List ℕ → List ℕ → ℕ → ℕ → ℕ → ℕ → List ℕ
delete_region s e lg v c x = if_changed (delete_of s e lg v c x) (deleted s lg v c x) s

-- the spare is all empty slots after a change
abbrev pub spare_after : Outcome → List ℕ → List ℕ
spare_after outcome e = if_changed outcome (blank e) e

-- the first bad item from index i on
unfoldable pub items_judged : ℕ → ℕ → List ℕ → Outcome
items_judged v i [] = accepted []
items_judged v i (x ∷ more) = and_then (item_judged v x i) (items_judged v (suc i) more)

-- 11: of so many items from index i on, the first that stands earlier in the list
unfoldable pub twice_judged : List ℕ → ℕ → ℕ → Outcome
twice_judged list zero i = accepted []
twice_judged list (suc left) i = choose (holds list i (get_or list i 0)) (refused 11 i) (twice_judged list left (suc i))

-- Table build: 2, then valid bits outside 3..32 (15), 4, first bad item (10, 12), 13, 5, 11
unfoldable pub build_of : List ℕ → List ℕ → ℕ → List ℕ → Outcome
build_of s e v list =
    choose (unequal s e) (refused 2 0)
    (choose (ltb v 3 || ltb 32 v) (refused 15 0)
    (choose (ltb (2 ^ 28) (length list)) (refused 4 0)
    (and_then (items_judged v 0 list)
    (and_then (growth_judged s (build_lg (length list)) v) (and_then (twice_judged list (length list) 0) (record_of (build_lg (length list)) v (length list)))))))

-- a duplicate leaves region and spare all empty slots; any other refusal leaves them as they were
abbrev pub if_built : Outcome → List ℕ → List ℕ → List ℕ → List ℕ
if_built (accepted values) built twice before = built
if_built (refused number place) built twice before = choose (eqb number 11) twice before
if_built (stopped number place bit) built twice before = before

abbrev pub build_region : List ℕ → List ℕ → ℕ → List ℕ → List ℕ
build_region s e v list = if_built (build_of s e v list) (fill list (length list) (blank s) (build_lg (length list)) v) (blank s) s

abbrev pub build_spare : List ℕ → List ℕ → ℕ → List ℕ → List ℕ
build_spare s e v list = if_built (build_of s e v list) (blank e) (blank e) e

-- New table: 2, lg or valid bits out of range (15), 5
unfoldable pub new_of : List ℕ → List ℕ → ℕ → ℕ → Outcome
new_of s e lg v =
    choose (unequal s e) (refused 2 0) (choose (not (sized lg v)) (refused 15 0) (choose (ltb (length s) (2 ^ lg)) (refused 5 0) (record_of lg v 0)))

-- Clear: 2, 15
unfoldable pub clear_of : List ℕ → List ℕ → ℕ → ℕ → ℕ → Outcome
clear_of s e lg v c = and_then (table_judged s e lg v c) (record_of lg v 0)

-- new and clear leave region and spare all empty slots
abbrev pub blank_if : Outcome → List ℕ → List ℕ
blank_if outcome s = if_accepted outcome (blank s) s

-- Extraction and walk: 2, 15, 5
unfoldable pub list_of_items : List ℕ → List ℕ → ℕ → ℕ → ℕ → List ℕ → Outcome
list_of_items s e lg v c out = and_then (table_judged s e lg v c) (choose (ltb (length out) c) (refused 5 0) (accepted (c ∷ [])))

abbrev pub extract_into : List ℕ → List ℕ → ℕ → ℕ → ℕ → List ℕ → List ℕ
extract_into s e lg v c out = if_accepted (list_of_items s e lg v c out) (extraction (take (2 ^ lg) s) v ++ drop c out) out

abbrev pub walk_into : List ℕ → List ℕ → ℕ → ℕ → ℕ → List ℕ → List ℕ
walk_into s e lg v c out = if_accepted (list_of_items s e lg v c out) (walk_order s lg ++ drop c out) out
