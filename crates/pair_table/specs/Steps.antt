-- How private contracts say it: the steps of the calls. Nothing here has to be believed. Assumes nothing.
use Rattle.std.specs.Prelude.{◌≡◌, List, Option, MatchOption, Result, ◌||◌, ℕ, ◌+◌, ◌-◌, ◌^◌, ◌≤◌, ◌<◌, length, get_or, ltb}
use Rattle.laws.specs.Choose.{choose}
use Rattle.refusals.specs.declared.Refusal.{Refusal}
use Rattle.refusals.specs.Outcome.{Outcome, refused, and_then}
use Rattle.tables.specs.Slots.{empty, holds}
use Rattle.tables.specs.Changes.{blank, place, rebuilt, fits, inserted, halved_lg, deleted, fill, build_lg}
use Rattle.tables.specs.Shapes.{Lawful, EachNew, Built}
use Rattle.tables.specs.Calls.{unequal, record_of, unchanged, changed, if_changed, if_built, growth_judged, items_judged, twice_judged}
use Rattle.pair_table.specs.Told.{told_table, told_change}
use Rattle.pair_table.specs.declared.PairTable.{PairTable}

-- the answer is told as this outcome; region and spare, s and e before, end as it says
pub record ChangedBy (outcome : Outcome) (after s e t u : List ℕ) (answer : Result (Option PairTable) Refusal) : Type 0 where
  pub says : told_change answer ≡ outcome
  pub region : t ≡ if_changed outcome after s
  pub spare : u ≡ if_changed outcome (blank e) e

-- what is left of an insert once table and item are judged, and of that once the table must double
unfoldable pub grow_on : List ℕ → ℕ → ℕ → ℕ → Outcome
grow_on s lg v c = and_then (growth_judged s (lg + 1) v) (changed (lg + 1) v (c + 1))

unfoldable pub insert_on : List ℕ → ℕ → ℕ → ℕ → ℕ → Outcome
insert_on s lg v c x = choose (holds s (2 ^ lg) x) unchanged (choose (fits (c + 1) lg) (changed lg v (c + 1)) (grow_on s lg v c))

abbrev pub GrownBy : (s e : List ℕ) (lg v c x : ℕ) (t u : List ℕ) (answer : Result (Option PairTable) Refusal) → Type 0
GrownBy s e lg v c x t u answer = ChangedBy (grow_on s lg v c) (rebuilt (place s lg v x) lg (lg + 1) v) s e t u answer

abbrev pub InsertedBy : (s e : List ℕ) (lg v c x : ℕ) (t u : List ℕ) (answer : Result (Option PairTable) Refusal) → Type 0
InsertedBy s e lg v c x t u answer = ChangedBy (insert_on s lg v c x) (inserted s lg v c x) s e t u answer

-- and of a delete
unfoldable pub delete_on : List ℕ → ℕ → ℕ → ℕ → ℕ → Outcome
delete_on s lg v c x = choose (holds s (2 ^ lg) x) (changed (halved_lg lg lg (c - 1)) v (c - 1)) unchanged

abbrev pub DeletedBy : (s e : List ℕ) (lg v c x : ℕ) (t u : List ℕ) (answer : Result (Option PairTable) Refusal) → Type 0
DeletedBy s e lg v c x t u answer = ChangedBy (delete_on s lg v c x) (deleted s lg v c x) s e t u answer

-- what a build judges of what it is lent: 2, 15, 4, 10, 12
unfoldable pub lent_judged : List ℕ → List ℕ → ℕ → List ℕ → Outcome
lent_judged s e v list =
    choose (unequal s e) (refused 2 0)
    (choose (ltb v 3 || ltb 32 v) (refused 15 0) (choose (ltb (2 ^ 28) (length list)) (refused 4 0) (items_judged v 0 list)))

pub record Buildable (v : ℕ) (list : List ℕ) : Type 0 where
  pub bits_most : v ≤ 32
  pub few : length list ≤ 2 ^ 28
  pub fine : (k : ℕ) → k < length list → (get_or list k 0 < 2 ^ v) × (get_or list k 0 ≡ empty → ⊥)

-- none of the first i items is above top
abbrev pub NoneAbove : List ℕ → ℕ → ℕ → Type 0
NoneAbove list i top = (k : ℕ) → k < i → get_or list k 0 ≤ top

-- the first i items of o, none of them twice, stored one after the other in an empty table t: s, and all are below `least`
pub record BuiltTo (o t s : List ℕ) (lg v least i : ℕ) : Type 0 where
  pub within : i ≤ length o
  pub long : length s ≡ length t
  pub now_is : s ≡ fill o i t lg v
  pub lawful : Lawful s lg v i
  pub below : (p : ℕ) → p < 2 ^ lg → (get_or s p 0 ≡ empty → ⊥) → get_or s p 0 < least
  pub fresh : EachNew o t lg v i

-- the items of o stored in an empty table t, u, up to the first that is there already: `twice` is its place, if there is one
abbrev pub BuiltUp : (o t u : List ℕ) (lg v : ℕ) (twice : Option ℕ) → Type 0
BuiltUp o t u lg v twice = MatchOption twice (Built o t u lg v (length o)) (λ place. (place < length o) × Built o t u lg v place)

-- what is left of it then, and what is left once the table may have its slots
unfoldable pub store_on : ℕ → List ℕ → Outcome
store_on v list = and_then (twice_judged list (length list) 0) (record_of (build_lg (length list)) v (length list))

unfoldable pub build_on : List ℕ → ℕ → List ℕ → Outcome
build_on s v list = and_then (growth_judged s (build_lg (length list)) v) (store_on v list)

pub record MadeBy (outcome : Outcome) (v : ℕ) (list s e t u : List ℕ) (answer : Result PairTable Refusal) : Type 0 where
  pub says : told_table answer ≡ outcome
  pub region : t ≡ if_built outcome (fill list (length list) (blank s) (build_lg (length list)) v) (blank s) s
  pub spare : u ≡ if_built outcome (blank e) (blank e) e

abbrev pub StoredBy : (s e : List ℕ) (v : ℕ) (list t u : List ℕ) (answer : Result PairTable Refusal) → Type 0
StoredBy s e v list t u answer = MadeBy (store_on v list) v list s e t u answer

abbrev pub BuiltBy : (s e : List ℕ) (v : ℕ) (list t u : List ℕ) (answer : Result PairTable Refusal) → Type 0
BuiltBy s e v list t u answer = MadeBy (build_on s v list) v list s e t u answer
