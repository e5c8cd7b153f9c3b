-- How laws and private contracts say it: shapes of tables, and of work half done. Nothing here has to be believed. Assumes nothing.
use Rattle.std.specs.Prelude.{◌≡◌, ℕ, zero, suc, ◌+◌, ◌-◌, ◌*◌, ◌%◌, ◌^◌, ◌≤◌, ◌<◌, Bool, true, false, not, ◌⊎◌, List, [], ◌∷◌, ◌++◌, length, get_or, set, take, drop, eqb, leb}
use Rattle.laws.specs.Choose.{choose}
use Rattle.tables.specs.Slots.{empty, home, next, spot, items}
use Rattle.tables.specs.Changes.{place, remove, fill, rebuilt}
use Rattle.laws.specs.Lists.{list_of}
use Rattle.tables.specs.Listings.{keep, is_item, high, stride_at}

-- the slot k steps after p among n
unfoldable pub steps : ℕ → ℕ → ℕ → ℕ
steps n p zero = p
steps n p (suc k) = steps n (next n p) k

-- how many steps lead from slot a to slot b among n
unfoldable pub apart : ℕ → ℕ → ℕ → ℕ
apart n a b = choose (leb a b) (b - a) (n - a + b)

-- a delete that moves its hole h along, from slot p on up to the next empty slot: the item at p goes to the hole if the hole lies on its way from its home to p, and then p is the hole
unfoldable pub shifted : List ℕ → ℕ → ℕ → ℕ → ℕ → ℕ → List ℕ
shifted s lg v zero h p = s
shifted s lg v (suc left) h p =
    choose (eqb (get_or s p 0) empty) s
    (choose (leb (apart (2 ^ lg) h p) (apart (2 ^ lg) (home lg v (get_or s p 0)) p))
    (shifted (set (set s h (get_or s p 0)) p empty) lg v left p (next (2 ^ lg) p))
    (shifted s lg v left h (next (2 ^ lg) p)))

-- the item at slot p is below 2 ^ v, and its search ends at p
pub record Placed (s : List ℕ) (lg v p : ℕ) : Type 0 where
  pub small : get_or s p 0 < 2 ^ v
  pub found : spot s lg v (get_or s p 0) ≡ p

abbrev pub AllPlaced : List ℕ → ℕ → ℕ → ℕ → Type 0
AllPlaced s lg v n = (p : ℕ) → p < n → (get_or s p 0 ≡ empty → ⊥) → Placed s lg v p

abbrev pub EmptyFrom : List ℕ → ℕ → ℕ → Type 0
EmptyFrom s n m = (p : ℕ) → n ≤ p → p < m → get_or s p 0 ≡ empty

-- a region s that holds a table of 2 ^ lg slots, v valid bits and c items
pub record Lawful (s : List ℕ) (lg v c : ℕ) : Type 0 where
  pub lg_least : 2 ≤ lg
  pub lg_most : lg ≤ 26
  pub bits_least : lg < v
  pub bits_most : v ≤ 32
  pub room : 2 ^ lg ≤ length s
  pub count : items s (2 ^ lg) ≡ c
  pub load : 4 * c ≤ 3 * 2 ^ lg
  pub placed : AllPlaced s lg v (2 ^ lg)
  pub beyond : EmptyFrom s (2 ^ lg) (length s)

-- the same without the bound on the load: what a table is between a store and the rebuild that follows it
pub record Sound (s : List ℕ) (lg v c : ℕ) : Type 0 where
  pub bits_most : v ≤ 32
  pub room : 2 ^ lg ≤ length s
  pub count : items s (2 ^ lg) ≡ c
  pub placed : AllPlaced s lg v (2 ^ lg)

-- r says whether A holds
pub record Decides (A : Type 0) (r : Bool) : Type 0 where
  pub holds : r ≡ true → A
  pub fails : r ≡ false → A → ⊥

-- the set that a table of n slots stands for: y is in it
abbrev pub Member : List ℕ → ℕ → ℕ → Type 0
Member s n y = (p : ℕ) × (p < n) × (get_or s p 0 ≡ y) × (y ≡ empty → ⊥)

-- what storing x in s gives: the answer r, the region t, and what it stands for
pub record Stored (s t : List ℕ) (lg v c x : ℕ) (r : Bool) : Type 0 where
  pub was : r ≡ false → Member s (2 ^ lg) x
  pub kept : r ≡ false → t ≡ s
  pub new : r ≡ true → Member s (2 ^ lg) x → ⊥
  pub now_is : r ≡ true → t ≡ place s lg v x
  pub lawful : r ≡ true → Lawful t lg v (c + 1)
  pub holds : r ≡ true → (y : ℕ) → Member t (2 ^ lg) y → Member s (2 ^ lg) y ⊎ (y ≡ x)
  pub held_on : r ≡ true → (y : ℕ) → Member s (2 ^ lg) y ⊎ (y ≡ x) → Member t (2 ^ lg) y

-- the `run` slots before p, wrapping, hold items, none above `top`
pub record RunUp (s : List ℕ) (n p run top : ℕ) : Type 0 where
  pub from : ℕ
  pub from_lt : from < n
  pub meets : steps n from run ≡ p
  pub full : (k : ℕ) → k < run → get_or s (steps n from k) 0 ≡ empty → ⊥
  pub under : (k : ℕ) → k < run → get_or s (steps n from k) 0 ≤ top

-- what deleting x from s gives: the answer r, the region t, and what it stands for
pub record Removed (s t : List ℕ) (lg v c x : ℕ) (r : Bool) : Type 0 where
  pub missing : r ≡ false → Member s (2 ^ lg) x → ⊥
  pub kept : r ≡ false → t ≡ s
  pub was : r ≡ true → Member s (2 ^ lg) x
  pub now_is : r ≡ true → t ≡ remove s lg v x
  pub lawful : r ≡ true → Lawful t lg v (c - 1)
  pub gone : r ≡ true → Member t (2 ^ lg) x → ⊥
  pub others : r ≡ true → (y : ℕ) → Member s (2 ^ lg) y → (y ≡ x → ⊥) → Member t (2 ^ lg) y
  pub no_others : r ≡ true → (y : ℕ) → Member t (2 ^ lg) y → Member s (2 ^ lg) y

-- each item of the first n slots is below 2 ^ v
abbrev pub AllSmall : List ℕ → ℕ → ℕ → Type 0
AllSmall s n v = (p : ℕ) → p < n → (get_or s p 0 ≡ empty → ⊥) → get_or s p 0 < 2 ^ v

-- no item of the first n slots is above top
abbrev pub AllUnder : List ℕ → ℕ → ℕ → Type 0
AllUnder s n top = (p : ℕ) → p < n → (get_or s p 0 ≡ empty → ⊥) → get_or s p 0 ≤ top

-- storing the items of o one after the other in t, each of the first r was not there yet
abbrev pub EachNew : List ℕ → List ℕ → ℕ → ℕ → ℕ → Type 0
EachNew o t lg v r = (k : ℕ) → k < r → Member (fill o k t lg v) (2 ^ lg) (get_or o k 0) → ⊥

-- storing the items of o one after the other in an empty table t, up to the first that is there already: r of them went in
pub record Built (o t u : List ℕ) (lg v r : ℕ) : Type 0 where
  pub within : r ≤ length o
  pub now_is : u ≡ fill o r t lg v
  pub lawful : Lawful u lg v r
  pub fresh : EachNew o t lg v r
  pub stopped : r < length o → Member u (2 ^ lg) (get_or o r 0)

-- what storing a new x in a table that must grow gives: the region t, and what it stands for
pub record Grown (s t : List ℕ) (lg v c x : ℕ) (r : Bool) : Type 0 where
  pub was : r ≡ false → Member s (2 ^ lg) x
  pub kept : r ≡ false → t ≡ s
  pub new : r ≡ true → Member s (2 ^ lg) x → ⊥
  pub now_is : r ≡ true → t ≡ rebuilt (place s lg v x) lg (lg + 1) v
  pub lawful : r ≡ true → Lawful t (lg + 1) v (c + 1)
  pub holds : r ≡ true → (y : ℕ) → Member t (2 ^ (lg + 1)) y → Member s (2 ^ lg) y ⊎ (y ≡ x)
  pub held_on : r ≡ true → (y : ℕ) → Member s (2 ^ lg) y ⊎ (y ≡ x) → Member t (2 ^ (lg + 1)) y

abbrev pub snoc : Bool → List ℕ → ℕ → List ℕ
snoc true l x = l ++ (x ∷ [])
snoc false l x = l

-- of the first k slots, the items with that bit clear, in order, and those with it set, the last first
unfoldable pub lows : List ℕ → ℕ → ℕ → List ℕ
lows s v zero = []
lows s v (suc k) = snoc (not (high v (get_or s k 0))) (lows s v k) (get_or s k 0)

unfoldable pub highs : List ℕ → ℕ → ℕ → List ℕ
highs s v zero = []
highs s v (suc k) = choose (high v (get_or s k 0)) (get_or s k 0 ∷ highs s v k) (highs s v k)

-- i is the first empty slot, or n
pub record Front (s : List ℕ) (n i : ℕ) : Type 0 where
  pub within : i ≤ n
  pub full : (k : ℕ) → k < i → get_or s k 0 ≡ empty → ⊥
  pub ends : i < n → get_or s i 0 ≡ empty

-- the slots before the first empty one are written: the lows from the front of o, the highs before place c
pub record Split (s o u : List ℕ) (n v c i l r : ℕ) : Type 0 where
  pub front : Front s n i
  pub long : length u ≡ length o
  pub fore : take l u ≡ lows s v i
  pub aft : drop r u ≡ highs s v i ++ drop c o
  pub left : l ≡ length (lows s v i)
  pub meet : r + items s i ≡ l + c
  pub edge : r ≤ c

-- the items of the k slots from f on
unfoldable pub rest : List ℕ → ℕ → ℕ → List ℕ
rest s f zero = []
rest s f (suc k) = snoc (not (eqb (get_or s (f + k) 0) empty)) (rest s f k) (get_or s (f + k) 0)

pub record Rest (s o u : List ℕ) (n f l r : ℕ) : Type 0 where
  pub long : length u ≡ length o
  pub fore : take r u ≡ take l o ++ rest s f (n - f)
  pub aft : drop r u ≡ drop r o
  pub meet : r + items s f ≡ l + items s n

-- what extraction writes: before the first empty slot, at i, items with bit v - 1 set go to the end, backwards
pub record Extracted (s o u : List ℕ) (n v c i : ℕ) : Type 0 where
  pub front : Front s n i
  pub now_is : u ≡ lows s v i ++ (rest s i (n - i) ++ (highs s v i ++ drop c o))

-- the items that a walk has met after i slots
unfoldable pub met_by : List ℕ → ℕ → ℕ → List ℕ
met_by s lg i = keep is_item (list_of i (λ j. get_or s (j * stride_at lg % 2 ^ lg) 0))

-- before the i-th slot of a walk, which is slot k: r items are written
pub record Walking (s o u : List ℕ) (lg i k r : ℕ) : Type 0 where
  pub slot : k ≡ i * stride_at lg % 2 ^ lg
  pub long : length u ≡ length o
  pub fore : take r u ≡ met_by s lg i
  pub aft : drop r u ≡ drop r o
  pub count : r ≡ length (met_by s lg i)
