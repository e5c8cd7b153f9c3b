-- What the calls on a lawful table say, case by case. Assumes nothing.
use mathlib.Core.Path.{◌≡◌, refl, sym, ◌∙◌}
use mathlib.Core.Bool.{Bool, true, false, not, ◌||◌}
use mathlib.Core.Logic.{⊎_elim}
use mathlib.Core.List.{List, [], ◌∷◌}
use Prim.Native.Nat.{ℕ, ◌+◌, ◌-◌, ◌^◌, ◌≤◌, ◌<◌}
use native.Mathlib.Omega.{arith}
use lib.ListN.{length, get_or}
use lib.Dec.{eqb, leb, ltb}
use borrow.Author.Tests.{eq-eqb, eqb-true, ltb-false, leb-false, not-false}
use Rattle.laws.specs.Choose.{choose}
use Rattle.laws.proofs.Truths.{neither}
use Rattle.laws.proofs.Orders.{same_or_not, le_or_lt}
use Rattle.refusals.specs.Outcome.{Outcome, accepted, refused, and_then, stopped}
use Rattle.refusals.proofs.Refusing.{both_accepted}
use Rattle.tables.specs.Slots.{empty, holds, sized, lawful}
use Rattle.tables.specs.Changes.{fits, halved_lg, build_lg}
use Rattle.tables.specs.Calls.{unequal, unchanged, changed, record_of, table_judged, item_judged, growth_judged, items_judged, twice_judged, insert_of, delete_of, build_of, new_of}
use Rattle.tables.specs.Shapes.{Lawful, Member}
use Rattle.tables.proofs.Items.{Fine, never, item_fine, item_empty, item_large, items_fine}
use Rattle.tables.proofs.Bridges.{Sized, sized_is, lawful_is, is_lawful, holds_member, not_holds}
use Rattle.tables.proofs.Build.{twice_none, none_twice}

-- a chain of refusals that is accepted: the first test fails, and the rest is accepted
pub past : (b : Bool) (number : ℕ) (rest : Outcome) {values : List ℕ} → choose b (refused number 0) rest ≡ accepted values → (b ≡ false) × (rest ≡ accepted values)
past true number rest e = absurd (never e)
past false number rest e = (refl, e)

-- a table is accepted exactly if its spare is as long as its region and it is lawful
pub judged_is : (s e : List ℕ) (lg v c : ℕ) {values : List ℕ} → table_judged s e lg v c ≡ accepted values → (length s ≡ length e) × Lawful s lg v c
unfolding table_judged
judged_is s e lg v c {values} z =
    let second : Outcome = choose (not (lawful s lg v c)) (refused 15 0) (accepted []) in
    let f = past (unequal s e) 2 second z in
    let g = past (not (lawful s lg v c)) 15 (accepted []) f.1 in
    (eqb-true (length s) (length e) (not-false (eqb (length s) (length e)) f.0), lawful_is s lg v c (not-false (lawful s lg v c) g.0))

-- and back
pub is_judged : (s e : List ℕ) (lg v c : ℕ) → length s ≡ length e → Lawful s lg v c → table_judged s e lg v c ≡ accepted []
unfolding table_judged
is_judged s e lg v c long l = simp (eq-eqb (length s) (length e) long, is_lawful s lg v c l)

-- an item
pub data ItemSays (v x : ℕ) : Outcome → Type 0 where
  bad : {number place : ℕ} → ItemSays v x (refused number place)
  good : Fine v x → ItemSays v x (accepted [])

-- what item_judged answers is one of the two
pub item_says : (v x place : ℕ) → ItemSays v x (item_judged v x place)
item_says v x place = ⊎_elim
    (λ (e : x ≡ empty). rw (item_empty v x place e) bad)
    (λ d. ⊎_elim
    (λ (h : 2 ^ v ≤ x). rw (item_large v x place d h) bad)
    (λ (h : x < 2 ^ v). let w : Fine v x = record { small = h; full = d } in rw (item_fine v x place w) (good w))
    (le_or_lt (2 ^ v) x))
    (same_or_not x empty)

-- growth to lg
pub data GrowthSays (s : List ℕ) (lg v : ℕ) : Outcome → Type 0 where
  cannot : {number place : ℕ} → GrowthSays s lg v (refused number place)
  can : lg ≤ 26 → lg < v → 2 ^ lg ≤ length s → GrowthSays s lg v (accepted [])

-- what growth_judged answers is one of the two
pub growth_says : (s : List ℕ) (lg v : ℕ) → GrowthSays s lg v (growth_judged s lg v)
unfolding growth_judged
growth_says s lg v = go (ltb 26 lg) refl (leb v lg) refl (ltb (length s) (2 ^ lg)) refl
  where
    go : (a : Bool) → ltb 26 lg ≡ a → (b : Bool) → leb v lg ≡ b → (d : Bool) → ltb (length s) (2 ^ lg) ≡ d
        → GrowthSays s lg v (choose (a || b) (refused 13 0) (choose d (refused 5 0) (accepted [])))
    go true p b q d r = cannot
    go false p true q d r = cannot
    go false p false q true r = cannot
    go false p false q false r = can (ltb-false 26 lg p) (leb-false v lg q) (ltb-false (length s) (2 ^ lg) r)

-- growth that is accepted
pub can_grow : (s : List ℕ) (lg v : ℕ) {values : List ℕ} → growth_judged s lg v ≡ accepted values → (lg ≤ 26) × (lg < v) × (2 ^ lg ≤ length s)
can_grow s lg v {values} e = go (growth_judged s lg v) (growth_says s lg v) e
  where
    go : (o : Outcome) → GrowthSays s lg v o → o ≡ accepted values → (lg ≤ 26) × (lg < v) × (2 ^ lg ≤ length s)
    go (refused number place) cannot z = absurd (never z)
    go (accepted []) (can a b d) z = (a, b, d)
    go (accepted (_ ∷ _)) never z = elim never [ ]
    go (stopped _ _ _) never z = elim never [ ]

-- an insert: refused, or the item was there, or it goes without growth, or it must grow and may
pub data InsertSays (s : List ℕ) (lg v c x : ℕ) : Outcome → Type 0 where
  refuses : {number place : ℕ} → InsertSays s lg v c x (refused number place)
  there : Fine v x → Member s (2 ^ lg) x → InsertSays s lg v c x (accepted (0 ∷ []))
  kept : Fine v x → (Member s (2 ^ lg) x → ⊥) → fits (c + 1) lg ≡ true → InsertSays s lg v c x (accepted (1 ∷ lg ∷ v ∷ (c + 1) ∷ []))
  grown : Fine v x → (Member s (2 ^ lg) x → ⊥) → fits (c + 1) lg ≡ false → lg < 26 → lg + 1 < v → 2 ^ (lg + 1) ≤ length s
      → InsertSays s lg v c x (accepted (1 ∷ (lg + 1) ∷ v ∷ (c + 1) ∷ []))

-- what insert_of answers on a lawful table is one of the four
pub insert_says : (s e : List ℕ) (lg v c x : ℕ) → length s ≡ length e → Lawful s lg v c → InsertSays s lg v c x (insert_of s e lg v c x)
unfolding insert_of
insert_says s e lg v c x long l = rw (is_judged s e lg v c long l) (item (item_judged v x 0) (item_says v x 0))
  where
    grows : Fine v x → (Member s (2 ^ lg) x → ⊥) → fits (c + 1) lg ≡ false → (o : Outcome) → GrowthSays s (lg + 1) v o → InsertSays s lg v c x (and_then o (changed (lg + 1) v (c + 1)))
    grows w new f (refused number place) cannot = refuses
    grows w new f (accepted []) (can a b d) = grown w new f (omega arith) b d
    grows w new f (accepted (_ ∷ _)) never = elim never [ ]
    grows w new f (stopped _ _ _) never = elim never [ ]

    fit : Fine v x → (Member s (2 ^ lg) x → ⊥) → (b : Bool) → fits (c + 1) lg ≡ b
        → InsertSays s lg v c x (choose b (changed lg v (c + 1)) (and_then (growth_judged s (lg + 1) v) (changed (lg + 1) v (c + 1))))
    fit w new true f = kept w new f
    fit w new false f = grows w new f (growth_judged s (lg + 1) v) (growth_says s (lg + 1) v)

    has : Fine v x → (b : Bool) → holds s (2 ^ lg) x ≡ b
        → InsertSays s lg v c x (choose b unchanged (choose (fits (c + 1) lg) (changed lg v (c + 1)) (and_then (growth_judged s (lg + 1) v) (changed (lg + 1) v (c + 1)))))
    has w true f = there w (holds_member s (2 ^ lg) x w.full f)
    has w false f = fit w (not_holds s (2 ^ lg) x f) (fits (c + 1) lg) refl

    item : (o : Outcome) → ItemSays v x o
        → InsertSays s lg v c x (and_then o (choose (holds s (2 ^ lg) x) unchanged (choose (fits (c + 1) lg) (changed lg v (c + 1)) (and_then (growth_judged s (lg + 1) v) (changed (lg + 1) v (c + 1))))))
    item (refused number place) bad = refuses
    item (accepted []) (good w) = has w (holds s (2 ^ lg) x) refl
    item (accepted (_ ∷ _)) never = elim never [ ]
    item (stopped _ _ _) never = elim never [ ]

-- a delete: refused, or the item was not there, or it is taken out
pub data DeleteSays (s : List ℕ) (lg v c x : ℕ) : Outcome → Type 0 where
  refuses : {number place : ℕ} → DeleteSays s lg v c x (refused number place)
  missing : Fine v x → (Member s (2 ^ lg) x → ⊥) → DeleteSays s lg v c x (accepted (0 ∷ []))
  taken : Fine v x → Member s (2 ^ lg) x → DeleteSays s lg v c x (accepted (1 ∷ halved_lg lg lg (c - 1) ∷ v ∷ (c - 1) ∷ []))

-- what delete_of answers on a lawful table is one of the three
pub delete_says : (s e : List ℕ) (lg v c x : ℕ) → length s ≡ length e → Lawful s lg v c → DeleteSays s lg v c x (delete_of s e lg v c x)
unfolding delete_of
delete_says s e lg v c x long l = rw (is_judged s e lg v c long l) (item (item_judged v x 0) (item_says v x 0))
  where
    has : Fine v x → (b : Bool) → holds s (2 ^ lg) x ≡ b → DeleteSays s lg v c x (choose b (changed (halved_lg lg lg (c - 1)) v (c - 1)) unchanged)
    has w true f = taken w (holds_member s (2 ^ lg) x w.full f)
    has w false f = missing w (not_holds s (2 ^ lg) x f)

    item : (o : Outcome) → ItemSays v x o → DeleteSays s lg v c x (and_then o (choose (holds s (2 ^ lg) x) (changed (halved_lg lg lg (c - 1)) v (c - 1)) unchanged))
    item (refused number place) bad = refuses
    item (accepted []) (good w) = has w (holds s (2 ^ lg) x) refl
    item (accepted (_ ∷ _)) never = elim never [ ]
    item (stopped _ _ _) never = elim never [ ]

-- a build that is accepted
pub record BuildSays (s e : List ℕ) (v : ℕ) (list : List ℕ) : Type 0 where
  pub equal : length s ≡ length e
  pub bits_most : v ≤ 32
  pub fine : (k : ℕ) → k < length list → Fine v (get_or list k 0)
  pub most : build_lg (length list) ≤ 26
  pub below : build_lg (length list) < v
  pub room : 2 ^ build_lg (length list) ≤ length s
  pub once : twice_judged list (length list) 0 ≡ accepted []
  pub says : build_of s e v list ≡ record_of (build_lg (length list)) v (length list)

-- read off the answer
pub build_says : (s e : List ℕ) (v : ℕ) (list : List ℕ) {values : List ℕ} → build_of s e v list ≡ accepted values → BuildSays s e v list
unfolding build_of
build_says s e v list {values} z =
    let n : ℕ = length list in
    let last : Outcome = record_of (build_lg (length list)) v (length list) in
    let twice : Outcome = and_then (twice_judged list (length list) 0) last in
    let growth : Outcome = and_then (growth_judged s (build_lg (length list)) v) twice in
    let fine : Outcome = and_then (items_judged v 0 list) growth in
    let few : Outcome = choose (ltb (2 ^ 28) (length list)) (refused 4 0) fine in
    let bits : Outcome = choose (ltb v 3 || ltb 32 v) (refused 15 0) few in
    let z₁ : bits ≡ accepted values = (past (unequal s e) 2 bits z).1 in
    let z₂ : few ≡ accepted values = (past (ltb v 3 || ltb 32 v) 15 few z₁).1 in
    let z₃ : fine ≡ accepted values = (past (ltb (2 ^ 28) (length list)) 4 fine z₂).1 in
    let f = both_accepted (items_judged v 0 list) growth values z₃ in
    let r = both_accepted (growth_judged s (build_lg (length list)) v) twice values f.1 in
    let o = both_accepted (twice_judged list (length list) 0) last values r.1 in
    let g = can_grow s (build_lg (length list)) v r.0.1 in
    record {
      equal = eqb-true (length s) (length e) (not-false (eqb (length s) (length e)) (past (unequal s e) 2 bits z).0);
      bits_most = ltb-false 32 v (neither (ltb v 3) (ltb 32 v) (past (ltb v 3 || ltb 32 v) 15 few z₁).0).1;
      fine = items_fine v 0 list f.0.1;
      most = g.0;
      below = g.1;
      room = g.2;
      once = twice_none list (length list) 0 (none_twice list (length list) 0 o.0.1);
      says = z ∙ sym o.1;
    }

-- a new table that is accepted
pub record NewSays (s e : List ℕ) (lg v : ℕ) : Type 0 where
  pub equal : length s ≡ length e
  pub sizes : Sized lg v
  pub room : 2 ^ lg ≤ length s
  pub says : new_of s e lg v ≡ record_of lg v 0

-- read off the answer
pub new_says : (s e : List ℕ) (lg v : ℕ) {values : List ℕ} → new_of s e lg v ≡ accepted values → NewSays s e lg v
unfolding new_of
new_says s e lg v z =
    let third : Outcome = choose (ltb (length s) (2 ^ lg)) (refused 5 0) (record_of lg v 0) in
    let second : Outcome = choose (not (sized lg v)) (refused 15 0) third in
    let f = past (unequal s e) 2 second z in
    let g = past (not (sized lg v)) 15 third f.1 in
    let h = past (ltb (length s) (2 ^ lg)) 5 (record_of lg v 0) g.1 in
    record {
      equal = eqb-true (length s) (length e) (not-false (eqb (length s) (length e)) f.0);
      sizes = sized_is lg v (not-false (sized lg v) g.0);
      room = ltb-false (length s) (2 ^ lg) h.0;
      says = z ∙ sym h.1;
    }
