-- Building a table from a list. Assumes nothing.
use mathlib.Core.Path.{◌≡◌, refl, sym, ap, ◌∙◌, subst}
use mathlib.Core.Bool.{Bool, true, false, ◌||◌}
use mathlib.Core.List.{List, [], ◌∷◌}
use Prim.Native.Nat.{ℕ, suc, ◌+◌, ◌-◌, ◌*◌, ◌^◌, ◌≤◌, ◌<◌}
use native.Mathlib.Omega.{arith}
use native.Mathlib.Numerals.{add-one}
use lib.ListN.{length, get_or, drop, replicate, length-replicate}
use lib.Pow.{pow_mono}
use Rattle.pair_table.specs.declared.batch.Batch.{Batch}
use lib.Dec.{eqb, leb, ltb}
use borrow.Author.Tests.{leb-true, leb-false}
use Rattle.laws.specs.Choose.{choose}
use Rattle.std.specs.Prelude.{Result, Err}
use Rattle.refusals.specs.declared.Refusal.{Refusal}
use Rattle.pair_table.specs.declared.PairTable.{PairTable}
use Rattle.refusals.specs.Outcome.{Outcome, accepted, refused, and_then, stopped}
use Rattle.refusals.specs.Told.{told}
use Rattle.refusals.specs.declared.Refusal.{Refusal}
use Rattle.refusals.proofs.Only.{never_accepted}
use Rattle.refusals.proofs.Refusing.{stays}
use Rattle.tables.specs.Slots.{empty}
use Rattle.tables.specs.Changes.{blank, fill, fits, least_lg, build_lg}
use Rattle.tables.specs.Shapes.{Lawful, Built}
use Rattle.tables.specs.Calls.{unequal, record_of, if_built, item_judged, items_judged, growth_judged, build_of}
use Rattle.tables.proofs.Refilled.{length_fill, blank_lawful}
use Rattle.tables.proofs.Items.{Fine, items_turn, items_end, items_fine}
use Rattle.tables.proofs.Sizes.{least_stop, least_go, least_out, build_least, build_fits}
use Rattle.tables.proofs.Build.{built_whole, built_stopped}
use Rattle.pair_table.specs.Told.{told_table}
use Rattle.pair_table.specs.Steps.{lent_judged, Buildable, store_on, build_on, MadeBy, StoredBy, BuiltBy}

-- ---- the items, one after the other

abbrev pub Judging : ℕ → List ℕ → ℕ → Type 0
Judging v list i = (i ≤ length list) × (items_judged v 0 list ≡ items_judged v i (drop i list))

pub items_refused : (v : ℕ) (list : List ℕ) (i : ℕ) (why : Refusal) → Judging v list i → i < length list → told why ≡ item_judged v (get_or list i 0) i → told why ≡ items_judged v 0 list
items_refused v list i why j h r =
    sym (j.1 ∙ items_turn v i list h ∙ ap (λ (o : Outcome). and_then o (items_judged v (suc i) (drop (suc i) list))) (sym r) ∙ stays why (items_judged v (suc i) (drop (suc i) list)))

pub items_next : (v : ℕ) (list : List ℕ) (i : ℕ) → Judging v list i → i < length list → accepted [] ≡ item_judged v (get_or list i 0) i → Judging v list (i + 1)
items_next v list i j h r =
    let turn : items_judged v 0 list ≡ items_judged v (suc i) (drop (suc i) list) =
    j.1 ∙ items_turn v i list h ∙ ap (λ (o : Outcome). and_then o (items_judged v (suc i) (drop (suc i) list))) (sym r) in
    rw (add-one i) (omega arith, turn)

pub items_all : (v : ℕ) (list : List ℕ) (i : ℕ) → Judging v list i → length list ≤ i → accepted [] ≡ items_judged v 0 list
items_all v list i j h = sym (j.1 ∙ items_end v i list h)

pub items_start : (v : ℕ) (list : List ℕ) → Judging v list 0
items_start v list = (omega arith, refl)

pub ruleset judgings = (items_start, items_refused, items_next, items_all)

-- ---- the lg

abbrev pub Sizing : ℕ → ℕ → Type 0
Sizing n lg = (2 ≤ lg) × (lg ≤ 27) × (build_lg n ≡ least_lg (27 - lg) lg n)

pub size_found : (n lg : ℕ) → Sizing n lg → fits n lg ≡ true → lg ≡ build_lg n
size_found n lg j f = sym (j.2 ∙ least_stop (27 - lg) lg n (leb-true (4 * n) (3 * 2 ^ lg) f))

pub size_next : (n lg : ℕ) → Sizing n lg → lg < 27 → fits n lg ≡ false → Sizing n (lg + 1)
size_next n lg j h f =
    let e : 27 - lg - 1 ≡ 27 - (lg + 1) = omega arith in
    (omega arith, omega arith, j.2 ∙ least_go (27 - lg) lg n (omega arith) (leb-false (4 * n) (3 * 2 ^ lg) f) ∙ ap (λ (k : ℕ). least_lg k (lg + 1) n) e)

pub size_last : (n lg : ℕ) → Sizing n lg → 27 ≤ lg → lg ≡ build_lg n
size_last n lg j h = sym (j.2 ∙ least_out (27 - lg) lg n (omega arith))

pub sizing_start : (n : ℕ) → Sizing n 2
sizing_start n = (omega arith, omega arith, refl)

pub ruleset sizings = (sizing_start, size_found, size_next, size_last)

-- ---- refusals other than 11 leave what was lent as it was

pub data Leaves : Outcome → Type 0 where
  passes : {values : List ℕ} → Leaves (accepted values)
  refuses : {number place : ℕ} → eqb number 11 ≡ false → Leaves (refused number place)

test_leaves : (b : Bool) (number place : ℕ) (more : Outcome) → eqb number 11 ≡ false → Leaves more → Leaves (choose b (refused number place) more)
test_leaves true number place more d l = refuses d
test_leaves false number place more d l = l

then_leaves : (a b : Outcome) → Leaves a → Leaves b → Leaves (and_then a b)
then_leaves (accepted values) b passes m = m
then_leaves (refused number place) b (refuses d) m = refuses d
then_leaves (stopped _ _ _) b never m = elim never [ ]

item_leaves : (v x place : ℕ) → Leaves (item_judged v x place)
unfolding item_judged
item_leaves v x place = test_leaves (eqb x empty) 10 place _ refl (test_leaves (leb (2 ^ v) x) 12 place (accepted []) refl passes)

items_leave : (v i : ℕ) (list : List ℕ) → Leaves (items_judged v i list)
unfolding items_judged
items_leave v i [] = passes
items_leave v i (x ∷ more) = then_leaves (item_judged v x i) (items_judged v (suc i) more) (item_leaves v x i) (items_leave v (suc i) more)

pub lent_leaves : (s e : List ℕ) (v : ℕ) (list : List ℕ) → Leaves (lent_judged s e v list)
unfolding lent_judged
lent_leaves s e v list =
    test_leaves (unequal s e) 2 0 _ refl (test_leaves (ltb v 3 || ltb 32 v) 15 0 _ refl (test_leaves (ltb (2 ^ 28) (length list)) 4 0 (items_judged v 0 list) refl (items_leave v 0 list)))

growth_leaves : (s : List ℕ) (lg v : ℕ) → Leaves (growth_judged s lg v)
unfolding growth_judged
growth_leaves s lg v = test_leaves (ltb 26 lg || leb v lg) 13 0 _ refl (test_leaves (ltb (length s) (2 ^ lg)) 5 0 (accepted []) refl passes)

left_by : (o : Outcome) (why : Refusal) → told why ≡ o → Leaves o → (built twice before : List ℕ) → if_built o built twice before ≡ before
left_by (accepted values) why e passes built twice before = absurd (never_accepted why values (sym e))
left_by (refused number place) why e (refuses d) built twice before = simp d
left_by (stopped _ _ _) why e never built twice before = elim never [ ]

-- a refusal by such a judgement, whatever was to come after it
pub built_refused : (whole judged more : Outcome) (v : ℕ) (list s e : List ℕ) (why : Refusal) → whole ≡ and_then judged more → told why ≡ judged → Leaves judged → MadeBy whole v list s e s e (Err why)
built_refused whole judged more v list s e why chain r l =
    let is : whole ≡ told why = chain ∙ ap (λ (o : Outcome). and_then o more) (sym r) ∙ stays why more in
    let kept : (built twice before : List ℕ) → before ≡ if_built whole built twice before =
    λ built twice before. sym (ap (λ (o : Outcome). if_built o built twice before) (is ∙ r) ∙ left_by judged why r l built twice before) in
    record { says = sym is; region = kept (fill list (length list) (blank s) (build_lg (length list)) v) (blank s) s; spare = kept (blank e) (blank e) e }

-- ---- the judgements passed

pub buildable : (v : ℕ) (list : List ℕ) → v ≤ 32 → length list ≤ 2 ^ 28 → accepted [] ≡ items_judged v 0 list → Buildable v list
buildable v list bits_most few e = record {
  bits_most = bits_most;
  few = few;
  fine = λ k l. let f = items_fine v 0 list (sym e) k l in (f.small, f.full);
}

-- a list whose items fit a table is one
pub batch_buildable : (b : Batch) → Buildable b.shape.valid b.list.now
batch_buildable b =
    let slots : 2 ^ b.shape.lg ≤ 2 ^ 26 = pow_mono b.shape.lg_most in
    record { bits_most = b.shape.bits_most; few = omega (arith, b.load, slots); fine = b.fine }

-- ---- the list stored

length_built : (list w t : List ℕ) (lg v r : ℕ) → Built list w t lg v r → length t ≡ length w
length_built list w t lg v r a = ap length a.now_is ∙ length_fill list r w lg v

module _ (v : ℕ) (list s e : List ℕ) (lg : ℕ) (b : Buildable v list) (is : lg ≡ build_lg (length list)) (most : lg ≤ 26) (bits : lg < v) (room : 2 ^ lg ≤ length s) where
  load : 4 * length list ≤ 3 * 2 ^ lg
  load = rw is (build_fits (length list) (rw is at most))

  fine : (k : ℕ) → k < length list → Fine v (get_or list k 0)
  fine k h = record { small = (b.fine k h).0; full = (b.fine k h).1 }

  pub base : (w : List ℕ) → w ≡ blank s → Lawful w lg v 0
  base w clean = rw clean (blank_lawful (length s) lg v (rw is (build_least (length list))) most bits b.bits_most room)

  -- an item that stands twice
  pub store_twice : (w t u : List ℕ) (r : ℕ) (answer : Result PairTable Refusal) → w ≡ blank s → Built list w t lg v r → r < length list → told_table answer ≡ refused 11 r → u ≡ blank e → StoredBy s e v list (blank t) u answer
  unfolding store_on
  store_twice w t u r answer clean a l told q =
      let j : store_on v list ≡ refused 11 r = ap (λ (o : Outcome). and_then o (record_of (build_lg (length list)) v (length list))) (built_stopped list w lg v (base w clean) fine load t r a l) in
      let long : length t ≡ length s = length_built list w t lg v r a ∙ ap length clean ∙ length-replicate (length s) empty in
      record {
        says = told ∙ sym j;
        region = ap (λ (k : ℕ). replicate k empty) long ∙ sym (ap (λ (o : Outcome). if_built o (fill list (length list) (blank s) (build_lg (length list)) v) (blank s) s) j);
        spare = q ∙ sym (ap (λ (o : Outcome). if_built o (blank e) (blank e) e) j);
      }

  -- none does
  pub store_whole : (w t u : List ℕ) (r : ℕ) (answer : Result PairTable Refusal) → w ≡ blank s → Built list w t lg v r → length list ≤ r → told_table answer ≡ record_of lg v r → u ≡ blank e → StoredBy s e v list t u answer
  unfolding store_on
  store_whole w t u r answer clean a l told q =
      let all : r ≡ length list = omega (arith, a.within) in
      let j : store_on v list ≡ record_of lg v r =
      ap (λ (o : Outcome). and_then o (record_of (build_lg (length list)) v (length list))) (built_whole list w lg v (base w clean) fine load t r a all)
      ∙ ap (λ (k : ℕ). record_of k v (length list)) (sym is) ∙ ap (λ (k : ℕ). record_of lg v k) (sym all) in
      record {
        says = told ∙ sym j;
        region = a.now_is ∙ ap (λ (k : ℕ). fill list k w lg v) all ∙ ap (λ (z : List ℕ). fill list (length list) z lg v) clean ∙ ap (λ (k : ℕ). fill list (length list) (blank s) k v) is
            ∙ sym (ap (λ (o : Outcome). if_built o (fill list (length list) (blank s) (build_lg (length list)) v) (blank s) s) j);
        spare = q ∙ sym (ap (λ (o : Outcome). if_built o (blank e) (blank e) e) j);
      }

-- ---- the whole call

chain : (a b d : Bool) (judged more : Outcome)
    → choose a (refused 2 0) (choose b (refused 15 0) (choose d (refused 4 0) (and_then judged more)))
    ≡ and_then (choose a (refused 2 0) (choose b (refused 15 0) (choose d (refused 4 0) judged))) more
chain true b d judged more = refl
chain false true d judged more = refl
chain false false true judged more = refl
chain false false false judged more = refl

pub build_chain : (s e : List ℕ) (v : ℕ) (list : List ℕ) → build_of s e v list ≡ and_then (lent_judged s e v list) (build_on s v list)
unfolding build_of lent_judged build_on store_on
build_chain s e v list = chain (unequal s e) (ltb v 3 || ltb 32 v) (ltb (2 ^ 28) (length list)) (items_judged v 0 list) (build_on s v list)

pub growth_refused : (s e : List ℕ) (v : ℕ) (list : List ℕ) (why : Refusal) → told why ≡ growth_judged s (build_lg (length list)) v → BuiltBy s e v list s e (Err why)
unfolding build_on
growth_refused s e v list why r = built_refused (build_on s v list) (growth_judged s (build_lg (length list)) v) (store_on v list) v list s e why refl r (growth_leaves s (build_lg (length list)) v)

-- an outcome for an equal one
pub made_as : (one other : Outcome) (v : ℕ) (list s e t u : List ℕ) (answer : Result PairTable Refusal) → other ≡ one → MadeBy one v list s e t u answer → MadeBy other v list s e t u answer
made_as one other v list s e t u answer is w = subst (λ (o : Outcome). MadeBy o v list s e t u answer) (sym is) w

pub growth_done : (s e : List ℕ) (v : ℕ) (list t u : List ℕ) (answer : Result PairTable Refusal) → growth_judged s (build_lg (length list)) v ≡ accepted [] → StoredBy s e v list t u answer → BuiltBy s e v list t u answer
unfolding build_on
growth_done s e v list t u answer j w = made_as (store_on v list) (build_on s v list) v list s e t u answer (ap (λ (o : Outcome). and_then o (store_on v list)) j) w
