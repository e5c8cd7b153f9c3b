-- Over accepted calls a table answers as a plain set. Assumes nothing.
use mathlib.Core.Path.{◌≡◌, refl, sym, ap, ap₂, ◌∙◌, subst}
use mathlib.Core.Bool.{Bool, true, false, not, ◌&&◌, ◌||◌, false≢true}
use mathlib.Core.Logic.{inl, ⊎_elim}
use mathlib.Core.List.{List, [], ◌∷◌}
use Prim.Native.Nat.{ℕ, ◌+◌, ◌-◌, ◌^◌, ◌≤◌}
use native.Mathlib.Omega.{arith}
use lib.ListN.{length, get_or, get_or-replicate}
use lib.Dec.{eqb}
use borrow.Author.Tests.{eq-eqb, ne_eqb, eqb-true, eqb-false, not-true}
use Rattle.laws.specs.Below.{one as told, sum_below}
use Rattle.laws.proofs.Truths.{never_true, both_true, and_left, and_right, and_both, or_true, or_left, or_right}
use Rattle.laws.proofs.Sums.{sum_same}
use Rattle.refusals.specs.Outcome.{Outcome, accepted, refused, if_accepted, stopped}
use Rattle.tables.specs.Slots.{empty, holds}
use Rattle.tables.specs.Changes.{blank, fill, build_lg, inserted, deleted, halved_lg}
use Rattle.tables.specs.Calls.{record_of, if_changed, insert_of, delete_of, clear_of, blank_if, new_of, build_of, if_built, build_region}
use Rattle.tables.specs.Runs.{Table, Call, insert, delete, clear, answer_of, values_in, after, judged, is_accepted, said_by, all_accepted, said_all, after_all, set_of, plain_says, plain_after, plain_says_all, plain_after_all}
use Rattle.tables.specs.Shapes.{Lawful, Member}
use Rattle.tables.proofs.Bridges.{holds_at, at_holds, holds_member, member_holds}
use Rattle.tables.proofs.Build.{build_listed, build_stored}
use Rattle.tables.proofs.Sizes.{build_fits}
use Rattle.tables.proofs.Changed.{Added, Taken, kept_set, grown_set, deleted_set}
use Rattle.tables.proofs.Says.{judged_is, InsertSays, refuses, there, kept, grown, insert_says, DeleteSays, missing, taken, delete_says, build_says, new_says}
use Rattle.tables.proofs.Lasting.{clear_is, lasting, build_base}
use Rattle.tables.proofs.Number.{set_number}

-- y is an item of the first n slots
abbrev pub is_in : List ℕ → ℕ → ℕ → Bool
is_in s n y = not (eqb y empty) && holds s n y

in_member : (s : List ℕ) (n y : ℕ) → is_in s n y ≡ true → Member s n y
in_member s n y e =
    holds_member s n y (eqb-false y empty (not-true (eqb y empty) (and_left (not (eqb y empty)) (holds s n y) e))) (and_right (not (eqb y empty)) (holds s n y) e)

member_in : (s : List ℕ) (n y : ℕ) → Member s n y → is_in s n y ≡ true
member_in s n y m = and_both (ap not (ne_eqb y empty m.3)) (member_holds s n y m)

not_in : (s : List ℕ) (n y : ℕ) → (Member s n y → ⊥) → is_in s n y ≡ false
not_in s n y f = never_true (is_in s n y) (λ e. f (in_member s n y e))

-- the set with x, without x, and with nothing
added_set : (s : List ℕ) (n : ℕ) (t : List ℕ) (k x : ℕ) → Added s n t k x → (y : ℕ) → is_in t k y ≡ (eqb y x || is_in s n y)
added_set s n t k x w y = both_true (is_in t k y) (eqb y x || is_in s n y)
    (λ e. ⊎_elim (λ m. or_right (eqb y x) (is_in s n y) (member_in s n y m)) (λ (z : y ≡ x). or_left (eqb y x) (is_in s n y) (eq-eqb y x z)) (w.only y (in_member t k y e)))
    (λ e. ⊎_elim
    (λ (z : eqb y x ≡ true). subst (λ (u : ℕ). is_in t k u ≡ true) (sym (eqb-true y x z)) (member_in t k x w.has))
    (λ (z : is_in s n y ≡ true). member_in t k y (w.keeps y (in_member s n y z)))
    (or_true (eqb y x) (is_in s n y) e))

taken_set : (s : List ℕ) (n : ℕ) (t : List ℕ) (k x : ℕ) → Taken s n t k x → (y : ℕ) → is_in t k y ≡ (not (eqb y x) && is_in s n y)
taken_set s n t k x w y = both_true (is_in t k y) (not (eqb y x) && is_in s n y)
    (λ e.
    let m = in_member t k y e in
    and_both (ap not (ne_eqb y x (λ (z : y ≡ x). w.gone (subst (Member t k) z m)))) (member_in s n y (w.only y m)))
    (λ e. member_in t k y (w.keeps y (in_member s n y (and_right (not (eqb y x)) (is_in s n y) e)) (eqb-false y x (not-true (eqb y x) (and_left (not (eqb y x)) (is_in s n y) e)))))

blank_set : (s : List ℕ) (n y : ℕ) → n ≤ length s → is_in (blank s) n y ≡ false
blank_set s n y h = not_in (blank s) n y (λ m. m.3 (sym m.2 ∙ get_or-replicate (length s) m.0 empty 0 (omega (arith, m.1))))

-- One call on a lawful table: what it says, and the set afterwards.
insert_plain : (s : List ℕ) (lg v c x : ℕ) → Lawful s lg v c → (o : Outcome) → InsertSays s lg v c x o → is_accepted o ≡ true
    → (eqb (get_or (values_in o) 0 0) 1 ≡ not (is_in s (2 ^ lg) x)) × ((y : ℕ) → is_in (if_changed o (inserted s lg v c x) s) (2 ^ get_or (values_in o) 1 lg) y ≡ (eqb y x || is_in s (2 ^ lg) y))
insert_plain s lg v c x l (refused number place) refuses a = absurd (false≢true a)
insert_plain s lg v c x l (accepted _) (there w m) a =
    (sym (ap not (member_in s (2 ^ lg) x m)), added_set s (2 ^ lg) s (2 ^ lg) x (record { has = m; keeps = λ y k. k; only = λ y k. inl k }))
insert_plain s lg v c x l (accepted _) (kept w new f) a = (sym (ap not (not_in s (2 ^ lg) x new)), added_set s (2 ^ lg) (inserted s lg v c x) (2 ^ lg) x (kept_set s lg v c x l w new f))
insert_plain s lg v c x l (accepted _) (grown w new f p q r) a =
    (sym (ap not (not_in s (2 ^ lg) x new)), added_set s (2 ^ lg) (inserted s lg v c x) (2 ^ (lg + 1)) x (grown_set s lg v c x l w new f p q r))
insert_plain s lg v c x l (stopped _ _ _) never a = elim never [ ]

delete_plain : (s : List ℕ) (lg v c x : ℕ) → Lawful s lg v c → (o : Outcome) → DeleteSays s lg v c x o → is_accepted o ≡ true
    → (eqb (get_or (values_in o) 0 0) 1 ≡ is_in s (2 ^ lg) x) × ((y : ℕ) → is_in (if_changed o (deleted s lg v c x) s) (2 ^ get_or (values_in o) 1 lg) y ≡ (not (eqb y x) && is_in s (2 ^ lg) y))
delete_plain s lg v c x l (refused number place) refuses a = absurd (false≢true a)
delete_plain s lg v c x l (accepted _) (missing w new) a =
    (sym (not_in s (2 ^ lg) x new), taken_set s (2 ^ lg) s (2 ^ lg) x (record { gone = new; keeps = λ y m d. m; only = λ y m. m }))
delete_plain s lg v c x l (accepted _) (taken w m) a =
    (sym (member_in s (2 ^ lg) x m), taken_set s (2 ^ lg) (deleted s lg v c x) (2 ^ halved_lg lg lg (c - 1)) x (deleted_set s lg v c x l w m))
delete_plain s lg v c x l (stopped _ _ _) never a = elim never [ ]

clear_plain : (s : List ℕ) (lg v c : ℕ) → Lawful s lg v c → (o : Outcome) → o ≡ record_of lg v 0 → (y : ℕ) → is_in (if_accepted o (blank s) s) (2 ^ get_or (values_in o) 0 lg) y ≡ false
clear_plain s lg v c l o z y = rw z (blank_set s (2 ^ lg) y l.room)

-- One call that is accepted.
pub record Plainly (t : Table) (call : Call) : Type 0 where
  pub answer : said_by call (answer_of t call) ≡ plain_says (set_of t) call
  pub holding : (y : ℕ) → set_of (after t call) y ≡ plain_after (set_of t) call y

-- it says what the plain set says, and leaves what the plain set is
pub plainly : (t : Table) (call : Call) → judged t ≡ accepted [] → is_accepted (answer_of t call) ≡ true → Plainly t call
plainly t (insert x) z a =
    let w = judged_is t.slots t.spare t.lg t.bits t.count z in
    let r = insert_plain t.slots t.lg t.bits t.count x w.1 (insert_of t.slots t.spare t.lg t.bits t.count x)
    (insert_says t.slots t.spare t.lg t.bits t.count x w.0 w.1) a in
    record { answer = r.0; holding = r.1 }
plainly t (delete x) z a =
    let w = judged_is t.slots t.spare t.lg t.bits t.count z in
    let r = delete_plain t.slots t.lg t.bits t.count x w.1 (delete_of t.slots t.spare t.lg t.bits t.count x)
    (delete_says t.slots t.spare t.lg t.bits t.count x w.0 w.1) a in
    record { answer = r.0; holding = r.1 }
plainly t clear z a =
    let w = judged_is t.slots t.spare t.lg t.bits t.count z in
    record {
      answer = refl;
      holding = clear_plain t.slots t.lg t.bits t.count w.1 (clear_of t.slots t.spare t.lg t.bits t.count) (clear_is t.slots t.spare t.lg t.bits t.count w.0 w.1);
    }

-- The valid bits stay.
insert_bits : (s : List ℕ) (lg v c x : ℕ) (o : Outcome) → InsertSays s lg v c x o → get_or (values_in o) 2 v ≡ v
insert_bits s lg v c x (refused number place) refuses = refl
insert_bits s lg v c x (accepted _) (there w m) = refl
insert_bits s lg v c x (accepted _) (kept w new f) = refl
insert_bits s lg v c x (accepted _) (grown w new f p q r) = refl
insert_bits s lg v c x (stopped _ _ _) never = elim never [ ]

delete_bits : (s : List ℕ) (lg v c x : ℕ) (o : Outcome) → DeleteSays s lg v c x o → get_or (values_in o) 2 v ≡ v
delete_bits s lg v c x (refused number place) refuses = refl
delete_bits s lg v c x (accepted _) (missing w m) = refl
delete_bits s lg v c x (accepted _) (taken w m) = refl
delete_bits s lg v c x (stopped _ _ _) never = elim never [ ]

-- whatever is called
pub bits_stay : (t : Table) (call : Call) → judged t ≡ accepted [] → (after t call).bits ≡ t.bits
bits_stay t (insert x) z =
    let w = judged_is t.slots t.spare t.lg t.bits t.count z in
    insert_bits t.slots t.lg t.bits t.count x (insert_of t.slots t.spare t.lg t.bits t.count x) (insert_says t.slots t.spare t.lg t.bits t.count x w.0 w.1)
bits_stay t (delete x) z =
    let w = judged_is t.slots t.spare t.lg t.bits t.count z in
    delete_bits t.slots t.lg t.bits t.count x (delete_of t.slots t.spare t.lg t.bits t.count x) (delete_says t.slots t.spare t.lg t.bits t.count x w.0 w.1)
bits_stay t clear z =
    let w = judged_is t.slots t.spare t.lg t.bits t.count z in
    ap (λ (o : Outcome). get_or (values_in o) 1 t.bits) (clear_is t.slots t.spare t.lg t.bits t.count w.0 w.1)

-- All calls, beside a plain set that starts as the table's.
record Run (t : Table) (set : ℕ → Bool) (calls : List Call) : Type 0 where
  answers : said_all t calls ≡ plain_says_all set calls
  holding : (y : ℕ) → set_of (after_all t calls) y ≡ plain_after_all set calls y
  lasts : judged (after_all t calls) ≡ accepted []
  bits : (after_all t calls).bits ≡ t.bits

says_same : (f g : ℕ → Bool) → ((y : ℕ) → f y ≡ g y) → (call : Call) → plain_says f call ≡ plain_says g call
says_same f g h (insert x) = ap not (h x)
says_same f g h (delete x) = h x
says_same f g h clear = refl

after_same : (f g : ℕ → Bool) → ((y : ℕ) → f y ≡ g y) → (call : Call) → (y : ℕ) → plain_after f call y ≡ plain_after g call y
after_same f g h (insert x) y = ap (λ (b : Bool). eqb y x || b) (h y)
after_same f g h (delete x) y = ap (λ (b : Bool). not (eqb y x) && b) (h y)
after_same f g h clear y = refl

run : (calls : List Call) (t : Table) (set : ℕ → Bool) → judged t ≡ accepted [] → ((y : ℕ) → set_of t y ≡ set y) → all_accepted t calls ≡ true → Run t set calls
unfolding all_accepted said_all after_all plain_says_all plain_after_all
run [] t set z h a = record { answers = refl; holding = h; lasts = z; bits = refl }
run (call ∷ more) t set z h a =
    let one : Plainly t call = plainly t call z (and_left (is_accepted (answer_of t call)) (all_accepted (after t call) more) a) in
    let rest : Run (after t call) (plain_after set call) more =
    run more (after t call) (plain_after set call) (lasting t call z) (λ y. one.holding y ∙ after_same (set_of t) set h call y) (and_right (is_accepted (answer_of t call)) (all_accepted (after t call) more) a) in
    record {
      answers = ap₂ ◌∷◌ (one.answer ∙ says_same (set_of t) set h call) rest.answers;
      holding = rest.holding;
      lasts = rest.lasts;
      bits = rest.bits ∙ bits_stay t call z;
    }

-- From a table t that the calls take, any list of inserts, deletes and clears that are all accepted: what they say, true or false, is what a plain set says that starts with the table's items; the table at the end holds exactly the items that the plain set then holds, counts as many, and is one that the calls take again.
-- Assumed of t: nothing but that no call would refuse it by 2 or 15; its slots may stand in any lawful order.
pub record AsPlainSet (t : Table) (calls : List Call) : Type 0 where
  pub answers : said_all t calls ≡ plain_says_all (set_of t) calls
  pub holding : (y : ℕ) → set_of (after_all t calls) y ≡ plain_after_all (set_of t) calls y
  pub number : (after_all t calls).count ≡ sum_below (2 ^ t.bits) (λ y. told (plain_after_all (set_of t) calls y))
  pub lasts : judged (after_all t calls) ≡ accepted []

-- that is so, by induction on the calls
pub as_plain_set : (t : Table) (calls : List Call) → judged t ≡ accepted [] → all_accepted t calls ≡ true → AsPlainSet t calls
as_plain_set t calls z a =
    let r : Run t (set_of t) calls = run calls t (set_of t) z (λ y. refl) a in
    let u : Table = after_all t calls in
    let w = judged_is (after_all t calls).slots (after_all t calls).spare (after_all t calls).lg (after_all t calls).bits (after_all t calls).count r.lasts in
    record {
      answers = r.answers;
      holding = r.holding;
      number = sym (set_number (after_all t calls).slots (after_all t calls).lg (after_all t calls).bits (after_all t calls).count w.1)
          ∙ ap (λ (b : ℕ). sum_below (2 ^ b) (λ y. told (set_of (after_all t calls) y))) r.bits
          ∙ sum_same (2 ^ t.bits) (λ y. told (set_of (after_all t calls) y)) (λ y. told (plain_after_all (set_of t) calls y)) (λ y h. ap told (r.holding y));
      lasts = r.lasts;
    }

-- Where a run may start: a new table stands for the set with nothing in it.
pub new_set : (s e : List ℕ) (lg v : ℕ) {values : List ℕ} → new_of s e lg v ≡ accepted values → (y : ℕ) → is_in (blank_if (new_of s e lg v) s) (2 ^ lg) y ≡ false
new_set s e lg v z y = rw z (blank_set s (2 ^ lg) y (new_says s e lg v z).room)

-- A table that is built stands for the list's items.
pub build_set : (s e : List ℕ) (v : ℕ) (list : List ℕ) {values : List ℕ} → build_of s e v list ≡ accepted values
    → (y : ℕ) → is_in (build_region s e v list) (2 ^ build_lg (length list)) y ≡ holds list (length list) y
build_set s e v list z y =
    let w = build_says s e v list z in
    let base = build_base s e v list w in
    let lg : ℕ = build_lg (length list) in
    let built : List ℕ = fill list (length list) (blank s) (build_lg (length list)) v in
    let load = build_fits (length list) w.most in
    ap (λ (o : Outcome). is_in (if_built o built (blank s) s) (2 ^ build_lg (length list)) y) z
    ∙ both_true (is_in built (2 ^ build_lg (length list)) y) (holds list (length list) y)
    (λ e.
    let r = build_listed list (blank s) (build_lg (length list)) v base w.fine load w.once y (in_member built (2 ^ build_lg (length list)) y e) in
    at_holds list (length list) y r.0 r.1 r.2)
    (λ e.
    let r = holds_at list (length list) y e in
    member_in built (2 ^ build_lg (length list)) y (subst (Member built (2 ^ build_lg (length list))) r.2 (build_stored list (blank s) (build_lg (length list)) v base w.fine load w.once r.0 r.1)))
