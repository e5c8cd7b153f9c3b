-- Never 15 next: what a call answers and leaves is a table that the next call takes. Assumes nothing.
use mathlib.Core.Path.{◌≡◌, sym, ap, ◌∙◌}
use mathlib.Core.List.{List, []}
use Prim.Native.Nat.{ℕ, ◌+◌, ◌-◌, ◌^◌, ◌≤◌, ◌<◌}
use lib.ListN.{length, get_or, length-replicate}
use Rattle.refusals.specs.Outcome.{Outcome, accepted, refused, if_accepted, stopped}
use Rattle.tables.specs.Slots.{empty}
use Rattle.tables.specs.Changes.{blank, fill, inserted, deleted, halved_lg, build_lg}
use Rattle.tables.specs.Calls.{record_of, if_changed, table_judged, insert_of, delete_of, build_of, if_built, build_region, build_spare, new_of, clear_of, blank_if}
use Rattle.tables.specs.Runs.{Table, Call, insert, delete, clear, values_in, judged, after}
use Rattle.tables.specs.Shapes.{Lawful}
use Rattle.tables.proofs.Refilled.{length_fill, blank_lawful}
use Rattle.tables.proofs.Build.{build_lawful}
use Rattle.tables.proofs.Sizes.{build_least, build_fits}
use Rattle.tables.proofs.Changed.{length_inserted, kept_lawful, grown_lawful, deleted_lawful, length_deleted}
use Rattle.tables.proofs.Says.{judged_is, is_judged, InsertSays, refuses, there, kept, grown, insert_says, DeleteSays, missing, taken, delete_says, BuildSays, build_says, new_says}

length_blank : (s : List ℕ) → length (blank s) ≡ length s
length_blank s = length-replicate (length s) empty

-- a table that is all empty slots
blank_judged : (s e : List ℕ) (lg v : ℕ) → length s ≡ length e → 2 ≤ lg → lg ≤ 26 → lg < v → v ≤ 32 → 2 ^ lg ≤ length s → table_judged (blank s) (blank e) lg v 0 ≡ accepted []
blank_judged s e lg v long a b d f room = is_judged (blank s) (blank e) lg v 0 (length_blank s ∙ long ∙ sym (length_blank e)) (blank_lawful (length s) lg v a b d f room)

-- an insert, true or false or refused
insert_lasts : (s e : List ℕ) (lg v c x : ℕ) → length s ≡ length e → Lawful s lg v c → (o : Outcome) → InsertSays s lg v c x o
    → table_judged (if_changed o (inserted s lg v c x) s) (if_changed o (blank e) e) (get_or (values_in o) 1 lg) (get_or (values_in o) 2 v) (get_or (values_in o) 3 c) ≡ accepted []
insert_lasts s e lg v c x long l (refused number place) refuses = is_judged s e lg v c long l
insert_lasts s e lg v c x long l (accepted _) (there w m) = is_judged s e lg v c long l
insert_lasts s e lg v c x long l (accepted _) (kept w new f) =
    is_judged (inserted s lg v c x) (blank e) lg v (c + 1) (length_inserted s lg v c x l w new ∙ long ∙ sym (length_blank e)) (kept_lawful s lg v c x l w new f)
insert_lasts s e lg v c x long l (accepted _) (grown w new f a b d) =
    is_judged (inserted s lg v c x) (blank e) (lg + 1) v (c + 1) (length_inserted s lg v c x l w new ∙ long ∙ sym (length_blank e)) (grown_lawful s lg v c x l w new f a b d)
insert_lasts s e lg v c x long l (stopped _ _ _) never = elim never [ ]

-- a delete
delete_lasts : (s e : List ℕ) (lg v c x : ℕ) → length s ≡ length e → Lawful s lg v c → (o : Outcome) → DeleteSays s lg v c x o
    → table_judged (if_changed o (deleted s lg v c x) s) (if_changed o (blank e) e) (get_or (values_in o) 1 lg) (get_or (values_in o) 2 v) (get_or (values_in o) 3 c) ≡ accepted []
delete_lasts s e lg v c x long l (refused number place) refuses = is_judged s e lg v c long l
delete_lasts s e lg v c x long l (accepted _) (missing w m) = is_judged s e lg v c long l
delete_lasts s e lg v c x long l (accepted _) (taken w m) =
    is_judged (deleted s lg v c x) (blank e) (halved_lg lg lg (c - 1)) v (c - 1) (length_deleted s lg v c x l w m ∙ long ∙ sym (length_blank e)) (deleted_lawful s lg v c x l w m)
delete_lasts s e lg v c x long l (stopped _ _ _) never = elim never [ ]

-- a clear
pub clear_is : (s e : List ℕ) (lg v c : ℕ) → length s ≡ length e → Lawful s lg v c → clear_of s e lg v c ≡ record_of lg v 0
unfolding clear_of
clear_is s e lg v c long l = rw (is_judged s e lg v c long l)

clear_lasts : (s e : List ℕ) (lg v c : ℕ) → length s ≡ length e → Lawful s lg v c → (o : Outcome) → o ≡ record_of lg v 0
    → table_judged (if_accepted o (blank s) s) (if_accepted o (blank e) e) (get_or (values_in o) 0 lg) (get_or (values_in o) 1 v) (get_or (values_in o) 2 c) ≡ accepted []
clear_lasts s e lg v c long l o z = rw z (blank_judged s e lg v long l.lg_least l.lg_most l.bits_least l.bits_most l.room)

-- Whatever is called on a table that the calls take, and whatever it answers, the calls take what the caller holds then.
pub lasting : (t : Table) (call : Call) → judged t ≡ accepted [] → judged (after t call) ≡ accepted []
lasting t (insert x) z =
    let w = judged_is t.slots t.spare t.lg t.bits t.count z in
    insert_lasts t.slots t.spare t.lg t.bits t.count x w.0 w.1 (insert_of t.slots t.spare t.lg t.bits t.count x)
    (insert_says t.slots t.spare t.lg t.bits t.count x w.0 w.1)
lasting t (delete x) z =
    let w = judged_is t.slots t.spare t.lg t.bits t.count z in
    delete_lasts t.slots t.spare t.lg t.bits t.count x w.0 w.1 (delete_of t.slots t.spare t.lg t.bits t.count x)
    (delete_says t.slots t.spare t.lg t.bits t.count x w.0 w.1)
lasting t clear z =
    let w = judged_is t.slots t.spare t.lg t.bits t.count z in
    clear_lasts t.slots t.spare t.lg t.bits t.count w.0 w.1 (clear_of t.slots t.spare t.lg t.bits t.count)
    (clear_is t.slots t.spare t.lg t.bits t.count w.0 w.1)

recorded_as : (s e : List ℕ) {lg v c a b d : ℕ} → record_of lg v c ≡ record_of a b d → table_judged s e lg v c ≡ accepted [] → table_judged s e a b d ≡ accepted []
recorded_as s e {lg} {v} {c} {a} {b} {d} z w =
    let e₁ : lg ≡ a = cc in
    let e₂ : v ≡ b = cc in
    let e₃ : c ≡ d = cc in
    rw (← e₁, ← e₂, ← e₃) w

-- A new table that is accepted: its record, with what it leaves.
pub new_lasts : (s e : List ℕ) (lg v a b d : ℕ) → new_of s e lg v ≡ record_of a b d
    → table_judged (blank_if (new_of s e lg v) s) (blank_if (new_of s e lg v) e) a b d ≡ accepted []
new_lasts s e lg v a b d z =
    let w = new_says s e lg v z in
    let r = w.sizes in
    ap (λ (o : Outcome). table_judged (blank_if o s) (blank_if o e) a b d) z
    ∙ recorded_as (blank s) (blank e) (sym w.says ∙ z) (blank_judged s e lg v w.equal r.lg_least r.lg_most r.bits_least r.bits_most w.room)

-- A build that is accepted starts in an empty table.
pub build_base : (s e : List ℕ) (v : ℕ) (list : List ℕ) → BuildSays s e v list → Lawful (blank s) (build_lg (length list)) v 0
build_base s e v list w = blank_lawful (length s) (build_lg (length list)) v (build_least (length list)) w.most w.below w.bits_most w.room

-- A build that is accepted: its record, with what it leaves.
pub build_lasts : (s e : List ℕ) (v : ℕ) (list : List ℕ) (a b d : ℕ) → build_of s e v list ≡ record_of a b d → table_judged (build_region s e v list) (build_spare s e v list) a b d ≡ accepted []
build_lasts s e v list a b d z =
    let w = build_says s e v list z in
    let lg : ℕ = build_lg (length list) in
    let built : List ℕ = fill list (length list) (blank s) (build_lg (length list)) v in
    let long : length built ≡ length (blank e) = length_fill list (length list) (blank s) (build_lg (length list)) v ∙ length_blank s ∙ w.equal ∙ sym (length_blank e) in
    ap (λ (o : Outcome). table_judged (if_built o built (blank s) s) (if_built o (blank e) (blank e) e) a b d) z
    ∙ recorded_as built (blank e) (sym w.says ∙ z)
    (is_judged built (blank e) (build_lg (length list)) v (length list) long
    (build_lawful list (blank s) (build_lg (length list)) v (build_base s e v list w) w.fine (build_fits (length list) w.most) w.once))
