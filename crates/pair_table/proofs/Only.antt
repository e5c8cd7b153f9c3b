-- No second outcome satisfies what a public call promises. Assumes nothing.
use mathlib.Core.Path.{◌≡◌, refl, sym, ap, ◌∙◌}
use mathlib.Core.List.{List, []}
use Prim.Native.Nat.{ℕ}
use native.Mathlib.Omega.{arith}
use Rattle.std.specs.Prelude.{◌^◌, Option, Some, None, Result, Ok, Err, IfOk, ⊤}
use Rattle.refusals.specs.Told.{told_plain}
use Rattle.refusals.specs.declared.Refusal.{Refusal}
use Rattle.refusals.proofs.Only.{told_once, never_accepted, told_by_once, plain_once}
use Rattle.tables.specs.Calls.{table_judged, new_of, blank_if, build_of, build_region, build_spare, insert_of, insert_region, delete_of, delete_region, spare_after, clear_of}
use Rattle.pair_table.specs.Told.{record_values, told_table, change_values, told_change}
use Rattle.pair_table.specs.declared.PairTable.{PairTable}
use Rattle.pair_table.specs.declared.judged.JudgedTable.{JudgedTable}

record_once : (a b : PairTable) → record_values a ≡ record_values b → a ≡ b
record_once a b e =
    let lg : a.lg ≡ b.lg = cc in
    let valid : a.valid ≡ b.valid = cc in
    let items : a.items ≡ b.items = cc in
    ap (λ (n : ℕ). record { lg = n; valid = a.valid; items = a.items }) lg
    ∙ ap (λ (n : ℕ). record { lg = b.lg; valid = n; items = a.items }) valid
    ∙ ap (λ (n : ℕ). record { lg = b.lg; valid = b.valid; items = n }) items

values_once : (a b : Option PairTable) → change_values a ≡ change_values b → a ≡ b
values_once (Some t) (Some u) e = let same : record_values t ≡ record_values u = cc in ap Some (record_once t u same)
values_once (Some t) None e = let z : ◌≡◌ {A = ℕ} 1 0 = cc in absurd (omega arith)
values_once None (Some u) e = let z : ◌≡◌ {A = ℕ} 0 1 = cc in absurd (omega arith)
values_once None None e = refl

-- what an answer is told as decides the answer
pub table_once : (a b : Result PairTable Refusal) → told_table a ≡ told_table b → a ≡ b
table_once = told_by_once record_values record_once

pub change_once : (a b : Result (Option PairTable) Refusal) → told_change a ≡ told_change b → a ≡ b
change_once = told_by_once change_values values_once

pub one_judge : (s e : List ℕ) (lg v c : ℕ) (a b : Result ⊤ Refusal) → told_plain a ≡ table_judged s e lg v c → told_plain b ≡ table_judged s e lg v c → a ≡ b
one_judge s e lg v c a b x y = plain_once a b (x ∙ sym y)

pub one_new : (s e : List ℕ) (lg v : ℕ) (t u t' u' : List ℕ) (a b : Result PairTable Refusal)
    → (told_table a ≡ new_of s e lg v) × (t ≡ blank_if (new_of s e lg v) s) × (u ≡ blank_if (new_of s e lg v) e)
    → (told_table b ≡ new_of s e lg v) × (t' ≡ blank_if (new_of s e lg v) s) × (u' ≡ blank_if (new_of s e lg v) e) → (a ≡ b) × (t ≡ t') × (u ≡ u')
one_new s e lg v t u t' u' a b x y = (table_once a b (x.0 ∙ sym y.0), x.1 ∙ sym y.1, x.2 ∙ sym y.2)

pub one_build : (s e : List ℕ) (v : ℕ) (list t u t' u' : List ℕ) (a b : Result PairTable Refusal)
    → (told_table a ≡ build_of s e v list) × (t ≡ build_region s e v list) × (u ≡ build_spare s e v list)
    → (told_table b ≡ build_of s e v list) × (t' ≡ build_region s e v list) × (u' ≡ build_spare s e v list) → (a ≡ b) × (t ≡ t') × (u ≡ u')
one_build s e v list t u t' u' a b x y = (table_once a b (x.0 ∙ sym y.0), x.1 ∙ sym y.1, x.2 ∙ sym y.2)

pub one_insert : (s e : List ℕ) (lg v c item : ℕ) (t u t' u' : List ℕ) (a b : Result (Option PairTable) Refusal)
    → (told_change a ≡ insert_of s e lg v c item) × (t ≡ insert_region s e lg v c item) × (u ≡ spare_after (insert_of s e lg v c item) e)
    → (told_change b ≡ insert_of s e lg v c item) × (t' ≡ insert_region s e lg v c item) × (u' ≡ spare_after (insert_of s e lg v c item) e) → (a ≡ b) × (t ≡ t') × (u ≡ u')
one_insert s e lg v c item t u t' u' a b x y = (change_once a b (x.0 ∙ sym y.0), x.1 ∙ sym y.1, x.2 ∙ sym y.2)

pub one_delete : (s e : List ℕ) (lg v c item : ℕ) (t u t' u' : List ℕ) (a b : Result (Option PairTable) Refusal)
    → (told_change a ≡ delete_of s e lg v c item) × (t ≡ delete_region s e lg v c item) × (u ≡ spare_after (delete_of s e lg v c item) e)
    → (told_change b ≡ delete_of s e lg v c item) × (t' ≡ delete_region s e lg v c item) × (u' ≡ spare_after (delete_of s e lg v c item) e) → (a ≡ b) × (t ≡ t') × (u ≡ u')
one_delete s e lg v c item t u t' u' a b x y = (change_once a b (x.0 ∙ sym y.0), x.1 ∙ sym y.1, x.2 ∙ sym y.2)

pub one_clear : (s e : List ℕ) (lg v c : ℕ) (t u t' u' : List ℕ) (a b : Result PairTable Refusal)
    → (told_table a ≡ clear_of s e lg v c) × (t ≡ blank_if (clear_of s e lg v c) s) × (u ≡ blank_if (clear_of s e lg v c) e)
    → (told_table b ≡ clear_of s e lg v c) × (t' ≡ blank_if (clear_of s e lg v c) s) × (u' ≡ blank_if (clear_of s e lg v c) e) → (a ≡ b) × (t ≡ t') × (u ≡ u')
one_clear s e lg v c t u t' u' a b x y = (table_once a b (x.0 ∙ sym y.0), x.1 ∙ sym y.1, x.2 ∙ sym y.2)

-- what a judged table says of the lent one
abbrev pub JudgedAs : List ℕ → ℕ → ℕ → ℕ → JudgedTable → Type 0
JudgedAs s lg v c table = (table.slots.now ≡ s) × (table.shape.lg ≡ lg) × (table.shape.valid ≡ v) × (table.items ≡ c)

-- judged tables are the same where their slots, their shapes and their counts are
abbrev pub SameTable : Result JudgedTable Refusal → Result JudgedTable Refusal → Type 0
SameTable (Ok a) (Ok b) = (a.slots.now ≡ b.slots.now) × (a.shape.lg ≡ b.shape.lg) × (a.shape.valid ≡ b.shape.valid) × (a.items ≡ b.items)
SameTable (Ok a) (Err why) = ⊥
SameTable (Err why) (Ok b) = ⊥
SameTable (Err why) (Err other) = why ≡ other

judged_once : (s : List ℕ) (lg v c : ℕ) (a b : Result JudgedTable Refusal) → IfOk a (JudgedAs s lg v c) → IfOk b (JudgedAs s lg v c)
    → told_plain a ≡ told_plain b → SameTable a b
judged_once s lg v c (Ok a) (Ok b) p q e = (p.0 ∙ sym q.0, p.1 ∙ sym q.1, p.2 ∙ sym q.2, p.3 ∙ sym q.3)
judged_once s lg v c (Ok a) (Err why) p q e = absurd (never_accepted why [] e)
judged_once s lg v c (Err why) (Ok b) p q e = absurd (never_accepted why [] (sym e))
judged_once s lg v c (Err why) (Err other) p q e = told_once why other e

pub one_judged_table : (s e : List ℕ) (lg v c : ℕ) (a b : Result JudgedTable Refusal) → (told_plain a ≡ table_judged s e lg v c) × IfOk a (JudgedAs s lg v c)
    → (told_plain b ≡ table_judged s e lg v c) × IfOk b (JudgedAs s lg v c) → SameTable a b
one_judged_table s e lg v c a b p q = judged_once s lg v c a b p.1 q.1 (p.0 ∙ sym q.0)

pub one_size : (lg a b : ℕ) → a ≡ 2 ^ lg → b ≡ 2 ^ lg → a ≡ b
one_size lg a b p q = p ∙ sym q
