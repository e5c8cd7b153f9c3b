-- Whole calls, from what their judgements and their work say. Assumes nothing.
use mathlib.Core.Path.{◌≡◌, refl, sym, ap, ◌∙◌}
use mathlib.Core.List.{List}
use Prim.Native.Nat.{ℕ}
use Rattle.std.specs.Prelude.{Option, Result}
use Rattle.refusals.specs.declared.Refusal.{Refusal}
use Rattle.pair_table.specs.declared.PairTable.{PairTable}
use Rattle.refusals.specs.Outcome.{Outcome, refused, stopped, and_then, accepted}
use Rattle.refusals.specs.Told.{told}
use Rattle.refusals.specs.declared.Refusal.{Refusal}
use Rattle.refusals.proofs.Refusing.{Refuses, by_place, by_bit, refuses, kept, stays}
use Rattle.tables.specs.Changes.{blank}
use Rattle.tables.specs.Calls.{record_of, if_changed, spare_after, blank_if, table_judged, item_judged, insert_of, delete_of}
use Rattle.pair_table.specs.Told.{told_change}
use Rattle.pair_table.specs.Steps.{ChangedBy, grow_on, insert_on, delete_on}
use Rattle.pair_table.proofs.Passing.{then_assoc}

unchanged_by : (o : Outcome) → Refuses o → (after before : List ℕ) → if_changed o after before ≡ before
unchanged_by (refused number place) by_place after before = refl
unchanged_by (stopped number place bit) by_bit after before = refl
unchanged_by (accepted _) never after before = elim never [ ]

-- a refusal leaves what was lent as it was
pub unchanged_if_refused : (why : Refusal) (after before : List ℕ) → if_changed (told why) after before ≡ before
unchanged_if_refused why after before = unchanged_by (told why) (refuses why) after before

module _ (whole more : Outcome) (s e : List ℕ) where
  -- new and clear
  pub table_refused : (why : Refusal) → whole ≡ and_then (told why) more → (told why ≡ whole) × (s ≡ blank_if whole s) × (e ≡ blank_if whole e)
  table_refused why chain =
      let is : whole ≡ told why = chain ∙ stays why more in
      (sym is, sym (ap (λ (o : Outcome). blank_if o s) is ∙ kept why (blank s) s), sym (ap (λ (o : Outcome). blank_if o e) is ∙ kept why (blank e) e))

  pub table_made : (lg v : ℕ) (t u : List ℕ) → whole ≡ record_of lg v 0 → t ≡ blank s → u ≡ blank e → (record_of lg v 0 ≡ whole) × (t ≡ blank_if whole s) × (u ≡ blank_if whole e)
  table_made lg v t u is p q = (sym is, p ∙ sym (ap (λ (o : Outcome). blank_if o s) is), q ∙ sym (ap (λ (o : Outcome). blank_if o e) is))

  -- insert and delete
  pub change_refused : (after : List ℕ) (why : Refusal) → whole ≡ and_then (told why) more → (told why ≡ whole) × (s ≡ if_changed whole after s) × (e ≡ spare_after whole e)
  change_refused after why chain =
      let is : whole ≡ told why = chain ∙ stays why more in
      (sym is, sym (ap (λ (o : Outcome). if_changed o after s) is ∙ unchanged_if_refused why after s), sym (ap (λ (o : Outcome). if_changed o (blank e) e) is ∙ unchanged_if_refused why (blank e) e))

  pub change_done : (after t u : List ℕ) (answer : Result (Option PairTable) Refusal) → whole ≡ more → ChangedBy more after s e t u answer
      → (told_change answer ≡ whole) × (t ≡ if_changed whole after s) × (u ≡ spare_after whole e)
  change_done after t u answer is w =
      (w.says ∙ sym is, w.region ∙ sym (ap (λ (o : Outcome). if_changed o after s) is), w.spare ∙ sym (ap (λ (o : Outcome). if_changed o (blank e) e) is))

pub insert_chain : (s e : List ℕ) (lg v c x : ℕ) → insert_of s e lg v c x ≡ and_then (and_then (table_judged s e lg v c) (item_judged v x 0)) (insert_on s lg v c x)
unfolding insert_of insert_on grow_on
insert_chain s e lg v c x = then_assoc (table_judged s e lg v c) (item_judged v x 0) (insert_on s lg v c x)

pub delete_chain : (s e : List ℕ) (lg v c x : ℕ) → delete_of s e lg v c x ≡ and_then (and_then (table_judged s e lg v c) (item_judged v x 0)) (delete_on s lg v c x)
unfolding delete_of delete_on
delete_chain s e lg v c x = then_assoc (table_judged s e lg v c) (item_judged v x 0) (delete_on s lg v c x)
