-- No second outcome satisfies what a public call promises. Assumes nothing.
use mathlib.Core.Path.{◌≡◌, sym, ◌∙◌}
use mathlib.Core.List.{List}
use Prim.Native.Nat.{ℕ}
use Rattle.std.specs.Prelude.{Result, ⊤}
use Rattle.refusals.proofs.Only.{told_by_once, plain_once}
use Rattle.refusals.specs.Told.{told_plain}
use Rattle.refusals.specs.declared.Refusal.{Refusal}
use Rattle.books.specs.Told.{told_pick}
use Rattle.books.specs.Calls.{check_of, check_table_of, fill_of, filled, pick_of, picked}

-- what an answer is told as decides the answer
pick_once : (a b : Result ℕ Refusal) → told_pick a ≡ told_pick b → a ≡ b
pick_once = told_by_once _ (λ start other e. cc)

pub one_check : (book : List ℕ) (a b : Result ⊤ Refusal) → told_plain a ≡ check_of book → told_plain b ≡ check_of book → a ≡ b
one_check book a b p q = plain_once a b (p ∙ sym q)

pub one_check_table : (book table : List ℕ) (a b : Result ⊤ Refusal) → told_plain a ≡ check_table_of book table → told_plain b ≡ check_table_of book table → a ≡ b
one_check_table book table a b p q = plain_once a b (p ∙ sym q)

pub one_fill : (book table t u : List ℕ) (a b : Result ⊤ Refusal) → (told_plain a ≡ fill_of book table) × (t ≡ filled book table)
    → (told_plain b ≡ fill_of book table) × (u ≡ filled book table) → (a ≡ b) × (t ≡ u)
one_fill book table t u a b p q = (plain_once a b (p.0 ∙ sym q.0), p.1 ∙ sym q.1)

pub one_place : (set : List ℕ) (phase : ℕ) (a b : Result ℕ Refusal) → told_pick a ≡ pick_of set phase → told_pick b ≡ pick_of set phase → a ≡ b
one_place set phase a b p q = pick_once a b (p ∙ sym q)

pub one_part : (set : List ℕ) (phase : ℕ) (r s : List ℕ) → r ≡ picked set phase → s ≡ picked set phase → r ≡ s
one_part set phase r s p q = p ∙ sym q
