-- `unions::words::with_column_from` meets its contract. Assumes nothing.
use mathlib.Core.Path.{◌≡◌, sym, ap, ◌∙◌}
use mathlib.Core.Logic.{⊎_elim}
use mathlib.Core.Bool.{Bool, false, ◌&&◌, ◌||◌}
use Prim.Native.Nat.{ℕ, ◌≤◌, ◌<◌, ◌%◌}
use native.Mathlib.Omega.{arith}
use borrow.Author.Tests.{le-leb, lt-leb, ne_eqb}
use lib.Dec.{eqb, leb}
use Rattle.laws.specs.Columns.{has}
use Rattle.laws.proofs.Orders.{same_or_not}
use Rattle.laws.proofs.Truths.{and_false, or_false}
use Rattle.laws.proofs.Words.{word_is, word_of_same}
use Rattle.unions.proofs.words.with_column_from.Goals as goal

-- a column before the first is none
before : (first j c : ℕ) → j < first → (leb first c && eqb c j) ≡ false
before first j c h =
    ⊎_elim (λ (e : c ≡ j). ap (λ (t : Bool). t && eqb c j) (lt-leb first c (omega arith)))
    (λ (n : c ≡ j → ⊥). ap (λ (t : Bool). leb first c && t) (ne_eqb c j n) ∙ and_false (leb first c)) (same_or_not c j)

-- any other is that column
after : (first j c : ℕ) → first ≤ j → eqb c j ≡ (leb first c && eqb c j)
after first j c h =
    ⊎_elim (λ (e : c ≡ j). sym (ap (λ (t : Bool). t && eqb c j) (le-leb first c (omega arith))))
    (λ (n : c ≡ j → ⊥). ne_eqb c j n ∙ sym (ap (λ (t : Bool). leb first c && t) (ne_eqb c j n) ∙ and_false (leb first c))) (same_or_not c j)

pub returns-then-from-first : goal.returns-then-from-first
returns-then-from-first c = let a = c.args in
    word_is 64 a.w _ c.ranges.w.fits (λ d l. sym (ap (λ (t : Bool). has a.w d || t) (before a.first (a.pair % 64) d (omega (arith, c.from.ensures, c.if-from-first.true))) ∙ or_false (has a.w d)))

pub returns : goal.returns
returns c = let a = c.args in
    c.with_column.ensures ∙ word_of_same 64 _ _ (λ d l. ap (λ (t : Bool). has a.w d || t) (after a.first (a.pair % 64) d (omega (arith, c.from.ensures, c.if-from-first.false))))
