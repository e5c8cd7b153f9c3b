-- No second outcome satisfies what an exported call promises: one law for the calls that answer, one for those that write into a lent part besides,
-- one for those that write into two, a table's region and spare; and one for the version. Assumes nothing.
use mathlib.Core.Path.{◌≡◌, sym, ◌∙◌}
use mathlib.Core.List.{List}
use Prim.Native.Nat.{ℕ}
use Rattle.refusals.specs.Outcome.{Outcome}
use Rattle.bridgenook.specs.Exports.{Says}
use Rattle.bridgenook.specs.Version.{version}

pub one_answer : (o : Outcome) (r s : ℕ) (a b : List ℕ) → Says o r a → Says o s b → (r ≡ s) × (a ≡ b)
one_answer o r s a b p q = (p.0 ∙ sym q.0, p.1 ∙ sym q.1)

pub one_lent : (o : Outcome) (after : List ℕ) (r s : ℕ) (a b t u : List ℕ) → Says o r a × (t ≡ after) → Says o s b × (u ≡ after) → (r ≡ s) × (a ≡ b) × (t ≡ u)
one_lent o after r s a b t u p q = let answers = one_answer o r s a b p.0 q.0 in (answers.0, answers.1, p.1 ∙ sym q.1)

pub two_lent : (o : Outcome) (region spare : List ℕ) (r s : ℕ) (a b t u v w : List ℕ) → Says o r a × (t ≡ region) × (v ≡ spare)
    → Says o s b × (u ≡ region) × (w ≡ spare) → (r ≡ s) × (a ≡ b) × (t ≡ u) × (v ≡ w)
two_lent o region spare r s a b t u v w p q =
    let lent = one_lent o region r s a b t u (p.0, p.1) (q.0, q.1) in (lent.0, lent.1, lent.2, p.2 ∙ sym q.2)

pub one_version : (r s : ℕ) → r ≡ version → s ≡ version → r ≡ s
one_version r s p q = p ∙ sym q
