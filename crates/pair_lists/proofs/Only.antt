-- No second outcome satisfies what the public call promises. Assumes nothing.
use mathlib.Core.Path.{◌≡◌, sym, ◌∙◌}
use mathlib.Core.List.{List}
use Prim.Native.Nat.{ℕ}
use Rattle.std.specs.Prelude.{Result, ⊤}
use Rattle.refusals.proofs.Only.{plain_once}
use Rattle.refusals.specs.Told.{told_plain}
use Rattle.refusals.specs.declared.Refusal.{Refusal}
use Rattle.pair_lists.specs.Lists.{judge_pairs_of}

pub one_judgement : (lg : ℕ) (list : List ℕ) (a b : Result ⊤ Refusal) → told_plain a ≡ judge_pairs_of lg list → told_plain b ≡ judge_pairs_of lg list → a ≡ b
one_judgement lg list a b p q = plain_once a b (p ∙ sym q)
