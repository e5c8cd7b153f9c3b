-- What is judged of what is lent, step by step: 1, 17, 2, and what follows. Assumes nothing.
use mathlib.Core.Path.{◌≡◌, refl, sym, ap, ◌∙◌}
use mathlib.Core.Bool.{Bool, true, false, ◌||◌}
use mathlib.Core.List.{List, []}
use Prim.Native.Nat.{ℕ, ◌*◌, ◌^◌}
use lib.Dec.{ltb}
use lib.ListN.{length}
use Rattle.laws.specs.Choose.{choose}
use Rattle.refusals.specs.Outcome.{Outcome, accepted, refused, and_then}
use Rattle.numbers.specs.Calls.{outside}
use Rattle.matrices.specs.Calls.{wrong_rows, expand_of}
use Rattle.matrices.specs.Source.{wrong_window, source_judged}
use Rattle.unions.specs.Steps.{lent_judged}

-- a chain that goes on is the chain, then what follows
goes_on : (a b d : Bool) (x : Outcome)
    → choose a (refused 1 0) (choose b (refused 17 0) (choose d (refused 2 0) x))
    ≡ and_then (choose a (refused 1 0) (choose b (refused 17 0) (choose d (refused 2 0) (accepted [])))) x
goes_on true b d x = refl
goes_on false true d x = refl
goes_on false false true x = refl
goes_on false false false x = refl

or_same : (b : Bool) → b ≡ (b || b)
or_same true = refl
or_same false = refl

pub expand_chain : (lg c : ℕ) (window ps m : List ℕ) → and_then (lent_judged lg (length m) lg c (length window)) (source_judged lg c window ps) ≡ expand_of lg c window ps m
unfolding lent_judged expand_of
expand_chain lg c window ps m =
    sym (goes_on (outside lg || outside lg) (ltb (64 * 2 ^ lg) c) (wrong_rows lg m || wrong_window (2 ^ lg) c window) (source_judged lg c window ps))
    ∙ ap (λ (a : Bool). choose a (refused 1 0) (choose (ltb (64 * 2 ^ lg) c) (refused 17 0) (choose (wrong_rows lg m || wrong_window (2 ^ lg) c window) (refused 2 0) (source_judged lg c window ps)))) (sym (or_same (outside lg)))
