-- A list of pairs: lawful, and strictly increasing. A pair is 64·row + column. Assumes nothing.
use Rattle.std.specs.Prelude.{ℕ, suc, ◌/◌, ◌^◌, not, List, [], ◌∷◌, ltb, eqb}
use Rattle.laws.specs.Choose.{choose}
use Rattle.refusals.specs.Outcome.{Outcome, accepted, refused}
use Rattle.numbers.specs.Calls.{outside}

-- the first faulty pair (8, 11, 10): its row is not below k, it is not above the one before (so below `least`), or it is the reserved number;
-- the pairs are counted from `place`
unfoldable pub judged_from : ℕ → ℕ → ℕ → List ℕ → Outcome
judged_from k place least [] = accepted []
judged_from k place least (pair ∷ more) =
    choose (not (ltb (pair / 64) k)) (refused 8 place)
    (choose (ltb pair least) (refused 11 place)
    (choose (eqb pair 4294967295) (refused 10 place) (judged_from k (suc place) (suc pair) more)))

abbrev pub pairs_judged : ℕ → List ℕ → Outcome
pairs_judged k pairs = judged_from k 0 0 pairs

-- 1, then the first faulty pair
unfoldable pub judge_pairs_of : ℕ → List ℕ → Outcome
judge_pairs_of lg pairs = choose (outside lg) (refused 1 0) (pairs_judged (2 ^ lg) pairs)
