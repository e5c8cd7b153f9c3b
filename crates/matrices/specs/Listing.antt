-- Pairs as an increasing list. Assumes nothing.
use Rattle.std.specs.Prelude.{ℕ, zero, suc, ◌+◌, Bool, true, false, List, [], ◌∷◌, ◌++◌, eqb, length, get_or}
use Rattle.laws.specs.Below.{any_below}

-- x alone if the test holds, else nothing
abbrev pub only : Bool → ℕ → List ℕ
only true x = x ∷ []
only false x = []

-- those of a, a+1, .., a+n-1 that pass the test, in this order
unfoldable pub list_from : ℕ → ℕ → (ℕ → Bool) → List ℕ
list_from a zero p = []
list_from a (suc n) p = list_from a n p ++ only (p (a + n)) (a + n)

-- p is one of the pairs
unfoldable pub in_list : List ℕ → ℕ → Bool
in_list ps p = any_below (length ps) (λ i. eqb (get_or ps i 0) p)
