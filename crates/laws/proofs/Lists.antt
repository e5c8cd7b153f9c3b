-- A list that is given by a function. Assumes nothing.
use mathlib.Core.Path.{◌≡◌, refl, ap}
use mathlib.Core.List.{List, [], ◌∷◌, ◌++◌}
use Prim.Native.Nat.{ℕ, zero, suc, ◌<◌}
use native.Mathlib.Omega.{arith}
use lib.ListN.{length, get_or}
use Rattle.laws.specs.Lists.{list_of}

pub length_list_of : (n : ℕ) (f : ℕ → ℕ) → length (list_of n f) ≡ n
unfolding list_of
length_list_of zero f = refl
length_list_of (suc n) f = ap suc (length_list_of n (λ i. f (suc i)))

pub get_d_list_of : (n : ℕ) (f : ℕ → ℕ) (i : ℕ) → i < n → get_or (list_of n f) i 0 ≡ f i
unfolding list_of
get_d_list_of zero f i l = absurd (omega arith)
get_d_list_of (suc n) f zero l = refl
get_d_list_of (suc n) f (suc i) l = get_d_list_of n (λ i. f (suc i)) i (omega arith)

-- with one more at the end
pub list_of_snoc : (n : ℕ) (f : ℕ → ℕ) → list_of (suc n) f ≡ list_of n f ++ (f n ∷ [])
unfolding list_of
list_of_snoc zero f = refl
list_of_snoc (suc n) f = ap (λ (l : List ℕ). f zero ∷ l) (list_of_snoc n (λ i. f (suc i)))
