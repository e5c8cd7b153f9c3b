-- No second outcome satisfies what a public call promises. Assumes nothing.
use mathlib.Core.Path.{◌≡◌, sym, ◌∙◌}
use mathlib.Core.List.{List}
use Prim.Native.Nat.{ℕ}
use Rattle.std.specs.Prelude.{Result}
use Rattle.refusals.specs.Told.{told_number}
use Rattle.refusals.specs.declared.Refusal.{Refusal}
use Rattle.refusals.proofs.Only.{number_once}
use Rattle.tables.specs.Calls.{list_of_items, extract_into, walk_into}

pub one_extract : (s e : List ℕ) (lg v c : ℕ) (out o p : List ℕ) (a b : Result ℕ Refusal)
    → (told_number a ≡ list_of_items s e lg v c out) × (o ≡ extract_into s e lg v c out)
    → (told_number b ≡ list_of_items s e lg v c out) × (p ≡ extract_into s e lg v c out) → (a ≡ b) × (o ≡ p)
one_extract s e lg v c out o p a b x y = (number_once a b (x.0 ∙ sym y.0), x.1 ∙ sym y.1)

pub one_walk : (s e : List ℕ) (lg v c : ℕ) (out o p : List ℕ) (a b : Result ℕ Refusal)
    → (told_number a ≡ list_of_items s e lg v c out) × (o ≡ walk_into s e lg v c out)
    → (told_number b ≡ list_of_items s e lg v c out) × (p ≡ walk_into s e lg v c out) → (a ≡ b) × (o ≡ p)
one_walk s e lg v c out o p a b x y = (number_once a b (x.0 ∙ sym y.0), x.1 ∙ sym y.1)
