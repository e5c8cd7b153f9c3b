-- No second outcome satisfies what the two reading calls promise. Assumes nothing.
use mathlib.Core.Path.{◌≡◌, sym, ◌∙◌}
use mathlib.Core.List.{List}
use Prim.Native.Nat.{ℕ}
use Rattle.std.specs.Prelude.{Result, ⊤}
use Rattle.refusals.specs.Told.{told_plain}
use Rattle.refusals.specs.declared.Refusal.{Refusal}
use Rattle.refusals.proofs.Only.{plain_once}
use Rattle.streams.specs.Calls.{read_pairs_of, pairs_read, read_window_of, window_read}

pub one_read_pairs : (book table : List ℕ) (lg count : ℕ) (stream out o p : List ℕ) (a b : Result ⊤ Refusal)
    → (told_plain a ≡ read_pairs_of book table lg count stream out) × (o ≡ pairs_read book table lg count stream out)
    → (told_plain b ≡ read_pairs_of book table lg count stream out) × (p ≡ pairs_read book table lg count stream out) → (a ≡ b) × (o ≡ p)
one_read_pairs book table lg count stream out o p a b x y = (plain_once a b (x.0 ∙ sym y.0), x.1 ∙ sym y.1)

pub one_read_window : (book table : List ℕ) (lg : ℕ) (stream window o p : List ℕ) (a b : Result ⊤ Refusal)
    → (told_plain a ≡ read_window_of book table lg stream window) × (o ≡ window_read book table lg stream window)
    → (told_plain b ≡ read_window_of book table lg stream window) × (p ≡ window_read book table lg stream window) → (a ≡ b) × (o ≡ p)
one_read_window book table lg stream window o p a b x y = (plain_once a b (x.0 ∙ sym y.0), x.1 ∙ sym y.1)
