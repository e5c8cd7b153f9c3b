-- No second outcome satisfies what the two writing calls promise. Assumes nothing.
use mathlib.Core.Path.{◌≡◌, sym, ◌∙◌}
use mathlib.Core.List.{List}
use Prim.Native.Nat.{ℕ}
use Rattle.std.specs.Prelude.{Result}
use Rattle.refusals.specs.Told.{told_length}
use Rattle.refusals.specs.declared.Refusal.{Refusal}
use Rattle.refusals.specs.declared.units.StreamLength.{StreamLength}
use Rattle.refusals.proofs.Only.{length_once}
use Rattle.streams.specs.Calls.{write_pairs_of, pairs_written, write_window_of, window_written}

pub one_pairs : (book : List ℕ) (lg : ℕ) (pairs out o p : List ℕ) (a b : Result StreamLength Refusal)
    → (told_length a ≡ write_pairs_of book lg pairs out) × (o ≡ pairs_written book lg pairs out)
    → (told_length b ≡ write_pairs_of book lg pairs out) × (p ≡ pairs_written book lg pairs out) → (a ≡ b) × (o ≡ p)
one_pairs book lg pairs out o p a b x y = (length_once a b (x.0 ∙ sym y.0), x.1 ∙ sym y.1)

pub one_window : (book : List ℕ) (lg : ℕ) (window out o p : List ℕ) (a b : Result StreamLength Refusal)
    → (told_length a ≡ write_window_of book lg window out) × (o ≡ window_written book lg window out)
    → (told_length b ≡ write_window_of book lg window out) × (p ≡ window_written book lg window out) → (a ≡ b) × (o ≡ p)
one_window book lg window out o p a b x y = (length_once a b (x.0 ∙ sym y.0), x.1 ∙ sym y.1)
