-- The window's mask. Assumes nothing.
use mathlib.Core.Path.{◌≡◌, sym, ◌∙◌}
use mathlib.Core.Logic.{⊎_elim}
use Prim.Native.Nat.{ℕ, ◌+◌, ◌-◌, ◌*◌, ◌^◌, ◌≤◌, ◌<◌}
use native.Mathlib.Nat.{not-le_of_lt}
use native.Mathlib.Omega.{arith}
use borrow.Author.Tests.{lt-ltb, le-ltb, le-leb, lt-leb}
use lib.Dec.{ltb}
use Rattle.laws.specs.Columns.{has}
use Rattle.laws.proofs.Columns.{has_shl, has_ones}
use Rattle.laws.proofs.Orders.{lt_or_le}
use Rattle.matrices.specs.Matrix.{in_window}

ltb_same : (a b c d : ℕ) → (a < b → c < d) → (c < d → a < b) → ltb a b ≡ ltb c d
ltb_same a b c d f g =
    ⊎_elim (λ (h : a < b). lt-ltb a b h ∙ sym (lt-ltb c d (f h)))
    (λ (h : b ≤ a). le-ltb a b h ∙ sym (⊎_elim (λ (l : c < d). absurd (not-le_of_lt (g l) h)) (λ (l : d ≤ c). le-ltb c d l) (lt_or_le c d)))
    (lt_or_le a b)

-- `255 << o`
pub has_window : (o c : ℕ) → has (255 * 2 ^ o) c ≡ in_window o c
has_window o c =
    has_shl 255 o c
    ∙ ⊎_elim (λ (h : c < o). rw (lt-leb o c h))
    (λ (h : o ≤ c). rw (le-leb o c h) (has_ones 8 (c - o) ∙ ltb_same (c - o) 8 c (o + 8) (λ l. omega arith) (λ l. omega arith)))
    (lt_or_le c o)
