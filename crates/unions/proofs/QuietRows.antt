-- Rows without a surprise: words that are 0 only there. Assumes nothing.
use mathlib.Core.Path.{◌≡◌, sym, ◌∙◌, subst}
use mathlib.Core.Logic.{⊎_elim}
use mathlib.Core.Bool.{Bool}
use mathlib.Core.List.{List}
use Prim.Native.Nat.{ℕ, ◌+◌, ◌≤◌, ◌<◌}
use native.Mathlib.Omega.{arith}
use lib.Bits.{bit_or, or_add_and, and_le_l, and_le_r}
use lib.ListN.{get_or}
use Rattle.laws.proofs.Orders.{lt_or_le}
use Rattle.matrices.specs.Parts.{surprise_word}
use Rattle.unions.specs.Steps.{QuietIf}

or_none : (a b : ℕ) → bit_or a b ≡ 0 → (a ≡ 0) × (b ≡ 0)
or_none a b e = (omega (arith, or_add_and a b, and_le_l a b, and_le_r a b), omega (arith, or_add_and a b, and_le_l a b, and_le_r a b))

module _ (wide : Bool) (o : ℕ) (m : List ℕ) where
  pub quiet_row : (w r : ℕ) → w ≡ surprise_word wide o (get_or m r 0) → QuietIf w wide o m r (r + 1)
  quiet_row w r e = record { none = λ z t h l. let q : r ≡ t = omega arith in subst (λ (x : ℕ). surprise_word wide o (get_or m x 0) ≡ 0) q (sym e ∙ z) }

  -- two stretches, one after the other
  pub quiet_both : (a b from mid to : ℕ) → QuietIf a wide o m from mid → QuietIf b wide o m mid to → QuietIf (bit_or a b) wide o m from to
  quiet_both a b from mid to p q = record {
    none = λ z t h l.
        let e = or_none a b z in
        ⊎_elim (λ (g : t < mid). p.none e.0 t h g) (λ (g : mid ≤ t). q.none e.1 t g l) (lt_or_le t mid);
  }
