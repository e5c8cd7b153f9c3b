-- What a lawful union is, and the pass that looks for a row that is not zero. Assumes nothing.
use mathlib.Core.Path.{◌≡◌, sym, ap, ap₂, ◌∙◌}
use mathlib.Core.Logic.{⊎_elim}
use mathlib.Core.Bool.{Bool, true, false, not, ◌&&◌, ◌||◌, true≢false}
use mathlib.Core.List.{List}
use Prim.Native.Nat.{ℕ, ◌^◌, ◌≤◌, ◌<◌}
use borrow.Author.Tests.{lt-ltb, le-ltb, le-leb, leb-true, eqb-true, eq-eqb, ne_eqb, not-true}
use lib.Dec.{eqb, leb, ltb}
use lib.ListN.{length, get_or, get_or-eq_default}
use Rattle.laws.specs.Below.{every_below}
use Rattle.laws.proofs.Below.{every_at, every_of}
use Rattle.laws.proofs.Orders.{lt_or_le}
use Rattle.laws.proofs.Truths.{and_left, and_right, never_true}
use Rattle.matrices.specs.Matrix.{reserved}
use Rattle.matrices.specs.Calls.{lawful_union}

-- ---- rows from k on are zero

-- the test of a lawful union, for all rows
abbrev pub zero_from : ℕ → List ℕ → Bool
zero_from k m = every_below (length m) (λ r. ltb r k || eqb (get_or m r 0) 0)

module _ (k : ℕ) (m : List ℕ) where
  -- no row from k on was found that is not zero
  pub zero_passed : ((r : ℕ) → k ≤ r → r < length m → get_or m r 0 ≡ 0) → zero_from k m ≡ true
  zero_passed h =
      every_of (length m) (λ r. ltb r k || eqb (get_or m r 0) 0)
      (λ r l.
      ⊎_elim (λ (b : r < k). ap (λ (t : Bool). t || eqb (get_or m r 0) 0) (lt-ltb r k b))
      (λ (b : k ≤ r). ap₂ ◌||◌ (le-ltb r k b) (eq-eqb (get_or m r 0) 0 (h r b l))) (lt_or_le r k))

  -- one was found
  pub zero_failed : (r : ℕ) → k ≤ r → r < length m → (get_or m r 0 ≡ 0 → ⊥) → zero_from k m ≡ false
  zero_failed r b l n =
      never_true (zero_from k m)
      (λ e.
      true≢false (sym (every_at (length m) (λ t. ltb t k || eqb (get_or m t 0) 0) e r l) ∙ ap₂ ◌||◌ (le-ltb r k b) (ne_eqb (get_or m r 0) 0 n)))

  -- past the matrix there is nothing either
  pub zero_row : zero_from k m ≡ true → (r : ℕ) → k ≤ r → get_or m r 0 ≡ 0
  zero_row e r b =
      ⊎_elim
      (λ (l : r < length m).
      eqb-true (get_or m r 0) 0 (sym (ap (λ (t : Bool). t || eqb (get_or m r 0) 0) (le-ltb r k b)) ∙ every_at (length m) (λ t. ltb t k || eqb (get_or m t 0) 0) e r l))
      (λ (l : length m ≤ r). get_or-eq_default m 0 l) (lt_or_le r (length m))

-- ---- a lawful union

pub record Lawful (lg present : ℕ) (m : List ℕ) : Type 0 where
  pub least : 4 ≤ present
  pub most : present ≤ lg
  pub rest : (r : ℕ) → 2 ^ present ≤ r → get_or m r 0 ≡ 0
  pub clear : reserved lg m ≡ false

-- the test that gives 15 finds just this
pub lawful_is : (lg present : ℕ) (m : List ℕ) → lawful_union lg present m ≡ true → Lawful lg present m
unfolding lawful_union
lawful_is lg present m e =
    let a = and_left (leb 4 present && leb present lg) _ e in
    let b = and_right (leb 4 present && leb present lg) _ e in
    record {
      least = leb-true 4 present (and_left (leb 4 present) (leb present lg) a);
      most = leb-true present lg (and_right (leb 4 present) (leb present lg) a);
      rest = zero_row (2 ^ present) m (and_left (zero_from (2 ^ present) m) (not (reserved lg m)) b);
      clear = not-true (reserved lg m) (and_right (zero_from (2 ^ present) m) (not (reserved lg m)) b);
    }

-- and nothing else
pub lawful_of : (lg present : ℕ) (m : List ℕ) → Lawful lg present m → lawful_union lg present m ≡ true
unfolding lawful_union
lawful_of lg present m l =
    ap₂ ◌&&◌ (ap₂ ◌&&◌ (le-leb 4 present l.least) (le-leb present lg l.most))
    (ap₂ ◌&&◌ (zero_passed (2 ^ present) m (λ r b h. l.rest r b)) (ap not l.clear))
