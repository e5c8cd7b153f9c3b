-- What a shape says, by lg_k and coupons. Assumes nothing.
use mathlib.Core.Path.{◌≡◌, refl, sym, ap, ap₂, ◌∙◌, subst}
use mathlib.Core.Bool.{Bool, true, false}
use mathlib.Core.List.{[], ◌∷◌}
use Prim.Native.Nat.{ℕ, ◌*◌, ◌^◌, ◌≤◌}
use borrow.Author.Tests.{le-ltb, ltb-false}
use native.Mathlib.Omega.{arith}
use lib.Dec.{ltb}
use lib.Pow.{pow_mono}
use Rattle.laws.specs.Choose.{choose}
use Rattle.refusals.specs.Outcome.{Outcome, accepted, refused}
use Rattle.refusals.specs.Told.{told}
use Rattle.refusals.specs.declared.Refusal.{Refusal}
use Rattle.refusals.proofs.Only.{never_accepted}
use Rattle.numbers.specs.Calls.{outside}
use Rattle.numbers.specs.Numbers.{flavor_at, offset_at}
use Rattle.numbers.specs.declared.size.SketchSize.{SketchSize}
use Rattle.matrices.specs.Parts.{windowed}
use Rattle.matrices.specs.Source.{has_window}
use Rattle.unions.specs.Steps.{shape_judged}
use Rattle.unions.specs.declared.shape.Shape.{Shape}

module _ (s : Shape) where
  pub window_is : windowed s.flavor ≡ has_window (2 ^ s.size.lg) s.coupons
  window_is = ap windowed (s.flavored ∙ ap (λ (k : ℕ). flavor_at k s.coupons) s.size.power)

  pub offset_is : s.offset.column ≡ offset_at (2 ^ s.size.lg) s.coupons
  offset_is = s.placed ∙ ap (λ (k : ℕ). offset_at k s.coupons) s.size.power

  pub most_is : s.coupons ≤ 64 * 2 ^ s.size.lg
  most_is = subst (λ (k : ℕ). s.coupons ≤ 64 * k) s.size.power s.most

-- a size is not outside
pub inside_of : (size : SketchSize) → outside size.lg ≡ false
inside_of size = rw (le-ltb size.lg 4 size.low, le-ltb 26 size.lg size.high) refl

-- a matrix has no more coupons than 64k, so that it has a shape
pub shape_never : (size : SketchSize) (c : ℕ) (why : Refusal) (x : Outcome) → c ≤ 64 * size.k → told why ≡ shape_judged size.lg c → told why ≡ x
unfolding shape_judged
shape_never size c why x m e =
    absurd
    (never_accepted why []
    (sym (e ∙ ap₂ (λ (a b : Bool). choose a (refused 1 0) (choose b (refused 17 0) (accepted []))) (inside_of size) (le-ltb (64 * 2 ^ size.lg) c (subst (λ (k : ℕ). c ≤ 64 * k) size.power m)))))

given_by : (k c o : ℕ) (b : Bool) → ltb (64 * k) c ≡ b → accepted (o ∷ []) ≡ choose b (refused 17 0) (accepted (offset_at k c ∷ [])) → (c ≤ 64 * k) × (o ≡ offset_at k c)
given_by k c o true q e = let z : ◌≡◌ {A = ℕ} 0 1 = cc in absurd (omega arith)
given_by k c o false q e = (ltb-false (64 * k) c q, cc)

-- an offset that is given is that of the coupons, which are not too many
pub column_given : (k c o : ℕ) → accepted (o ∷ []) ≡ choose (ltb (64 * k) c) (refused 17 0) (accepted (offset_at k c ∷ [])) → (c ≤ 64 * k) × (o ≡ offset_at k c)
column_given k c o e = given_by k c o (ltb (64 * k) c) refl e

-- a size of no more lg_k has no more rows
pub size_least : (a b : SketchSize) → a.lg ≤ b.lg → a.k ≤ b.k
size_least a b h = omega (arith, a.power, b.power, pow_mono h)
