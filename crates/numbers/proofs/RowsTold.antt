-- What `rows` tells its callers: refusal 1, or k and its bounds. Assumes nothing.
use mathlib.Core.Path.{◌≡◌, refl, sym, ap, ◌∙◌}
use mathlib.Core.Bool.{Bool, true, false, ◌||◌}
use mathlib.Core.List.{[], ◌∷◌}
use Prim.Native.Nat.{ℕ, ◌^◌, ◌≤◌}
use native.Mathlib.Omega.{arith}
use borrow.Author.Tests.{ltb-false}
use lib.Dec.{ltb}
use lib.Pow.{pow_mono}
use Rattle.std.specs.Prelude.{Result, Ok, Err}
use Rattle.laws.specs.Choose.{choose}
use Rattle.refusals.specs.Outcome.{Outcome, accepted, refused}
use Rattle.refusals.specs.Told.{told, told_number}
use Rattle.refusals.specs.declared.Refusal.{Refusal}
use Rattle.numbers.specs.Calls.{outside, rows_of}
use Rattle.refusals.specs.declared.Refusal.TheVariants.{LgOutside}
use Rattle.refusals.proofs.Only.{told_once, never_accepted}

-- k is the number of rows at an lg_k from 4 to 26
pub record RowsAt (lg k : ℕ) : Type 0 where
  pub inside : outside lg ≡ false
  pub low : 4 ≤ lg
  pub high : lg ≤ 26
  pub power : k ≡ 2 ^ lg
  pub least : 16 ≤ k
  pub most : k ≤ 2 ^ 26

given_by : (lg k : ℕ) (a b : Bool) → ltb lg 4 ≡ a → ltb 26 lg ≡ b → accepted (k ∷ []) ≡ choose (a || b) (refused 1 0) (accepted (2 ^ lg ∷ [])) → RowsAt lg k
given_by lg k true b p q e = let z : ◌≡◌ {A = ℕ} 0 1 = cc in absurd (omega arith)
given_by lg k false true p q e = let z : ◌≡◌ {A = ℕ} 0 1 = cc in absurd (omega arith)
given_by lg k false false p q e =
    let is : k ≡ 2 ^ lg = cc in
    let l : 4 ≤ lg = ltb-false lg 4 p in
    let h : lg ≤ 26 = ltb-false 26 lg q in
    record {
      inside = rw (p, q);
      low = l;
      high = h;
      power = is;
      least = omega (arith, pow_mono l);
      most = omega (arith, pow_mono h);
    }

pub rows_given : (lg k : ℕ) → told_number (Ok k) ≡ rows_of lg → RowsAt lg k
unfolding rows_of
rows_given lg k e = given_by lg k (ltb lg 4) (ltb 26 lg) refl refl e

refused_by : (lg : ℕ) (why : Refusal) (out : Bool) → told why ≡ choose out (refused 1 0) (accepted (2 ^ lg ∷ [])) → (out ≡ true) × (told why ≡ refused 1 0)
refused_by lg why true e = (refl, e)
refused_by lg why false e = absurd (never_accepted why _ (sym e))

pub rows_refused : (lg : ℕ) (why : Refusal) → told_number (Err why) ≡ rows_of lg → (outside lg ≡ true) × (told why ≡ refused 1 0)
unfolding rows_of
rows_refused lg why e = refused_by lg why (outside lg) e

-- which of the refusals that is
pub rows_outside : (lg : ℕ) (why : Refusal) → told why ≡ rows_of lg → (why ≡ LgOutside) × (outside lg ≡ true)
rows_outside lg why e = let out = rows_refused lg why e in (told_once why LgOutside out.1, out.0)

-- the same for a match on what `rows` answered
pub matched_rows : {r : Result ℕ Refusal} {lg k : ℕ} → told_number r ≡ rows_of lg → r ≡ Ok k → RowsAt lg k
matched_rows e is = rows_given _ _ (sym (ap told_number is) ∙ e)

pub matched_refused : {r : Result ℕ Refusal} {why : Refusal} (lg : ℕ) → told_number r ≡ rows_of lg → r ≡ Err why → (x : Outcome) → told why ≡ choose (outside lg) (refused 1 0) x
matched_refused {why} lg e is x =
    let out = rows_refused lg why (sym (ap told_number is) ∙ e) in
    rw out.0 out.1
