-- One pair that is read: what its looks found, and the judgement. Assumes nothing.
use mathlib.Core.Path.{◌≡◌, refl, sym, ap, ap₂, ◌∙◌, subst}
use mathlib.Core.Bool.{Bool, true, false, not}
use mathlib.Core.List.{List}
use Prim.Native.Nat.{ℕ, ◌+◌, ◌*◌, ◌^◌, ◌<◌}
use native.Mathlib.Omega.{arith}
use borrow.Author.Tests.{lt-ltb, ne_eqb, ltb-true, eqb-false, not-false}
use lib.Dec.{ltb, eqb}
use Rattle.laws.specs.Choose.{choose}
use Rattle.streams.specs.Written.{predicted}
use Rattle.streams.specs.Looks.{Looked, found, cut, code_at, row_step_at}
use Rattle.streams.specs.Read.{Step, pair, fault, then_step, step_judged, pair_at, whole, Reading, on_pair}

-- ---- the looks

-- a code and a row step were found
pub record Made (n end : ℕ) (book : List ℕ) (b at column_step row_step q : ℕ) : Type 0 where
  pub middle : ℕ
  pub code : code_at n end book at ≡ found column_step middle
  pub step : row_step_at n end b middle ≡ found row_step q

-- the bit after a pair, or of a fault
abbrev pub bit_of : Step → ℕ
bit_of (pair row column next) = next
bit_of (fault number bit) = bit

-- the judgement of what the looks found
abbrev pub judgement : ℕ → ℕ → ℕ → ℕ → ℕ → ℕ → Step
judgement k row next column_step row_step bit =
    choose (not (ltb row_step (2 ^ 32))) (fault 7 bit) (step_judged k (row + row_step) (predicted row_step next + column_step) bit)

chosen_bit : (t : Bool) (number bit : ℕ) (s : Step) → bit_of s ≡ bit → bit_of (choose t (fault number bit) s) ≡ bit
chosen_bit true number bit s e = refl
chosen_bit false number bit s e = e

judged_bit : (k row next column_step row_step bit : ℕ) → bit_of (judgement k row next column_step row_step bit) ≡ bit
judged_bit k row next column_step row_step bit =
    chosen_bit (not (ltb row_step (2 ^ 32))) 7 bit _
    (chosen_bit (not (ltb (row + row_step) k)) 8 bit _
    (chosen_bit (not (ltb (predicted row_step next + column_step) 64)) 9 bit _
    (chosen_bit (eqb (64 * (row + row_step) + (predicted row_step next + column_step)) 4294967295) 10 bit _ refl)))

-- no look was cut
abbrev pub Uncut : Step → Type 0
Uncut s = s ≡ fault 6 (bit_of s) → ⊥

pub pair_uncut : (row column q : ℕ) → Uncut (pair row column q)
pair_uncut row column q e = let z : ◌≡◌ {A = ℕ} 0 1 = cc in omega arith

-- a look that found something, where none was cut
uncut : (r : Looked) (more : ℕ → ℕ → Step) (s : Step) → then_step r more ≡ s → Uncut s → (x : ℕ) × (p : ℕ) × (r ≡ found x p) × (more x p ≡ s)
uncut (found x p) more s e h = (x, p, refl, e)
uncut (cut p) more s e h = absurd (h (sym e ∙ ap (λ (s : Step). fault 6 (bit_of s)) e))

module _ (n end : ℕ) (book : List ℕ) (b k row next at : ℕ) where
  abbrev pub rest : ℕ → ℕ → Step
  rest column_step after = then_step (row_step_at n end b after) (judgement k row next column_step)

  pub pair_made : (s : Step) → pair_at n end book b k row next at ≡ s → Uncut s
      → (x : ℕ) × (y : ℕ) × Made n end book b at x y (bit_of s) × (judgement k row next x y (bit_of s) ≡ s)
  pair_made s e h =
      let f = uncut (code_at n end book at) rest s e h in
      let x : ℕ = f.0 in
      let g = uncut (row_step_at n end b f.1) (judgement k row next x) s f.3 h in
      let y : ℕ = g.0 in
      let bit : g.1 ≡ bit_of s = sym (judged_bit k row next x y g.1) ∙ ap bit_of g.3 in
      (x, y, record { middle = f.1; code = f.2; step = g.2 ∙ ap (found y) bit }, ap (judgement k row next x y) (sym bit) ∙ g.3)

  pub made_pair : {x y q : ℕ} → Made n end book b at x y q → pair_at n end book b k row next at ≡ judgement k row next x y q
  made_pair {x} m = ap (λ (r : Looked). then_step r rest) m.code ∙ ap (λ (r : Looked). then_step r (judgement k row next x)) m.step

-- ---- a pair

-- a pair that was read, after a row, where the column `next` is predicted in that row
pub record PairIs (n end : ℕ) (book : List ℕ) (b k row next at row' column q : ℕ) : Type 0 where
  pub column_step : ℕ
  pub row_step : ℕ
  pub made : Made n end book b at column_step row_step q
  pub small : row_step < 2 ^ 32
  pub row_is : row' ≡ row + row_step
  pub column_is : column ≡ predicted row_step next + column_step
  pub below : row' < k
  pub inside : column < 64
  pub lawful : 64 * row' + column ≡ 4294967295 → ⊥

-- a pair that is judged did not stop at its first test
passed : (t : Bool) (number bit : ℕ) (s : Step) (row column q : ℕ) → choose t (fault number bit) s ≡ pair row column q → (t ≡ false) × (s ≡ pair row column q)
passed true number bit s row column q e = let z : ◌≡◌ {A = ℕ} 0 1 = cc in absurd (omega arith)
passed false number bit s row column q e = (refl, e)

module _ (n end : ℕ) (book : List ℕ) (b k row next at row' column q : ℕ) where
  pub pair_is : pair_at n end book b k row next at ≡ pair row' column q → PairIs n end book b k row next at row' column q
  pair_is e =
      let m = pair_made n end book b k row next at (pair row' column q) e (pair_uncut row' column q) in
      let x : ℕ = m.0 in
      let y : ℕ = m.1 in
      let c : ℕ = predicted y next + x in
      let p7 = passed (not (ltb y (2 ^ 32))) 7 q (step_judged k (row + y) c q) row' column q m.3 in
      let p8 = passed (not (ltb (row + y) k)) 8 q _ row' column q p7.1 in
      let p9 = passed (not (ltb c 64)) 9 q _ row' column q p8.1 in
      let p10 = passed (eqb (64 * (row + y) + c) 4294967295) 10 q _ row' column q p9.1 in
      let same : pair (row + y) c q ≡ pair row' column q = p10.1 in
      let er : row + y ≡ row' = cc in
      let ec : c ≡ column = cc in
      record {
        column_step = x;
        row_step = y;
        made = m.2;
        small = ltb-true y (2 ^ 32) (not-false (ltb y (2 ^ 32)) p7.0);
        row_is = sym er;
        column_is = sym ec;
        below = subst (λ (r : ℕ). r < k) er (ltb-true (row + y) k (not-false (ltb (row + y) k) p8.0));
        inside = subst (λ (i : ℕ). i < 64) ec (ltb-true c 64 (not-false (ltb c 64) p9.0));
        lawful =
            λ (e : 64 * row' + column ≡ 4294967295).
            eqb-false (64 * (row + y) + c) 4294967295 p10.0 (ap₂ (λ (r i : ℕ). 64 * r + i) er ec ∙ e);
      }

  -- and back
  pub pair_found : PairIs n end book b k row next at row' column q → pair_at n end book b k row next at ≡ pair row' column q
  pair_found p =
      made_pair n end book b k row next at p.made
      ∙ ap₂ (λ (r c : ℕ). choose (not (ltb p.row_step (2 ^ 32))) (fault 7 q) (step_judged k r c q)) (sym p.row_is) (sym p.column_is)
      ∙ judged
    where
      judged : choose (not (ltb p.row_step (2 ^ 32))) (fault 7 q) (step_judged k row' column q) ≡ pair row' column q
      judged =
          rw (lt-ltb p.row_step (2 ^ 32) p.small, lt-ltb row' k p.below, lt-ltb column 64 p.inside, ne_eqb (64 * row' + column) 4294967295 p.lawful)

-- a reading that ended whole read a pair, and ended whole after it
pub on_pair_is : (s : Step) (more : ℕ → ℕ → ℕ → Reading) (last : ℕ) → (on_pair s more).ending ≡ whole last
    → (row : ℕ) × (column : ℕ) × (q : ℕ) × (s ≡ pair row column q) × ((more row column q).ending ≡ whole last)
on_pair_is (pair row column q) more last e = (row, column, q, refl, e)
on_pair_is (fault number bit) more last e = let z : ◌≡◌ {A = ℕ} 0 1 = cc in absurd (omega arith)
