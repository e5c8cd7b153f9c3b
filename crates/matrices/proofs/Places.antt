-- Refusal 14: the pass over the window, and the pass over the pairs; what it means that they find nothing. Assumes nothing.
use mathlib.Core.Path.{◌≡◌, refl, sym, ap, ap₂, ◌∙◌}
use mathlib.Core.Logic.{⊎_elim}
use mathlib.Core.Bool.{Bool, true, false, not, ◌&&◌, true≢false}
use mathlib.Core.List.{List, [], ◌∷◌}
use Prim.Native.Nat.{ℕ, zero, suc, ◌+◌, ◌-◌, ◌*◌, ◌/◌, ◌%◌, ◌^◌, ◌≤◌, ◌<◌}
use native.Mathlib.Nat.{not-suc-le-zero, le_of_suc-le-suc, zero-lt-suc}
use native.Mathlib.Numerals.{add-one}
use native.Mathlib.Omega.{arith}
use borrow.Author.Tests.{eq-eqb, ne_eqb, eqb-false, le-leb, lt-leb, leb-true, not-true}
use lib.Count.{count_trailing_zeros}
use lib.Dec.{eqb, leb}
use lib.ListN.{length, get_or, drop, drop_of_length-le, get_or-eq_default}
use lib.Pow.{shr_le}
use lib.Seq.{drop-cons}
use Rattle.laws.specs.Choose.{choose}
use Rattle.laws.specs.Columns.{has}
use Rattle.laws.proofs.Any.{any_find, any_of, any_none}
use Rattle.laws.proofs.Columns.{has_out, has_shr, has_zero}
use Rattle.laws.proofs.Orders.{lt_or_le}
use Rattle.laws.proofs.Trailing.{trailing_at, trailing_lt}
use Rattle.laws.proofs.Truths.{both_true, never_true, and_left, and_right, and_false}
use Rattle.refusals.specs.Outcome.{Outcome, accepted, refused}
use Rattle.refusals.proofs.Refusing.{took}
use Rattle.matrices.specs.Listing.{in_list}
use Rattle.matrices.specs.Matrix.{in_window}
use Rattle.matrices.specs.Source.{past_columns, window_judged, columns_judged}

-- ---- a pass that refuses at the first element with a fault

-- what holds at its head
pub record Passed (judge : ℕ → List ℕ → Outcome) (l : List ℕ) (i : ℕ) : Type 0 where
  pub within : i ≤ length l
  pub rest : judge i (drop i l) ≡ judge 0 l

module _ (faulty : ℕ → Bool) (judge : ℕ → List ℕ → Outcome) (none : (i : ℕ) → judge i [] ≡ accepted [])
    (one : (i x : ℕ) (more : List ℕ) → judge i (x ∷ more) ≡ choose (faulty x) (refused 14 i) (judge (suc i) more)) where
  pass_start : (l : List ℕ) → Passed judge l 0
  pass_start l = record { within = omega arith; rest = refl }

  pass_end : (l : List ℕ) (i : ℕ) → Passed judge l i → length l ≤ i → accepted [] ≡ judge 0 l
  pass_end l i p h = sym (none i) ∙ ap (judge i) (sym (drop_of_length-le l h)) ∙ p.rest

  here : (l : List ℕ) (i : ℕ) → Passed judge l i → i < length l → (t : Bool) → faulty (get_or l i 0) ≡ t
      → choose t (refused 14 i) (judge (suc i) (drop (suc i) l)) ≡ judge 0 l
  here l i p h t e =
      ap (λ (b : Bool). choose b (refused 14 i) (judge (suc i) (drop (suc i) l))) (sym e)
      ∙ sym (one i (get_or l i 0) (drop (suc i) l)) ∙ ap (judge i) (sym (drop-cons l i 0 h)) ∙ p.rest

  pass_stop : (l : List ℕ) (i : ℕ) → Passed judge l i → i < length l → faulty (get_or l i 0) ≡ true → refused 14 i ≡ judge 0 l
  pass_stop l i p h e = here l i p h true e

  pass_turn : (l : List ℕ) (i : ℕ) → Passed judge l i → i < length l → faulty (get_or l i 0) ≡ false → Passed judge l (i + 1)
  pass_turn l i p h e = record { within = omega arith; rest = ap (λ (n : ℕ). judge n (drop n l)) (add-one i) ∙ here l i p h false e }

  -- it is accepted exactly if no element has a fault
  pass_each : (i : ℕ) (l : List ℕ) → judge i l ≡ accepted [] → (j : ℕ) → j < length l → faulty (get_or l j 0) ≡ false
  pass_each i [] e j h = absurd (not-suc-le-zero h)
  pass_each i (x ∷ more) e zero h = (took (faulty x) (judge (suc i) more) 14 i [] (sym (one i x more) ∙ e)).0
  pass_each i (x ∷ more) e (suc j) h = pass_each (suc i) more (took (faulty x) (judge (suc i) more) 14 i [] (sym (one i x more) ∙ e)).1 j (le_of_suc-le-suc h)

  pass_all : (i : ℕ) (l : List ℕ) → ((j : ℕ) → j < length l → faulty (get_or l j 0) ≡ false) → judge i l ≡ accepted []
  pass_all i [] f = none i
  pass_all i (x ∷ more) f =
      one i x more ∙ ap (λ (b : Bool). choose b (refused 14 i) (judge (suc i) more)) (f 0 (zero-lt-suc _)) ∙ pass_all (suc i) more (λ j h. f (suc j) (omega arith))

  -- and then with no values
  pass_empty : (i : ℕ) (l own : List ℕ) → judge i l ≡ accepted own → judge i l ≡ accepted []
  pass_empty i [] own e = none i
  pass_empty i (x ∷ more) own e =
      let t = took (faulty x) (judge (suc i) more) 14 i own (sym (one i x more) ∙ e) in
      one i x more ∙ ap (λ (b : Bool). choose b (refused 14 i) (judge (suc i) more)) t.0 ∙ pass_empty (suc i) more own t.1

-- ---- the window

module _ (o : ℕ) where
  window_none : (i : ℕ) → window_judged o i [] ≡ accepted []
  unfolding window_judged
  window_none i = refl

  window_one : (i x : ℕ) (more : List ℕ) → window_judged o i (x ∷ more) ≡ choose (past_columns o x) (refused 14 i) (window_judged o (suc i) more)
  unfolding window_judged
  window_one i x more = refl

  -- the pass over the window: before the first byte
  pub window_start : (window : List ℕ) → Passed (window_judged o) window 0
  window_start = pass_start (past_columns o) (window_judged o) window_none window_one

  -- a byte without such a bit
  pub window_turn : (window : List ℕ) (i : ℕ) → Passed (window_judged o) window i → i < length window → past_columns o (get_or window i 0) ≡ false
      → Passed (window_judged o) window (i + 1)
  window_turn = pass_turn (past_columns o) (window_judged o) window_none window_one

  -- a byte with one: refused, with its row
  pub window_stop : (window : List ℕ) (i : ℕ) → Passed (window_judged o) window i → i < length window → past_columns o (get_or window i 0) ≡ true
      → refused 14 i ≡ window_judged o 0 window
  window_stop = pass_stop (past_columns o) (window_judged o) window_none window_one

  -- after the last byte
  pub window_end : (window : List ℕ) (i : ℕ) → Passed (window_judged o) window i → length window ≤ i → accepted [] ≡ window_judged o 0 window
  window_end = pass_end (past_columns o) (window_judged o) window_none window_one

  -- it is accepted with no values
  pub window_empty : (window own : List ℕ) → window_judged o 0 window ≡ accepted own → window_judged o 0 window ≡ accepted []
  window_empty = pass_empty (past_columns o) (window_judged o) window_none window_one 0

  -- accepted: no window bit past column 63, in any row
  pub window_inside : (window : List ℕ) → window_judged o 0 window ≡ accepted [] → (r i : ℕ) → i < 8 → 64 ≤ o + i → has (get_or window r 0) i ≡ false
  window_inside window e r i h l =
      ⊎_elim
      (λ (g : r < length window).
      never_true (has (get_or window r 0) i)
      (λ t.
      true≢false
      (sym (any_of 8 (λ j. leb 64 (o + j) && has (get_or window r 0) j) i h (ap₂ ◌&&◌ (le-leb 64 (o + i) l) t))
      ∙ pass_each (past_columns o) (window_judged o) window_none window_one 0 window e r g)))
      (λ (g : length window ≤ r). ap (λ (x : ℕ). has x i) (get_or-eq_default window 0 g) ∙ has_zero i) (lt_or_le r (length window))

  -- and no such bit: accepted
  pub window_accepted : (window : List ℕ) → ((r i : ℕ) → i < 8 → 64 ≤ o + i → has (get_or window r 0) i ≡ false) → window_judged o 0 window ≡ accepted []
  window_accepted window f =
      pass_all (past_columns o) (window_judged o) window_none window_one 0 window
      (λ r g.
      any_none 8 (λ j. leb 64 (o + j) && has (get_or window r 0) j)
      (λ i h.
      ⊎_elim (λ (l : o + i < 64). ap (λ (t : Bool). t && has (get_or window r 0) i) (lt-leb 64 (o + i) l))
      (λ (l : 64 ≤ o + i). ap (λ (t : Bool). leb 64 (o + i) && t) (f r i h l) ∙ and_false (leb 64 (o + i))) (lt_or_le (o + i) 64)))

  -- up to offset 56 no byte has such a bit
  pub past_none : (b : ℕ) → o ≤ 56 → past_columns o b ≡ false
  past_none b h = any_none 8 (λ i. leb 64 (o + i) && has b i) (λ i l. ap (λ (t : Bool). t && has b i) (lt-leb 64 (o + i) (omega arith)))

  -- so no window is refused there
  pub window_clear : (window : List ℕ) → o ≤ 56 → window_judged o 0 window ≡ accepted []
  window_clear window h = pass_all (past_columns o) (window_judged o) window_none window_one 0 window (λ r g. past_none (get_or window r 0) h)

  -- past offset 56 they are what a shift leaves
  pub past_shift : (b : ℕ) → b < 2 ^ 8 → o ≤ 64 → past_columns o b ≡ not (eqb (b / 2 ^ (64 - o)) 0)
  past_shift b byte h =
      both_true (past_columns o b) (not (eqb (b / 2 ^ (64 - o)) 0))
      (λ e.
      let f = any_find 8 (λ i. leb 64 (o + i) && has b i) e in
      let l : 64 ≤ o + f.0 = leb-true 64 (o + f.0) (and_left (leb 64 (o + f.0)) (has b f.0) f.2) in
      let q : 64 - o + (o + f.0 - 64) ≡ f.0 = omega arith in
      let t : has (b / 2 ^ (64 - o)) (o + f.0 - 64) ≡ true = has_shr b (64 - o) (o + f.0 - 64) ∙ ap (has b) q ∙ and_right (leb 64 (o + f.0)) (has b f.0) f.2 in
      ap not (ne_eqb (b / 2 ^ (64 - o)) 0 (λ z. true≢false (sym t ∙ ap (λ (x : ℕ). has x (o + f.0 - 64)) z ∙ has_zero (o + f.0 - 64)))))
      (λ e.
      let w = b / 2 ^ (64 - o) in
      let n : w ≡ 0 → ⊥ = eqb-false w 0 (not-true (eqb w 0) e) in
      let small : w < 2 ^ 8 = omega (arith, shr_le b (64 - o)) in
      let z = count_trailing_zeros 8 w in
      let t : has b (64 - o + z) ≡ true = sym (has_shr b (64 - o) z) ∙ trailing_at 8 w (trailing_lt 8 w small (omega (arith, n))) in
      let i : 64 - o + z < 8 = ⊎_elim (λ (l : 64 - o + z < 8). l) (λ (l : 8 ≤ 64 - o + z). absurd (true≢false (sym t ∙ has_out 8 b (64 - o + z) byte l))) (lt_or_le (64 - o + z) 8) in
      any_of 8 (λ j. leb 64 (o + j) && has b j) (64 - o + z) i (ap₂ ◌&&◌ (le-leb 64 (o + (64 - o + z)) (omega arith)) t))

-- ---- the pairs

module _ (o : ℕ) where
  -- a pair in the window's columns
  abbrev pub caught : ℕ → Bool
  caught pair = in_window o (pair % 64)

  columns_none : (i : ℕ) → columns_judged o i [] ≡ accepted []
  unfolding columns_judged
  columns_none i = refl

  columns_one : (i x : ℕ) (more : List ℕ) → columns_judged o i (x ∷ more) ≡ choose (caught x) (refused 14 i) (columns_judged o (suc i) more)
  unfolding columns_judged
  columns_one i x more = refl

  -- the pass over the pairs: before the first pair
  pub columns_start : (ps : List ℕ) → Passed (columns_judged o) ps 0
  columns_start = pass_start caught (columns_judged o) columns_none columns_one

  -- a pair out of the window
  pub columns_turn : (ps : List ℕ) (i : ℕ) → Passed (columns_judged o) ps i → i < length ps → caught (get_or ps i 0) ≡ false → Passed (columns_judged o) ps (i + 1)
  columns_turn = pass_turn caught (columns_judged o) columns_none columns_one

  -- a pair in it: refused, with its index
  pub columns_stop : (ps : List ℕ) (i : ℕ) → Passed (columns_judged o) ps i → i < length ps → caught (get_or ps i 0) ≡ true → refused 14 i ≡ columns_judged o 0 ps
  columns_stop = pass_stop caught (columns_judged o) columns_none columns_one

  -- after the last pair
  pub columns_end : (ps : List ℕ) (i : ℕ) → Passed (columns_judged o) ps i → length ps ≤ i → accepted [] ≡ columns_judged o 0 ps
  columns_end = pass_end caught (columns_judged o) columns_none columns_one

  -- it is accepted with no values
  pub columns_empty : (ps own : List ℕ) → columns_judged o 0 ps ≡ accepted own → columns_judged o 0 ps ≡ accepted []
  columns_empty = pass_empty caught (columns_judged o) columns_none columns_one 0

  -- accepted: no listed pair in the window's columns
  pub columns_apart : (ps : List ℕ) → columns_judged o 0 ps ≡ accepted [] → (r c : ℕ) → c < 64 → in_window o c ≡ true → in_list ps (64 * r + c) ≡ false
  unfolding in_list
  columns_apart ps e r c l w =
      any_none (length ps) (λ i. eqb (get_or ps i 0) (64 * r + c))
      (λ i h.
      ne_eqb (get_or ps i 0) (64 * r + c)
      (λ q.
      let m : get_or ps i 0 % 64 ≡ c = omega arith in
      true≢false (sym w ∙ ap (in_window o) (sym m) ∙ pass_each caught (columns_judged o) columns_none columns_one 0 ps e i h)))

  -- and no such pair: accepted
  pub columns_accepted : (ps : List ℕ) → ((r c : ℕ) → c < 64 → in_window o c ≡ true → in_list ps (64 * r + c) ≡ false) → columns_judged o 0 ps ≡ accepted []
  unfolding in_list
  columns_accepted ps f =
      pass_all caught (columns_judged o) columns_none columns_one 0 ps
      (λ i h.
      let p = get_or ps i 0 in
      let q : p ≡ 64 * (p / 64) + p % 64 = omega arith in
      never_true (caught p)
      (λ t.
      true≢false
      (sym (any_of (length ps) (λ j. eqb (get_or ps j 0) (64 * (p / 64) + p % 64)) i h (eq-eqb p (64 * (p / 64) + p % 64) q))
      ∙ f (p / 64) (p % 64) (omega arith) t)))
