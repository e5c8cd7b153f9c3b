-- The answers of the checks, from what the passes found. Assumes nothing.
use mathlib.Core.Path.{◌≡◌, refl, sym, ap, ap₂, ◌∙◌}
use mathlib.Core.Logic.{⊎_elim}
use mathlib.Core.Bool.{Bool, true, false, not, ◌&&◌, ◌||◌, false≢true}
use mathlib.Core.List.{List, [], ◌∷◌}
use Prim.Native.Nat.{ℕ, suc, ◌≤◌, ◌<◌}
use native.Mathlib.Omega.{arith}
use borrow.Author.Tests.{lt-ltb, le-ltb, ne_eqb, eq-eqb, eqb-true, ltb-false, not-false}
use lib.Dec.{eqb, ltb}
use lib.ListN.{length}
use Rattle.laws.specs.Choose.{choose}
use Rattle.laws.proofs.Orders.{le_or_lt}
use Rattle.laws.proofs.Truths.{and_left, and_right, true_or_false}
use Rattle.refusals.specs.Outcome.{Outcome, accepted, refused, if_accepted}
use Rattle.refusals.specs.Told.{told}
use Rattle.refusals.specs.declared.Refusal.{Refusal}
use Rattle.refusals.proofs.Only.{never_accepted}
use Rattle.refusals.proofs.Refusing.{kept, took}
use Rattle.books.specs.Book.{shaped, first_misshapen, one_symbol_each, sized}
use Rattle.books.specs.Table.{is_table_of, table_of}
use Rattle.books.specs.Calls.{judged, check_of, check_table_of, fill_of, filled}
use Rattle.books.specs.Steps.{taken, first_judged}
use Rattle.books.proofs.Shaping.{all_shaped}
use Rattle.books.proofs.Agreement.{full}

first_within : (book : List ℕ) → first_misshapen book ≤ length book
unfolding first_misshapen
first_within [] = omega arith
first_within (entry ∷ book) =
    ⊎_elim
    (λ (e : shaped entry ≡ true).
    let q : first_misshapen (entry ∷ book) ≡ suc (first_misshapen book) = ap (λ (b : Bool). choose b (suc (first_misshapen book)) 0) e in
    omega (arith, first_within book, q))
    (λ (e : shaped entry ≡ false).
    let q : first_misshapen (entry ∷ book) ≡ 0 = ap (λ (b : Bool). choose b (suc (first_misshapen book)) 0) e in
    omega (arith, q)) (true_or_false (shaped entry))

-- where the last test of one chain holds only if that of another does, a refusal by the other is one by the first
less : (b one more : Bool) (a : Outcome) (why : Refusal) → (b ≡ false → more ≡ true → one ≡ true)
    → told why ≡ choose b a (choose (not one) (refused 3 0) (accepted []))
    → told why ≡ choose b a (choose (not more) (refused 3 0) (accepted []))
less true one more a why h e = e
less false false true a why h e = absurd (false≢true (h refl refl))
less false false false a why h e = e
less false true more a why h e = absurd (never_accepted why [] (sym e))

module _ (book : List ℕ) where
  none_misshapen : ltb (first_misshapen book) (length book) ≡ false → first_misshapen book ≡ length book
  none_misshapen e = let l = ltb-false (first_misshapen book) (length book) e in omega (arith, first_within book)

  pub judged_accepted : (rest : Bool) → judged book rest ≡ accepted [] → (first_misshapen book ≡ length book) × (rest ≡ true)
  judged_accepted rest e =
      let t = took (ltb (first_misshapen book) (length book)) (choose (not rest) (refused 3 0) (accepted [])) 3 _ [] e in
      (none_misshapen t.0, not-false rest (took (not rest) (accepted []) 3 0 [] t.1).0)

  pub misshapen_judged : (x : ℕ) (rest : Bool) → first_misshapen book ≡ x → x < length book → judged book rest ≡ refused 3 x
  misshapen_judged x rest e l = simp (lt-ltb (first_misshapen book) (length book) (within e l)) (ap (refused 3) e)
    where
      within : first_misshapen book ≡ x → x < length book → first_misshapen book < length book
      within e l = omega arith

  -- no symbol is of wrong shape: the rest decides
  pub shaped_judged : (rest t : Bool) → first_misshapen book ≡ length book → rest ≡ t → judged book rest ≡ choose (not t) (refused 3 0) (accepted [])
  shaped_judged rest t e r =
      simp (le-ltb (first_misshapen book) (length book) (within e)) (ap (λ (b : Bool). choose (not b) (refused 3 0) (accepted [])) r)
    where
      within : first_misshapen book ≡ length book → length book ≤ first_misshapen book
      within e = omega arith

  -- a refusal by the shapes or the sum
  pub first_refused : (rest : Bool) (why : Refusal) → (rest ≡ true → one_symbol_each book ≡ true) → told why ≡ first_judged book → told why ≡ judged book rest
  first_refused rest why h =
      less (ltb (first_misshapen book) (length book)) (eqb (taken book) 4096) rest _ why
      (λ e t. eq-eqb (taken book) 4096 (full book (h t) (all_shaped book (none_misshapen e))))

  pub first_accepted : accepted [] ≡ first_judged book → (first_misshapen book ≡ length book) × (taken book ≡ 4096)
  first_accepted e = let j = judged_accepted (eqb (taken book) 4096) (sym e) in (j.0, eqb-true (taken book) 4096 j.1)

  -- the length is right
  pub sized_of : accepted [] ≡ choose (not (sized book)) (refused 2 0) (accepted []) → sized book ≡ true
  sized_of e = not-false (sized book) (took (not (sized book)) (accepted []) 2 0 [] (sym e)).0

  pub check_sized : (t : Bool) → sized book ≡ t → check_of book ≡ choose (not t) (refused 2 0) (judged book (one_symbol_each book))
  unfolding check_of
  check_sized t s = ap (λ (b : Bool). choose (not b) (refused 2 0) (judged book (one_symbol_each book))) s

  pub sized_short : sized book ≡ true → length book ≤ 256
  sized_short e =
      ⊎_elim (λ (h : length book ≤ 256). h)
      (λ (h : 256 < length book).
      let no : (false || false) ≡ true =
      ap₂ ◌||◌ (sym (ne_eqb (length book) 65 (λ (q : length book ≡ 65). omega arith))) (sym (ne_eqb (length book) 256 (λ (q : length book ≡ 256). omega arith))) ∙ e in
      let z : ◌≡◌ {A = ℕ} 0 1 = cc in absurd (omega arith)) (le_or_lt (length book) 256)

-- a book and a table of right or of wrong lengths
module _ (book table : List ℕ) where
  abbrev pub fit : Bool
  fit = sized book && eqb (length table) 4096

  pub fit_both : fit ≡ true → (sized book ≡ true) × (length book ≤ 256) × (length table ≡ 4096)
  fit_both e =
      let s = and_left (sized book) (eqb (length table) 4096) e in
      (s, sized_short book s, eqb-true (length table) 4096 (and_right (sized book) (eqb (length table) 4096) e))

  pub check_fit : (t : Bool) → fit ≡ t → check_table_of book table ≡ choose (not t) (refused 2 0) (judged book (one_symbol_each book && is_table_of book table))
  unfolding check_table_of
  check_fit t e = ap (λ (b : Bool). choose (not b) (refused 2 0) (judged book (one_symbol_each book && is_table_of book table))) e

  pub fill_fit : (t : Bool) → fit ≡ t → fill_of book table ≡ choose (not t) (refused 2 0) (judged book (one_symbol_each book))
  unfolding fill_of
  fill_fit t e = ap (λ (b : Bool). choose (not b) (refused 2 0) (judged book (one_symbol_each book))) e

  -- a refusal leaves the table, and an acceptance fills it
  pub fill_refused : (why : Refusal) → told why ≡ fill_of book table → (told why ≡ fill_of book table) × (table ≡ filled book table)
  fill_refused why e = (e, sym (kept why (table_of book) table) ∙ ap (λ (a : Outcome). if_accepted a (table_of book) table) e)

  pub fill_accepted : (table' : List ℕ) → accepted [] ≡ fill_of book table → table' ≡ table_of book
      → (accepted [] ≡ fill_of book table) × (table' ≡ filled book table)
  fill_accepted table' e t = (e, t ∙ ap (λ (a : Outcome). if_accepted a (table_of book) table) e)
