-- What an accepted book and table give to readers and writers. Assumes nothing.
use mathlib.Core.Path.{◌≡◌}
use mathlib.Core.Bool.{Bool, true, not, ◌&&◌}
use mathlib.Core.List.{List, []}
use Prim.Native.Nat.{ℕ, ◌/◌, ◌%◌, ◌≤◌, ◌<◌}
use native.Mathlib.Omega.{arith}
use borrow.Author.Tests.{eq-eqb, le-ltb, not-false}
use lib.Dec.{ltb}
use lib.ListN.{length, get_or}
use Rattle.laws.proofs.Truths.{and_left, and_right}
use Rattle.laws.proofs.Lists.{length_list_of, get_d_list_of}
use Rattle.refusals.specs.Outcome.{accepted}
use Rattle.refusals.proofs.Refusing.{took}
use Rattle.books.specs.Book.{first_misshapen, one_symbol_each, sized}
use Rattle.books.specs.Table.{decoded, is_table_of, table_of}
use Rattle.books.specs.Calls.{judged, check_of, check_table_of}
use Rattle.books.specs.Steps.{AllShaped, Agreed}
use Rattle.books.specs.Uses.{Matches}
use Rattle.books.proofs.Shaping.{all_shaped}
use Rattle.books.proofs.Agreement.{which_at, agrees, table_at, table_of_decoded}
use Rattle.books.proofs.Verdicts.{judged_accepted, sized_short, fit, fit_both}

-- a book that passes
pub book_accepted : (book : List ℕ) → check_of book ≡ accepted [] → (sized book ≡ true) × AllShaped book × (one_symbol_each book ≡ true)
unfolding check_of
book_accepted book e =
    let t = took (not (sized book)) (judged book (one_symbol_each book)) 2 0 [] e in
    let j = judged_accepted book (one_symbol_each book) t.1 in
    (not-false (sized book) t.0, all_shaped book j.0, j.1)

-- a book that passes, and a table that holds what the book says
pub matches : (book table : List ℕ) → length book ≤ 256 → AllShaped book → one_symbol_each book ≡ true → length table ≡ 4096
    → ((n : ℕ) → n < 4096 → get_or table n 0 ≡ decoded book n) → Matches book table
matches book table short s one size h = record { shaped = s; decodes = record { size = size; lengths = lengths; symbol = symbol }; matched = matched }
  where
    matched : Agreed book table
    matched = agrees book one table h

    lengths : (n : ℕ) → n < 4096 → (1 ≤ get_or table n 0 / 256) × (get_or table n 0 / 256 ≤ 12)
    lengths n l =
        let w = which_at book one n l in
        let e = matched w.0 n w.1 l w.2 in
        let sh = s w.0 w.1 in
        (omega (arith, sh.least, w.1), omega (arith, sh.most, w.1))

    symbol : (n : ℕ) → n < 4096 → get_or table n 0 % 256 < length book
    symbol n l =
        let w = which_at book one n l in
        let e = matched w.0 n w.1 l w.2 in
        omega (arith, w.1)

-- a table that passes holds what the book says
pub table_holds : (book table : List ℕ) → check_table_of book table ≡ accepted [] → (n : ℕ) → n < 4096 → get_or table n 0 ≡ decoded book n
unfolding check_table_of
table_holds book table e =
    let t = took (not (fit book table)) (judged book (one_symbol_each book && is_table_of book table)) 2 0 [] e in
    let j = judged_accepted book (one_symbol_each book && is_table_of book table) t.1 in
    table_at book table (and_right (one_symbol_each book) (is_table_of book table) j.1)

-- what an accepted check of a lent table gives
pub table_accepted : (book table : List ℕ) → check_table_of book table ≡ accepted [] → (sized book ≡ true) × Matches book table
unfolding check_table_of
table_accepted book table e =
    let t = took (not (fit book table)) (judged book (one_symbol_each book && is_table_of book table)) 2 0 [] e in
    let j = judged_accepted book (one_symbol_each book && is_table_of book table) t.1 in
    let f = fit_both book table (not-false (fit book table) t.0) in (
      f.0,
      matches book table f.1 (all_shaped book j.0) (and_left (one_symbol_each book) (is_table_of book table) j.1) f.2
          (table_holds book table e),
    )

-- an accepted check carries no values
judged_values : (book : List ℕ) (rest : Bool) (values : List ℕ) → judged book rest ≡ accepted values → judged book rest ≡ accepted []
judged_values book rest values e =
    let b = took (ltb (first_misshapen book) (length book)) _ 3 (first_misshapen book) values e in
    let c = took (not rest) (accepted []) 3 0 values b.1 in
    simp (b.0, c.0)

pub book_values : (book values : List ℕ) → check_of book ≡ accepted values → check_of book ≡ accepted []
unfolding check_of
book_values book values e =
    let t = took (not (sized book)) (judged book (one_symbol_each book)) 2 0 values e in
    simp t.0 (judged_values book (one_symbol_each book) values t.1)

pub table_values : (book table values : List ℕ) → check_table_of book table ≡ accepted values → check_table_of book table ≡ accepted []
unfolding check_table_of
table_values book table values e =
    let t = took (not (fit book table)) (judged book (one_symbol_each book && is_table_of book table)) 2 0 values e in
    simp t.0 (judged_values book (one_symbol_each book && is_table_of book table) values t.1)

-- a book whose table is accepted passes by itself
pub table_checks : (book table : List ℕ) → check_table_of book table ≡ accepted [] → check_of book ≡ accepted []
unfolding check_table_of check_of
table_checks book table e =
    let t = took (not (fit book table)) (judged book (one_symbol_each book && is_table_of book table)) 2 0 [] e in
    let j = judged_accepted book (one_symbol_each book && is_table_of book table) t.1 in
    let f = fit_both book table (not-false (fit book table) t.0) in
    simp (f.0, le-ltb (first_misshapen book) (length book) (omega (arith, j.0)), and_left (one_symbol_each book) (is_table_of book table) j.1)

-- a book that passes matches its own table
pub own_table : (book : List ℕ) → check_of book ≡ accepted [] → Matches book (table_of book)
unfolding table_of
own_table book e =
    let b = book_accepted book e in
    matches book (table_of book) (sized_short book b.0) b.1 b.2 (length_list_of 4096 (decoded book)) (get_d_list_of 4096 (decoded book))

-- and its own table is accepted with it
pub own_accepted : (book : List ℕ) → check_of book ≡ accepted [] → check_table_of book (table_of book) ≡ accepted []
unfolding check_table_of check_of table_of
own_accepted book e =
    let t = took (not (sized book)) (judged book (one_symbol_each book)) 2 0 [] e in
    let j = judged_accepted book (one_symbol_each book) t.1 in
    let size = length_list_of 4096 (decoded book) in
    simp (not-false (sized book) t.0, eq-eqb (length (table_of book)) 4096 size, le-ltb (first_misshapen book) (length book) (omega (arith, j.0)), j.1, table_of_decoded book (table_of book) (get_d_list_of 4096 (decoded book)))
