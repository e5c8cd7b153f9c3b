-- A table that agrees with every symbol of a book whose codewords take 4,096 numbers: the book passes, and the table is the book's. Assumes nothing.
use mathlib.Core.Path.{◌≡◌, sym, ap, ◌∙◌}
use mathlib.Core.Bool.{true}
use mathlib.Core.List.{List}
use Prim.Native.Nat.{ℕ, ◌+◌, ◌*◌, ◌%◌, ◌≤◌, ◌<◌}
use native.Mathlib.Nat.{zero-add}
use native.Mathlib.Omega.{arith}
use borrow.Author.Tests.{eqb-true, eq-eqb}
use lib.Dec.{eqb}
use lib.ListN.{length, get_or}
use lib.Seq.{ext_get_or}
use Rattle.laws.specs.Lists.{list_of}
use Rattle.laws.proofs.Below.{every_at, every_of}
use Rattle.laws.proofs.Sums.{sum_ones, sum_full}
use Rattle.laws.proofs.Lists.{length_list_of, get_d_list_of}
use Rattle.books.specs.Book.{length_in, symbols_at, one_symbol_each}
use Rattle.books.specs.Table.{decoded, table_of, is_table_of}
use Rattle.books.specs.Steps.{AllShaped, taken, Hit, entry_of, Agreed}
use Rattle.books.proofs.Counting.{two_ways}
use Rattle.books.proofs.Symbols.{few, which, decoded_as}

pub each_of : (book : List ℕ) → ((n : ℕ) → n < 4096 → symbols_at book n ≡ 1) → one_symbol_each book ≡ true
each_of book h = every_of 4096 (λ n. eqb (symbols_at book n) 1) (λ n l. eq-eqb (symbols_at book n) 1 (h n l))

pub table_at : (book table : List ℕ) → is_table_of book table ≡ true → (n : ℕ) → n < 4096 → get_or table n 0 ≡ decoded book n
table_at book table e n l = eqb-true (get_or table n 0) (decoded book n) (every_at 4096 (λ n. eqb (get_or table n 0) (decoded book n)) e n l)

pub table_of_decoded : (book table : List ℕ) → ((n : ℕ) → n < 4096 → get_or table n 0 ≡ decoded book n) → is_table_of book table ≡ true
table_of_decoded book table h =
    every_of 4096 (λ n. eqb (get_or table n 0) (decoded book n)) (λ n l. eq-eqb (get_or table n 0) (decoded book n) (h n l))

-- a book that passes
module _ (book : List ℕ) (e : one_symbol_each book ≡ true) where
  pub one_at : (n : ℕ) → n < 4096 → symbols_at book n ≡ 1
  one_at n l = eqb-true (symbols_at book n) 1 (every_at 4096 (λ n. eqb (symbols_at book n) 1) e n l)

  pub full : AllShaped book → taken book ≡ 4096
  full s = sym (two_ways book s) ∙ sum_ones 4096 (symbols_at book) one_at

  -- the symbol of a number
  pub which_at : (n : ℕ) → n < 4096 → (x : ℕ) × (x < length book) × Hit book x n
  which_at n l = let o = one_at n l in which book n (omega arith)

  -- the entry of a symbol that has the number
  pub decoded_is : (x n : ℕ) → x < length book → n < 4096 → Hit book x n → decoded book n ≡ entry_of book x
  decoded_is x n l ln h = decoded_as 0 book x n (one_at n ln) l h ∙ ap (λ (y : ℕ). length_in (get_or book x 0) * 256 + y) (zero-add x)

  -- a table that holds what the book says agrees with it
  pub agrees : (table : List ℕ) → ((n : ℕ) → n < 4096 → get_or table n 0 ≡ decoded book n) → Agreed book table
  agrees table h x n l ln hit = h n ln ∙ decoded_is x n l ln hit

  -- a table that agrees is the book's
  pub holds : (table : List ℕ) → Agreed book table → (n : ℕ) → n < 4096 → get_or table n 0 ≡ decoded book n
  holds table agreed n l = let w = which_at n l in agreed w.0 n w.1 l w.2 ∙ sym (decoded_is w.0 n w.1 l w.2)

  pub whole : (table : List ℕ) → length table ≡ 4096 → Agreed book table → table ≡ table_of book
  unfolding table_of
  whole table size agreed =
      ext_get_or 0 table (list_of 4096 (decoded book)) (size ∙ sym (length_list_of 4096 (decoded book)))
      (λ (i : ℕ) (l : i < length table).
      let l' : i < 4096 = omega arith in
      holds table agreed i l' ∙ sym (get_d_list_of 4096 (decoded book) i l'))

-- at most one symbol for each number, as its entry says which, so exactly one
pub passes : (book table : List ℕ) → length book ≤ 256 → AllShaped book → taken book ≡ 4096 → Agreed book table → one_symbol_each book ≡ true
passes book table short s sum agreed = each_of book (sum_full 4096 (symbols_at book) at_most_one (two_ways book s ∙ sum))
  where
    at_most_one : (n : ℕ) → n < 4096 → symbols_at book n ≤ 1
    at_most_one n l =
        few book n (get_or table n 0 % 256)
        (λ (x : ℕ) (lx : x < length book) (h : Hit book x n). let e = agreed x n lx l h in let q : x ≡ get_or table n 0 % 256 = omega arith in q)
