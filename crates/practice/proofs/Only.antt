-- No second outcome satisfies what a public call promises. Assumes nothing.
use mathlib.Core.Path.{◌≡◌, sym, ◌∙◌}
use mathlib.Core.List.{List}
use Prim.Native.Nat.{ℕ}
use Rattle.books.specs.Table.{table_of}
use Rattle.practice.specs.Practice.{pair_book, window_book}

pub one_pair_book : (a b : List ℕ) → a ≡ pair_book → b ≡ pair_book → a ≡ b
one_pair_book a b p q = p ∙ sym q

pub one_window_book : (a b : List ℕ) → a ≡ window_book → b ≡ window_book → a ≡ b
one_window_book a b p q = p ∙ sym q

pub one_pair_table : (a b : List ℕ) → a ≡ table_of pair_book → b ≡ table_of pair_book → a ≡ b
one_pair_table a b p q = p ∙ sym q
