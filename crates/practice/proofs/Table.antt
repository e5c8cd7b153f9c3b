-- The rule of a constant decoding table, from one test of the whole table. Assumes nothing.
use mathlib.Core.Path.{◌≡◌, sym, ◌∙◌}
use mathlib.Core.Bool.{Bool}
use mathlib.Core.List.{List}
use Prim.Native.Nat.{ℕ, ◌<◌}
use native.Mathlib.Omega.{arith}
use lib.Dec.{T, eqb, eqb→eq}
use lib.ListN.{length, get_or}
use lib.Seq.{ext_get_or}
use Rattle.laws.specs.Lists.{list_of}
use Rattle.laws.proofs.Lists.{length_list_of, get_d_list_of}
use Rattle.laws.proofs.Whole.{every, at}
use Rattle.books.specs.Table.{decoded, table_of}

-- the entry is the book's at this number
abbrev pub right : List ℕ → ℕ → ℕ → Bool
right book n entry = eqb entry (decoded book n)

pub right_at : (book table : List ℕ) → T (every (right book) 0 table) → (n : ℕ) → n < length table → get_or table n 0 ≡ decoded book n
right_at book table t n l = eqb→eq (get_or table n 0) (decoded book n) (at (right book) table t n l)

pub right_table : (book table : List ℕ) → length table ≡ 4096 → T (every (right book) 0 table) → table ≡ table_of book
unfolding table_of
right_table book table e t =
    ext_get_or 0 table (list_of 4096 (decoded book)) (e ∙ sym (length_list_of 4096 (decoded book)))
    (λ (i : ℕ) (l : i < length table). let l' : i < 4096 = omega arith in right_at book table t i l ∙ sym (get_d_list_of 4096 (decoded book) i l'))
