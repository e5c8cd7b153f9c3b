-- What the public calls answer, and what they leave. Each tries 2, then 3. Assumes nothing.
use Rattle.std.specs.Prelude.{ℕ, ◌*◌, Bool, not, ◌&&◌, List, [], ◌∷◌, eqb, ltb, length, take, drop}
use Rattle.laws.specs.Choose.{choose}
use Rattle.refusals.specs.Outcome.{Outcome, accepted, refused, if_accepted}
use Rattle.books.specs.Book.{first_misshapen, one_symbol_each, sized}
use Rattle.books.specs.Table.{table_of, is_table_of}

-- 3 with the first symbol of wrong shape; else 3 with 0, unless the rest holds
abbrev pub judged : List ℕ → Bool → Outcome
judged book rest =
    choose (ltb (first_misshapen book) (length book)) (refused 3 (first_misshapen book))
    (choose (not rest) (refused 3 0) (accepted []))

-- the check of a book
unfoldable pub check_of : List ℕ → Outcome
check_of book = choose (not (sized book)) (refused 2 0) (judged book (one_symbol_each book))

-- the check of a book with a lent decoding table
unfoldable pub check_table_of : List ℕ → List ℕ → Outcome
check_table_of book table =
    choose (not (sized book && eqb (length table) 4096)) (refused 2 0) (judged book (one_symbol_each book && is_table_of book table))

-- the fill of a decoding table: the answer, and what the lent table holds afterwards
unfoldable pub fill_of : List ℕ → List ℕ → Outcome
fill_of book table = choose (not (sized book && eqb (length table) 4096)) (refused 2 0) (judged book (one_symbol_each book))

abbrev pub filled : List ℕ → List ℕ → List ℕ
filled book table = if_accepted (fill_of book table) (table_of book) table

-- the pick by phase out of a book set, 22 window books end to end: where the part starts, and its length; 3 for a phase over 21
unfoldable pub pick_of : List ℕ → ℕ → Outcome
pick_of set phase = choose (not (eqb (length set) 5632)) (refused 2 0) (choose (ltb 21 phase) (refused 3 0) (accepted (phase * 256 ∷ 256 ∷ [])))

-- the part that is handed back: no entries where the pick is refused
abbrev pub picked : List ℕ → ℕ → List ℕ
picked set phase = if_accepted (pick_of set phase) (take 256 (drop (phase * 256) set)) []
