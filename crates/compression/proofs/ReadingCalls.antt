-- The calls that read: a refusal before reading keeps what was lent, and a book and table that pass are what the readers need. Assumes nothing.
use mathlib.Core.Path.{◌≡◌, refl, sym, ap, ap₂, ◌∙◌, subst}
use mathlib.Core.Bool.{Bool, true, false, not, ◌&&◌}
use mathlib.Core.List.{List, []}
use Prim.Native.Nat.{ℕ, ◌^◌, ◌≤◌}
use native.Mathlib.Omega.{arith}
use borrow.Author.Tests.{eq-eqb, ne_eqb, le-leb}
use lib.Dec.{eqb, leb}
use lib.ListN.{length}
use Rattle.std.specs.Prelude.{Result, ⊤}
use Rattle.laws.specs.Choose.{choose}
use Rattle.refusals.specs.Outcome.{Outcome, accepted, refused, if_accepted, and_then}
use Rattle.refusals.specs.Told.{told, told_plain}
use Rattle.refusals.specs.declared.Refusal.{Refusal}
use Rattle.refusals.specs.declared.Refusal.TheVariants.{WrongLength}
use Rattle.refusals.proofs.Refusing.{kept, stays}
use Rattle.numbers.specs.Numbers.{base_bits_at}
use Rattle.numbers.specs.Calls.{outside}
use Rattle.numbers.proofs.RowsTold.{RowsAt}
use Rattle.books.specs.Calls.{check_table_of}
use Rattle.books.specs.Uses.{Decodes}
use Rattle.books.proofs.Accepted.{table_accepted, table_holds}
use Rattle.streams.specs.Stream.{number, word_bits}
use Rattle.streams.specs.Read.{Reading, pairs_from, bytes_from}
use Rattle.streams.specs.Calls.{read_outcome, read_into, pairs_reading, read_pairs_judged, read_pairs_of, pairs_read, window_reading, read_window_judged, read_window_of, window_read}
use Rattle.compression.specs.Reading.{Holds, room_judged, parts_judged, ReadBy}

-- ---- what was judged first decides the call, or else the reading does

module _ (first judged more : Outcome) (after before : List ℕ) (is : first ≡ judged) where
  call_refused : (why : Refusal) → told why ≡ judged → (told why ≡ and_then first more) × (before ≡ if_accepted first after before)
  call_refused why e =
      let stops = e ∙ sym is in
      (sym (stays why more) ∙ ap (λ (o : Outcome). and_then o more) stops, sym (kept why after before) ∙ ap (λ (o : Outcome). if_accepted o after before) stops)

  call_read : (outcome : Outcome) (out : List ℕ) → accepted [] ≡ judged → outcome ≡ more → out ≡ after
      → (outcome ≡ and_then first more) × (out ≡ if_accepted first after before)
  call_read outcome out e p q =
      let passes = e ∙ sym is in
      (p ∙ ap (λ (o : Outcome). and_then o more) passes, q ∙ ap (λ (o : Outcome). if_accepted o after before) passes)

-- ---- what is lent

-- a book and its table, as the readers need them
pub record Lent (book table : List ℕ) : Type 0 where
  pub decodes : Decodes 256 table
  pub holds : Holds book table

pub lent : (book table : List ℕ) → accepted [] ≡ check_table_of book table → Lent book table
lent book table e =
    let d = (table_accepted book table (sym e)).1.decodes in
    record { decodes = record { size = d.size; lengths = d.lengths; symbol = λ n l. omega arith }; holds = table_holds book table (sym e) }

-- where the lengths are right, the check decides
pub parts_right : (symbols : ℕ) (book table stream : List ℕ) → length book ≡ symbols → length table ≡ 4096 → length stream ≤ 2 ^ 30
    → parts_judged symbols book table stream ≡ check_table_of book table
parts_right symbols book table stream b t s = simp (eq-eqb (length book) symbols b, eq-eqb (length table) 4096 t, le-leb (length stream) (2 ^ 30) s)

-- ---- the two calls: 1 comes first, then what is lent, then the reading

chain_of : (wrong : Bool) (check more : Outcome) → choose wrong (refused 2 0) (and_then check more) ≡ and_then (choose wrong (refused 2 0) check) more
chain_of true check more = refl
chain_of false check more = refl

module _ (book table : List ℕ) (lg count : ℕ) (stream out : List ℕ) where
  abbrev pairs : Reading
  pairs = pairs_reading book (2 ^ lg) count stream

  abbrev judged : Outcome
  judged = read_pairs_judged book table lg count stream out

  abbrev pub PairsCalled : Outcome → List ℕ → Type 0
  PairsCalled outcome out' = (outcome ≡ read_pairs_of book table lg count stream out) × (out' ≡ pairs_read book table lg count stream out)

  pairs_first : outside lg ≡ true → judged ≡ refused 1 0
  unfolding read_pairs_judged
  pairs_first o = simp o

  pub pairs_outside : (why : Refusal) → outside lg ≡ true → told why ≡ refused 1 0 → PairsCalled (told why) out
  pairs_outside why o e = call_refused judged (refused 1 0) (read_outcome pairs) (read_into pairs out) out (pairs_first o) why e

  module _ (k : ℕ) (at : RowsAt lg k) where
    abbrev next : Outcome
    next = and_then (parts_judged 65 book table stream) (room_judged count (length out))

    pairs_next : judged ≡ next
    unfolding read_pairs_judged
    pairs_next =
        simp at.inside
        (chain_of (not (eqb (length book) 65 && (eqb (length table) 4096 && leb (length stream) (2 ^ 30)))) (check_table_of book table) (room_judged count (length out)))

    pub pairs_wrong : (why : Refusal) → told why ≡ parts_judged 65 book table stream → PairsCalled (told why) out
    pairs_wrong why e =
        call_refused judged next (read_outcome pairs) (read_into pairs out) out pairs_next why
        (sym (stays why (room_judged count (length out))) ∙ ap (λ (o : Outcome). and_then o (room_judged count (length out))) e)

    module _ (passes : accepted [] ≡ parts_judged 65 book table stream) where
      past : room_judged count (length out) ≡ next
      past = ap (λ (o : Outcome). and_then o (room_judged count (length out))) passes

      pub pairs_full : (why : Refusal) → told why ≡ room_judged count (length out) → PairsCalled (told why) out
      pairs_full why e = call_refused judged next (read_outcome pairs) (read_into pairs out) out pairs_next why (e ∙ past)

      pub pairs_called : (s : List ℕ) (b : ℕ) (out' : List ℕ) (answer : Result ⊤ Refusal) → s ≡ stream → b ≡ base_bits_at k count
          → accepted [] ≡ room_judged count (length out)
          → ReadBy (pairs_from (number s) (word_bits s) book b k count 0 0 0) out out' answer → PairsCalled (told_plain answer) out'
      pairs_called s b out' answer es eb e r =
          let same : pairs_from (number s) (word_bits s) book b k count 0 0 0 ≡ pairs =
          ap₂ (λ (t : List ℕ) (x : ℕ). pairs_from (number t) (word_bits t) book x k count 0 0 0) es eb
          ∙ ap (λ (x : ℕ). pairs_from (number stream) (word_bits stream) book (base_bits_at x count) x count 0 0 0) at.power in
          let by = subst (λ (reading : Reading). ReadBy reading out out' answer) same r in
          call_read judged next (read_outcome pairs) (read_into pairs out) out pairs_next (told_plain answer) out' (e ∙ past) by.0 by.1

-- the window's size is tried last
and_last : (a b c d : Bool) → (a && (b && (c && d))) ≡ ((a && (b && c)) && d)
and_last true true c d = refl
and_last true false c d = refl
and_last false b c d = refl

module _ (book table : List ℕ) (lg : ℕ) (stream window : List ℕ) where
  abbrev bytes : Reading
  bytes = window_reading book (2 ^ lg) stream

  abbrev window_judged : Outcome
  window_judged = read_window_judged book table lg stream window

  abbrev pub WindowCalled : Outcome → List ℕ → Type 0
  WindowCalled outcome window' = (outcome ≡ read_window_of book table lg stream window) × (window' ≡ window_read book table lg stream window)

  window_first : outside lg ≡ true → window_judged ≡ refused 1 0
  unfolding read_window_judged
  window_first o = simp o

  pub window_outside : (why : Refusal) → outside lg ≡ true → told why ≡ refused 1 0 → WindowCalled (told why) window
  window_outside why o e = call_refused window_judged (refused 1 0) (read_outcome bytes) (read_into bytes window) window (window_first o) why e

  module _ (k : ℕ) (at : RowsAt lg k) where
    sized : (t : Bool) → eqb (length window) k ≡ t
        → window_judged
        ≡ choose (not ((eqb (length book) 256 && (eqb (length table) 4096 && leb (length stream) (2 ^ 30))) && t)) (refused 2 0) (check_table_of book table)
    unfolding read_window_judged
    sized t e =
        simp at.inside
        (ap (λ (b : Bool). choose (not b) (refused 2 0) (check_table_of book table))
        (and_last (eqb (length book) 256) (eqb (length table) 4096) (leb (length stream) (2 ^ 30)) (eqb (length window) (2 ^ lg))
        ∙ ap (λ (b : Bool). (eqb (length book) 256 && (eqb (length table) 4096 && leb (length stream) (2 ^ 30))) && b)
        (ap (eqb (length window)) (sym at.power) ∙ e)))

    and_false : (b : Bool) → (b && false) ≡ false
    and_false true = refl
    and_false false = refl

    and_true : (b : Bool) → (b && true) ≡ b
    and_true true = refl
    and_true false = refl

    pub window_other : (length window ≡ k → ⊥) → WindowCalled (refused 2 0) window
    window_other other =
        call_refused window_judged (refused 2 0) (read_outcome bytes) (read_into bytes window) window
        (sized false (ne_eqb (length window) k other) ∙ ap (λ (b : Bool). choose (not b) (refused 2 0) (check_table_of book table)) (and_false _)) WrongLength refl

    module _ (exact : length window ≡ k) where
      window_next : window_judged ≡ parts_judged 256 book table stream
      window_next =
          sized true (eq-eqb (length window) k exact) ∙ ap (λ (b : Bool). choose (not b) (refused 2 0) (check_table_of book table)) (and_true _)

      pub window_wrong : (why : Refusal) → told why ≡ parts_judged 256 book table stream → WindowCalled (told why) window
      window_wrong why e = call_refused window_judged (parts_judged 256 book table stream) (read_outcome bytes) (read_into bytes window) window window_next why e

      pub window_called : (s window' : List ℕ) (answer : Result ⊤ Refusal) → s ≡ stream → accepted [] ≡ parts_judged 256 book table stream
          → ReadBy (bytes_from (number s) (word_bits s) book (length window) 0) window window' answer → WindowCalled (told_plain answer) window'
      window_called s window' answer es e r =
          let same : bytes_from (number s) (word_bits s) book (length window) 0 ≡ bytes =
          ap₂ (λ (t : List ℕ) (x : ℕ). bytes_from (number t) (word_bits t) book x 0) es (exact ∙ at.power) in
          let by = subst (λ (reading : Reading). ReadBy reading window window' answer) same r in
          call_read window_judged (parts_judged 256 book table stream) (read_outcome bytes) (read_into bytes window) window window_next (told_plain answer) window'
          e by.0 by.1
