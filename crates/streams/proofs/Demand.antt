-- Demand 3, over the calls: what is written is read back, and no claim is too large for its stream. Assumes nothing.
use mathlib.Core.Path.{◌≡◌, refl, sym, ap, ap₂, ◌∙◌}
use mathlib.Core.Bool.{not, ◌&&◌}
use mathlib.Core.List.{List, [], ◌∷◌, ◌++◌}
use Prim.Native.Nat.{ℕ, ◌*◌, ◌^◌, ◌≤◌}
use native.Mathlib.Omega.{arith}
use borrow.Author.Tests.{eq-eqb, le-ltb, le-leb}
use lib.Dec.{eqb, leb}
use lib.ListN.{length, drop, length-append, length-drop}
use lib.Pow.{pow_mono}
use Rattle.refusals.specs.Outcome.{Outcome, accepted, refused, if_accepted, and_then}
use Rattle.refusals.specs.Units.{words_for}
use Rattle.refusals.proofs.Refusing.{both_accepted, took}
use Rattle.numbers.specs.Calls.{outside}
use Rattle.books.specs.Calls.{check_of, check_table_of}
use Rattle.books.specs.Table.{decoded, table_of}
use Rattle.books.proofs.Accepted.{table_values, table_checks, own_accepted}
use Rattle.laws.proofs.Lists.{length_list_of}
use Rattle.pair_lists.specs.Lists.{pairs_judged}
use Rattle.streams.specs.Codes.{total, pack}
use Rattle.streams.specs.Written.{pairs_codes, pairs_bits, words_of}
use Rattle.streams.specs.Read.{Ending, whole, faulty, Reading}
use Rattle.streams.specs.Calls.{write_pairs_of, pairs_written, words_into, read_pairs_judged, read_pairs_of, pairs_read, read_outcome, ended_by, pairs_reading, read_into}
use Rattle.streams.proofs.Granted.{granted, most_fits}
use Rattle.streams.proofs.Stream.{length_bytes_of}
use Rattle.streams.proofs.Trip.{pairs_trip}
use Rattle.streams.proofs.Two.{pairs_few}

-- a passing pair book with its table, k from 2^4 to 2^26, and strictly increasing lawful pairs, at most 2^28
pub record Granted (book table : List ℕ) (lg : ℕ) (pairs : List ℕ) : Type 0 where
  pub lg_least : 4 ≤ lg
  pub lg_most : lg ≤ 26
  pub book_size : length book ≡ 65
  pub table_size : length table ≡ 4096
  pub passes : check_table_of book table ≡ accepted []
  pub few : length pairs ≤ 2 ^ 28
  pub lawful : pairs_judged (2 ^ lg) pairs ≡ accepted []

module _ (book table : List ℕ) (lg : ℕ) (pairs : List ℕ) (g : Granted book table lg pairs) where
  abbrev bits : ℕ
  bits = pairs_bits book (2 ^ lg) pairs

  -- given room in whole words the writer accepts, and answers exactly the bits that the definition counts
  pub writes : (out : List ℕ) → 4 * words_for bits ≤ length out → write_pairs_of book lg pairs out ≡ accepted (bits ∷ words_for bits ∷ [])
  unfolding write_pairs_of
  writes out room =
      rw (le-ltb lg 4 g.lg_least, le-ltb 26 lg g.lg_most, eq-eqb (length book) 65 g.book_size, table_checks book table g.passes, le-ltb (2 ^ 28) (length pairs) g.few)
      (rw (g.lawful, le-ltb (length out) (4 * words_for bits) room) refl)

  -- so a writer that refuses such a list, as one that refuses every list does, breaks the promise
  pub never_refused : (out : List ℕ) → 4 * words_for bits ≤ length out → (number place : ℕ) → write_pairs_of book lg pairs out ≡ refused number place → ⊥
  never_refused out room number place e =
      let same : accepted (bits ∷ words_for bits ∷ []) ≡ refused number place = sym (writes out room) ∙ e in
      let z : ◌≡◌ {A = ℕ} 0 1 = cc in
      omega arith

  left : (out : List ℕ) → 4 * words_for bits ≤ length out → pairs_written book lg pairs out ≡ words_into (pairs_codes book (2 ^ lg) pairs) bits out
  left out room = ap (λ (o : Outcome). if_accepted o (words_into (pairs_codes book (2 ^ lg) pairs) bits out) out) (writes out room)

  long : (out : List ℕ) → 4 * words_for bits ≤ length out → length (pairs_written book lg pairs out) ≡ length out
  long out room =
      ap length (left out room)
      ∙ length-append (words_of (pairs_codes book (2 ^ lg) pairs) bits) (drop (4 * words_for bits) out)
      ∙ omega (arith, length_bytes_of (4 * words_for bits) (pack (pairs_codes book (2 ^ lg) pairs)), length-drop (4 * words_for bits) out)

  judged : (stream room : List ℕ) → length stream ≤ 2 ^ 30 → length pairs ≤ length room → read_pairs_judged book table lg (length pairs) stream room ≡ accepted []
  unfolding read_pairs_judged
  judged stream room short enough =
      rw (le-ltb lg 4 g.lg_least, le-ltb 26 lg g.lg_most, eq-eqb (length book) 65 g.book_size, eq-eqb (length table) 4096 g.table_size, le-leb (length stream) (2 ^ 30) short)
      (rw (g.passes, le-ltb (2 ^ 28) (length pairs) g.few, le-ltb (length room) (length pairs) enough) refl)

  same : (out : List ℕ) → 4 * words_for bits ≤ length out
      → pairs_reading book (2 ^ lg) (length pairs) (pairs_written book lg pairs out) ≡ record { items = pairs; ending = whole (total (pairs_codes book (2 ^ lg) pairs)) }
  same out fits =
      ap (pairs_reading book (2 ^ lg) (length pairs)) (left out fits)
      ∙ pairs_trip book (2 ^ lg) pairs (drop (4 * words_for bits) out) (table_checks book table g.passes) g.book_size (pow_mono g.lg_most) g.lawful

  -- reading what the writer left, whatever stood behind it, is accepted and gives the same list
  pub reads_back : (out room : List ℕ) → 4 * words_for bits ≤ length out → length out ≤ 2 ^ 30 → length pairs ≤ length room
      → (read_pairs_of book table lg (length pairs) (pairs_written book lg pairs out) room ≡ accepted [])
      × (pairs_read book table lg (length pairs) (pairs_written book lg pairs out) room ≡ pairs ++ drop (length pairs) room)
  reads_back out room fits short enough =
      let j : read_pairs_judged book table lg (length pairs) (pairs_written book lg pairs out) room ≡ accepted [] =
      judged (pairs_written book lg pairs out) room (omega (arith, long out fits)) enough in
      let r = same out fits in (
        ap₂ (λ (o : Outcome) (reading : Reading). and_then o (read_outcome reading)) j r,
        ap₂ (λ (o : Outcome) (reading : Reading). if_accepted o (read_into reading room) room) j r,
      )

  -- the stream is never too long to be read
  pub stream_fits : 4 * words_for bits ≤ 2 ^ 30
  stream_fits =
      omega
      (arith, granted book (2 ^ lg) pairs (table_checks book table g.passes) g.book_size (pow_mono g.lg_most) g.lawful, most_fits (2 ^ lg) (length pairs) (pow_mono g.lg_most) g.few)

  -- so what the writer left in room for just its words is read back, whatever the list
  pub reads_own : (out room : List ℕ) → length out ≡ 4 * words_for bits → length pairs ≤ length room
      → (read_pairs_of book table lg (length pairs) (pairs_written book lg pairs out) room ≡ accepted [])
      × (pairs_read book table lg (length pairs) (pairs_written book lg pairs out) room ≡ pairs ++ drop (length pairs) room)
  reads_own out room e enough = reads_back out room (omega arith) (omega (arith, stream_fits)) enough

read_whole : (place : ℕ) (ending : Ending) (values : List ℕ) → ended_by place ending ≡ accepted values → (next : ℕ) × (ending ≡ whole next)
read_whole place (whole next) values e = (next, refl)
read_whole place (faulty number bit) values e = let z : ◌≡◌ {A = ℕ} 0 1 = cc in absurd (omega arith)

judged_checks : (book table : List ℕ) (lg count : ℕ) (stream out values : List ℕ) → read_pairs_judged book table lg count stream out ≡ accepted values
    → check_table_of book table ≡ accepted []
unfolding read_pairs_judged
judged_checks book table lg count stream out values e =
    let a = took (outside lg) _ 1 0 values e in
    let b = took (not (eqb (length book) 65 && (eqb (length table) 4096 && leb (length stream) (2 ^ 30)))) _ 2 0 values a.1 in
    let c = both_accepted (check_table_of book table) _ values b.1 in
    table_values book table c.0.0 c.0.1

-- no stream of s bytes, whoever wrote it, is accepted for more than 4s pairs
pub claims_few : (book table : List ℕ) (lg count : ℕ) (stream out values : List ℕ) → read_pairs_of book table lg count stream out ≡ accepted values
    → count ≤ 4 * length stream
claims_few book table lg count stream out values e =
    let t = both_accepted (read_pairs_judged book table lg count stream out) (read_outcome (pairs_reading book (2 ^ lg) count stream)) values e in
    let w = read_whole (length (pairs_reading book (2 ^ lg) count stream).items) (pairs_reading book (2 ^ lg) count stream).ending values t.1 in
    let ok = table_checks book table (judged_checks book table lg count stream out t.0.0 t.0.1) in
    (pairs_few book (2 ^ lg) count stream w.0 ok w.1).1

-- what demand 3 takes, in its own words: the book passes the book check, and the table is that book's
pub as_asked : (book : List ℕ) (lg : ℕ) (pairs : List ℕ) → 4 ≤ lg → lg ≤ 26 → length book ≡ 65 → check_of book ≡ accepted [] → length pairs ≤ 2 ^ 28
    → pairs_judged (2 ^ lg) pairs ≡ accepted [] → Granted book (table_of book) lg pairs
unfolding table_of
as_asked book lg pairs least most size ok few e =
    record {
      lg_least = least;
      lg_most = most;
      book_size = size;
      table_size = length_list_of 4096 (decoded book);
      passes = own_accepted book ok;
      few = few;
      lawful = e;
    }
