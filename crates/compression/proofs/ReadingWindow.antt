-- The loop over a window's bytes: what holds at its head, that a byte keeps it, and what it says at the end. Assumes nothing.
use mathlib.Core.Path.{◌≡◌, refl, sym, ap, ap₂, ◌∙◌, subst}
use mathlib.Core.List.{List, []}
use Prim.Native.Nat.{ℕ, suc, ◌+◌, ◌-◌, ◌≤◌, ◌<◌}
use native.Mathlib.Omega.{arith}
use lib.ListN.{length, set, length-set}
use Rattle.std.specs.Prelude.{Ok, Err}
use Rattle.refusals.specs.declared.Reason.TheVariants as reason
use Rattle.refusals.specs.declared.Refusal.TheVariants as refusal
use Rattle.streams.specs.Stream.{number, word_bits}
use Rattle.streams.specs.Looks.{Looked, found, cut, code_at}
use Rattle.streams.specs.Read.{whole, Reading, item_then, on_byte, bytes_from}
use Rattle.compression.specs.Reading.{Stands, place_of, Holds, code_is, ReadBy}
use Rattle.compression.specs.declared.reader.Cursor.{Cursor}
use Rattle.compression.proofs.ReadingFront.{Front, front_start, front_turn, front_outcome, front_output}

module _ (n end : ℕ) (book : List ℕ) where
  none_left : (m at : ℕ) → m ≡ 0 → bytes_from n end book m at ≡ record { items = []; ending = whole at }
  unfolding bytes_from
  none_left m at e = ap (λ (x : ℕ). bytes_from n end book x at) e

  -- so many bytes, by what the look for the first finds
  by_first : (m at : ℕ) (looked : Looked) → 0 < m → code_at n end book at ≡ looked
      → bytes_from n end book m at ≡ on_byte looked (λ byte next. bytes_from n end book (m - 1) next)
  unfolding bytes_from
  by_first m at looked h e =
      let some : m ≡ suc (m - 1) = omega arith in
      ap (λ (x : ℕ). bytes_from n end book x at) some ∙ ap (λ (l : Looked). on_byte l (λ byte next. bytes_from n end book (m - 1) next)) e

-- what holds at the loop's head
pub record WindowHead (s table out₀ out : List ℕ) (cursor : Cursor) (i : ℕ) : Type 0 where
  pub stands : Stands s cursor
  pub size : length out ≡ length out₀
  pub within : i ≤ length out₀
  pub reads : (book : List ℕ) → Holds book table
      → Front (bytes_from (number s) (word_bits s) book (length out₀) 0) (bytes_from (number s) (word_bits s) book (length out₀ - i) (place_of cursor)) out₀ out i

pub window_start : (s table out : List ℕ) (cursor : Cursor) → Stands s cursor → place_of cursor ≡ 0 → WindowHead s table out out cursor 0
window_start s table out cursor st e = record {
  stands = st;
  size = refl;
  within = omega arith;
  reads = λ book holds.
      subst (λ (rest : Reading). Front (from book (length out) 0) rest out out 0) (ap₂ (from book) (omega arith) (sym e))
      (front_start (from book (length out) 0) out);
}
  where
    from : List ℕ → ℕ → ℕ → Reading
    from = bytes_from (number s) (word_bits s)

module _ (s table out₀ out : List ℕ) (cursor : Cursor) (i : ℕ) (head : WindowHead s table out₀ out cursor i) where
  pub window_turn : (byte : ℕ) (cursor' : Cursor) → i < length out₀ → Stands s cursor' → code_is s table (place_of cursor) (found byte (place_of cursor'))
      → WindowHead s table out₀ (set out i byte) cursor' (i + 1)
  window_turn byte cursor' h st is = record {
    stands = st;
    size = length-set out i byte ∙ head.size;
    within = omega arith;
    reads = λ book holds.
        front_turn _ _ out₀ out i (head.reads book holds) byte (bytes_from (number s) (word_bits s) book (length out₀ - (i + 1)) (place_of cursor')) h
        (by_first (number s) (word_bits s) book (length out₀ - i) (place_of cursor) _ (omega arith) (is book holds)
        ∙ ap (λ (m : ℕ). item_then byte (bytes_from (number s) (word_bits s) book m (place_of cursor'))) (omega arith));
  }

  pub window_cut : (bit : ℕ) → i < length out₀ → code_is s table (place_of cursor) (cut bit) → (book : List ℕ) → Holds book table
      → ReadBy (bytes_from (number s) (word_bits s) book (length out₀) 0) out₀ out (Err (refusal.Reading (reason.StreamEnds i bit)))
  window_cut bit h is book holds =
      let e = by_first (number s) (word_bits s) book (length out₀ - i) (place_of cursor) _ (omega arith) (is book holds) in
      let front = head.reads book holds in
      (sym (front_outcome _ _ out₀ out i front _ e), front_output _ _ out₀ out i front _ e)

  pub window_end : length out₀ ≤ i → (book : List ℕ) → Holds book table → ReadBy (bytes_from (number s) (word_bits s) book (length out₀) 0) out₀ out (Ok tt)
  window_end h book holds =
      let e = none_left (number s) (word_bits s) book (length out₀ - i) (place_of cursor) (omega arith) in
      let front = head.reads book holds in
      (sym (front_outcome _ _ out₀ out i front _ e), front_output _ _ out₀ out i front _ e)
