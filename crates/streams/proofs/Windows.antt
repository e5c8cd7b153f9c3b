-- A window there and back, whatever comes after its words, and its most bits. Assumes nothing.
use mathlib.Core.Path.{◌≡◌, refl, ap, ◌∙◌}
use mathlib.Core.List.{List, [], ◌∷◌, ◌++◌}
use Prim.Native.Nat.{ℕ, zero, suc, ◌+◌, ◌*◌, ◌≤◌, ◌<◌}
use native.Mathlib.Nat.{zero-add}
use native.Mathlib.Omega.{arith}
use lib.ListN.{length}
use Rattle.refusals.specs.Outcome.{accepted}
use Rattle.books.specs.Calls.{check_of}
use Rattle.books.specs.Steps.{AllShaped}
use Rattle.books.proofs.Accepted.{book_accepted}
use Rattle.streams.specs.Stream.{number, word_bits}
use Rattle.streams.specs.Codes.{Code, total, book_code}
use Rattle.streams.specs.Written.{window_codes, window_bits, words_of}
use Rattle.streams.specs.Looks.{Looked, found, cut, code_at}
use Rattle.streams.specs.Read.{whole, Reading, item_then, on_byte, bytes_from}
use Rattle.streams.specs.Calls.{window_reading}
use Rattle.streams.proofs.Stream.{AllBytes}
use Rattle.streams.proofs.Packing.{Holds, holds_first, holds_rest, book_fits, window_fitting, words_hold, words_room}
use Rattle.streams.proofs.Looking.{code_found, code_is}

-- ---- the most bits

pub window_most : (book window : List ℕ) → AllShaped book → length book ≡ 256 → AllBytes window → total (window_codes book window) ≤ 12 * length window
unfolding window_codes total
window_most book [] s size all = omega arith
window_most book (byte ∷ more) s size all =
    let l = all 0 in
    let shape = s byte (omega arith) in
    omega (arith, shape.most, window_most book more s size (λ i. all (suc i)))

pub window_granted : (book window : List ℕ) → check_of book ≡ accepted [] → length book ≡ 256 → AllBytes window → window_bits book window ≤ 12 * length window + 11
window_granted book window ok size all = omega (arith, window_most book window (book_accepted book ok).1 size all)

-- ---- there and back

-- a reading that ended whole read a byte, and ended whole after it
pub on_byte_is : (r : Looked) (more : ℕ → ℕ → Reading) (last : ℕ) → (on_byte r more).ending ≡ whole last
    → (byte : ℕ) × (next : ℕ) × (r ≡ found byte next) × ((more byte next).ending ≡ whole last)
on_byte_is (found byte next) more last e = (byte, next, refl, e)
on_byte_is (cut bit) more last e = let z : ◌≡◌ {A = ℕ} 0 1 = cc in absurd (omega arith)

module _ (book : List ℕ) (ok : check_of book ≡ accepted []) (n end : ℕ) where
  pub bytes_back : (window : List ℕ) (at : ℕ) → length book ≡ 256 → AllBytes window → Holds n at (window_codes book window)
      → at + total (window_codes book window) + 11 ≤ end
      → bytes_from n end book (length window) at ≡ record { items = window; ending = whole (at + total (window_codes book window)) }
  unfolding window_codes total bytes_from
  bytes_back [] at size all h room = ap (λ (i : ℕ). record { items = []; ending = whole i }) (omega arith)
  bytes_back (byte ∷ more) at size all h room =
      let l = all 0 in
      let inside : byte < length book = omega arith in
      let s = (book_accepted book ok).1 in
      let shape = s byte inside in
      let c : Code = book_code book byte in
      let rest : List Code = window_codes book more in
      let fits = book_fits book byte s inside in
      let step = code_found book ok n end at byte inside (holds_first n at c rest fits h) (omega (arith, shape.least)) in
      let ih = bytes_back more (at + c.count) size (λ i. all (suc i)) (holds_rest n at c rest fits h) (omega arith) in
      ap (λ (r : Looked). on_byte r (λ symbol next. bytes_from n end book (length more) next)) step ∙ ap (item_then byte) ih
      ∙ ap (λ (i : ℕ). record { items = byte ∷ more; ending = whole i }) (omega arith)

  -- each byte takes a bit or more
  pub bytes_end : (count at last : ℕ) → (bytes_from n end book count at).ending ≡ whole last → (at + count ≤ last) × (at ≤ end → last ≤ end)
  unfolding bytes_from
  bytes_end zero at last e = let q : at ≡ last = cc in (omega arith, λ (l : at ≤ end). omega arith)
  bytes_end (suc count) at last e =
      let f = on_byte_is (code_at n end book at) (λ byte next. bytes_from n end book count next) last e in
      let c = code_is book ok n end at f.0 f.1 f.2 in
      let s = c.shape in
      let rest = bytes_end count f.1 last f.3 in
      (omega (arith, rest.0), λ (l : at ≤ end). rest.1 (omega arith))

-- The reading has the bytes of the window and ends whole, after the last code.
pub window_trip : (book window anything : List ℕ) → check_of book ≡ accepted [] → length book ≡ 256 → AllBytes window
    → window_reading book (length window) (words_of (window_codes book window) (window_bits book window) ++ anything)
    ≡ record { items = window; ending = whole (total (window_codes book window)) }
window_trip book window anything ok size all =
    let codes : List Code = window_codes book window in
    let bits : ℕ = window_bits book window in
    let fits = window_fitting book window (book_accepted book ok).1 size all in
    let l : total codes ≤ bits = omega arith in
    let room = words_room codes bits anything fits l in
    bytes_back book ok (number (words_of codes bits ++ anything)) (word_bits (words_of codes bits ++ anything)) window 0 size all
    (words_hold codes bits anything fits l) (omega arith)
    ∙ ap (λ (i : ℕ). record { items = window; ending = whole i }) (zero-add (total codes))
