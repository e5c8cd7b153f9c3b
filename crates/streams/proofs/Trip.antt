-- There and back: reading the words that an accepted list is written as finds the list, whatever comes after them. Assumes nothing.
use mathlib.Core.Path.{◌≡◌, refl, ap, ap₂, ◌∙◌}
use mathlib.Core.List.{List, [], ◌∷◌, ◌++◌}
use Prim.Native.Nat.{ℕ, suc, ◌+◌, ◌-◌, ◌*◌, ◌/◌, ◌%◌, ◌^◌, ◌≤◌, ◌<◌}
use native.Mathlib.Nat.{zero-add, le_refl}
use native.Mathlib.Omega.{arith}
use lib.ListN.{length, get_or}
use lib.Pow.{split}
use Rattle.refusals.specs.Outcome.{accepted}
use Rattle.numbers.specs.Numbers.{base_bits_at}
use Rattle.books.specs.Book.{length_in, codeword_in}
use Rattle.books.specs.Calls.{check_of}
use Rattle.books.proofs.Accepted.{book_accepted}
use Rattle.pair_lists.specs.Lists.{pairs_judged}
use Rattle.streams.specs.Stream.{number, word_bits, bits_at}
use Rattle.streams.specs.Codes.{Code, total, book_code, zeros_one, low_bits}
use Rattle.streams.specs.Written.{predicted, codes_from, pairs_codes, pairs_bits, words_of}
use Rattle.streams.specs.Looks.{found, row_step_at}
use Rattle.streams.specs.Read.{Step, pair, pair_at, whole, Reading, item_then, on_pair, pairs_from}
use Rattle.streams.specs.Calls.{pairs_reading}
use Rattle.streams.proofs.Rising.{Follows, Rising, none, one, rising}
use Rattle.streams.proofs.Granted.{pad_some}
use Rattle.streams.proofs.Packing.{Holds, holds_first, holds_rest, book_fits, zeros_fit, low_fits, pairs_fitting, words_hold, words_room}
use Rattle.streams.proofs.Looking.{code_found, row_found}
use Rattle.streams.proofs.Stepping.{pair_found}

module _ (book : List ℕ) (ok : check_of book ≡ accepted []) (size : length book ≡ 65) (n end b k : ℕ) (few : k ≤ 2 ^ 26) where
  -- one pair: its three codes at a bit, and room for the looks
  module _ (row next at item : ℕ) (f : Follows k row next item) where
    abbrev y : ℕ
    y = item / 64 - row

    abbrev x : ℕ
    x = item % 64 - predicted y next

    abbrev len : ℕ
    len = length_in (get_or book x 0)

    abbrev z : ℕ
    z = y / 2 ^ b

    read_one : bits_at n at len ≡ codeword_in (get_or book x 0) → bits_at n (at + len) (z + 1) ≡ 2 ^ z → bits_at n (at + len + (z + 1)) b ≡ y % 2 ^ b
        → at + len + (z + 1) + b + (10 - b) ≤ end → pair_at n end book b k row next at ≡ pair (item / 64) (item % 64) (at + len + (z + 1) + b)
    read_one hx hz hl room =
        let inside : x < length book = omega arith in
        let shape = (book_accepted book ok).1 x inside in
        let e : at + len + z + 1 ≡ at + len + (z + 1) = omega arith in
        let step : row_step_at n end b (at + len) ≡ found y (at + len + (z + 1) + b) =
        row_found n end b (at + len) z hz (omega arith) (omega arith)
        ∙ ap₂ found (ap (λ (i : ℕ). z * 2 ^ b + bits_at n i b) e ∙ ap (λ (low : ℕ). z * 2 ^ b + low) hl ∙ split y b) (ap (λ (i : ℕ). i + b) e) in
        pair_found n end book b k row next at (item / 64) (item % 64) (at + len + (z + 1) + b)
        (record {
          column_step = x;
          row_step = y;
          made = record { middle = at + len; code = code_found book ok n end at x inside hx (omega (arith, shape.least)); step = step };
          small = omega (arith, f.below);
          row_is = omega arith;
          column_is = omega arith;
          below = f.below;
          inside = omega arith;
          lawful = λ (q : 64 * (item / 64) + item % 64 ≡ 4294967295). f.lawful (omega arith);
        })

  -- the whole list
  pub there_and_back : {row next : ℕ} {pairs : List ℕ} (at : ℕ) → Rising k row next pairs → Holds n at (codes_from book b row next pairs)
      → at + total (codes_from book b row next pairs) + (10 - b) ≤ end
      → pairs_from n end book b k (length pairs) row next at ≡ record { items = pairs; ending = whole (at + total (codes_from book b row next pairs)) }
  unfolding codes_from total pairs_from
  there_and_back at none h room = ap (λ (i : ℕ). record { items = []; ending = whole i }) (omega arith)
  there_and_back {row} {next} at (one {pair = item} {more = more} f rises) h room =
      let y : ℕ = item / 64 - row in
      let x : ℕ = item % 64 - predicted y next in
      let z : ℕ = y / 2 ^ b in
      let c1 : Code = book_code book x in
      let c2 : Code = zeros_one z in
      let c3 : Code = low_bits b y in
      let rest : List Code = codes_from book b (item / 64) (item % 64 + 1) more in
      let f1 = book_fits book x (book_accepted book ok).1 (omega arith) in
      let at1 : ℕ = at + c1.count in
      let at2 : ℕ = at1 + (z + 1) in
      let at3 : ℕ = at2 + b in
      let r1 = holds_rest n at c1 (c2 ∷ c3 ∷ rest) f1 h in
      let r2 = holds_rest n at1 c2 (c3 ∷ rest) (zeros_fit z) r1 in
      let r3 = holds_rest n at2 c3 rest (low_fits b y) r2 in
      let step =
      read_one row next at item f (holds_first n at c1 (c2 ∷ c3 ∷ rest) f1 h) (holds_first n at1 c2 (c3 ∷ rest) (zeros_fit z) r1)
      (holds_first n at2 c3 rest (low_fits b y) r2) (omega arith) in
      let ih = there_and_back at3 rises r3 (omega arith) in
      ap (λ (s : Step). on_pair s (λ row' column after. pairs_from n end book b k (length more) row' (column + 1) after)) step
      ∙ ap₂ (λ (i : ℕ) (r : Reading). item_then i r) (omega arith) ih
      ∙ ap (λ (i : ℕ). record { items = item ∷ more; ending = whole i }) (omega arith)

-- the words of a list that has its pad
words_trip : (book : List ℕ) (b k bits : ℕ) (pairs anything : List ℕ) → check_of book ≡ accepted [] → length book ≡ 65 → k ≤ 2 ^ 26 → Rising k 0 0 pairs
    → total (codes_from book b 0 0 pairs) + (10 - b) ≤ bits
    → pairs_from (number (words_of (codes_from book b 0 0 pairs) bits ++ anything)) (word_bits (words_of (codes_from book b 0 0 pairs) bits ++ anything)) book b k
    (length pairs) 0 0 0
    ≡ record { items = pairs; ending = whole (total (codes_from book b 0 0 pairs)) }
words_trip book b k bits pairs anything ok size few r enough =
    let codes : List Code = codes_from book b 0 0 pairs in
    let fits = pairs_fitting book b k (book_accepted book ok).1 size r in
    let l : total codes ≤ bits = omega arith in
    let room = words_room codes bits anything fits l in
    there_and_back book ok size (number (words_of codes bits ++ anything)) (word_bits (words_of codes bits ++ anything)) b k few 0 r
    (words_hold codes bits anything fits l) (omega arith)
    ∙ ap (λ (i : ℕ). record { items = pairs; ending = whole i }) (zero-add (total codes))

-- The reading has the items of the list and ends whole, after the last code.
pub pairs_trip : (book : List ℕ) (k : ℕ) (pairs anything : List ℕ) → check_of book ≡ accepted [] → length book ≡ 65 → k ≤ 2 ^ 26 → pairs_judged k pairs ≡ accepted []
    → pairs_reading book k (length pairs) (words_of (pairs_codes book k pairs) (pairs_bits book k pairs) ++ anything)
    ≡ record { items = pairs; ending = whole (total (pairs_codes book k pairs)) }
unfolding codes_from total pairs_from
pairs_trip book k [] anything ok size few e = refl
pairs_trip book k (item ∷ more) anything ok size few e =
    words_trip book (base_bits_at k (suc (length more))) k (pairs_bits book k (item ∷ more)) (item ∷ more) anything ok size few (rising k (item ∷ more) e)
    (rw (pad_some k (suc (length more)) (omega arith)) (le_refl (total (pairs_codes book k (item ∷ more)) + (10 - base_bits_at k (suc (length more))))))
