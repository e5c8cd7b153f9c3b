-- The bits before the end of a whole reading decide it: the pad, and what follows, decide nothing. Assumes nothing.
use mathlib.Core.Path.{◌≡◌, refl, sym, ap, ap₂, ◌∙◌}
use mathlib.Core.List.{List, [], ◌++◌}
use Prim.Native.Nat.{ℕ, zero, suc, ◌+◌, ◌-◌, ◌*◌, ◌^◌, ◌≤◌, min}
use native.Mathlib.Omega.{arith}
use lib.ListN.{get_or, length-append}
use Rattle.refusals.specs.Outcome.{accepted}
use Rattle.numbers.specs.Numbers.{base_bits_at}
use Rattle.books.specs.Book.{length_in}
use Rattle.books.specs.Calls.{check_of}
use Rattle.streams.specs.Stream.{number, word_bits, bits_at}
use Rattle.streams.specs.Looks.{Looked, found, code_at}
use Rattle.streams.specs.Read.{Step, pair, fault, Ending, whole, faulty, Reading, item_then, pair_at, on_pair, on_byte, pairs_from, bytes_from}
use Rattle.streams.specs.Calls.{pairs_reading, window_reading}
use Rattle.streams.proofs.Stream.{same_field, append_same}
use Rattle.streams.proofs.Looking.{CodeIs, code_found, code_is, row_found, row_is}
use Rattle.streams.proofs.Stepping.{Made, bit_of, Uncut, pair_uncut, pair_made, made_pair}
use Rattle.streams.proofs.Two.{two_bits}
use Rattle.streams.proofs.Windows.{on_byte_is, bytes_end}

-- a reading that ended at a bit by what it had read: whole, or by any fault but 6
abbrev pub Decided : Ending → ℕ → Type 0
Decided (whole next) last = next ≡ last
Decided (faulty number bit) last = (number ≡ 6 → ⊥) × (bit ≡ last)

-- two streams that agree up to the end of a reading of the first
module _ (book : List ℕ) (ok : check_of book ≡ accepted []) (n end n' end' last : ℕ) (same : bits_at n 0 last ≡ bits_at n' 0 last) where
  -- a code, where the second has room for the look
  code_agrees : (at symbol q : ℕ) → CodeIs n end book at symbol q → q ≤ last → at + 12 ≤ end' → code_at n' end' book at ≡ found symbol q
  code_agrees at symbol q c l room =
      code_found book ok n' end' at symbol c.inside (sym (same_field n n' last at (length_in (get_or book symbol 0)) same (omega arith)) ∙ c.spelled) room
      ∙ ap (found symbol) (sym c.after)

  -- every look of a pair ends at most 10 - b bits past the pair: the second has room for those that the first had room for
  module _ (b k : ℕ) (reach : min end (last + (10 - b)) ≤ end') where
    looks_agree : {at x y q : ℕ} → Made n end book b at x y q → q ≤ last → Made n' end' book b at x y q
    looks_agree {at} {x} {y} {q} m l =
        let c = code_is book ok n end at x m.middle m.code in
        let r = row_is n end b m.middle y q m.step in
        let s = c.shape in
        let z : ℕ = r.zeros in
        record {
          middle = m.middle;
          code = code_agrees at x m.middle c (omega arith) (omega arith);
          step =
              row_found n' end' b m.middle z (sym (same_field n n' last m.middle (z + 1) same (omega arith)) ∙ r.spelled) (omega arith) (omega arith)
              ∙ ap₂ found
              (ap (λ (low : ℕ). z * 2 ^ b + low) (sym (same_field n n' last (m.middle + z + 1) b same (omega arith))) ∙ sym r.is)
              (sym r.after);
        }

    module _ (row next at : ℕ) where
      -- one step
      step_agrees : (s : Step) → pair_at n end book b k row next at ≡ s → Uncut s → bit_of s ≤ last
          → (at ≤ last) × (bit_of s ≤ end) × (pair_at n' end' book b k row next at ≡ s)
      step_agrees s e h l =
          let m = pair_made n end book b k row next at s e h in
          let t = two_bits book ok n end b m.2 in
          (omega (arith, t.0), t.1, made_pair n' end' book b k row next at (looks_agree m.2 l) ∙ m.3)

      -- one step and the rest
      on_agrees : (s : Step) (more more' : ℕ → ℕ → ℕ → Reading) → pair_at n end book b k row next at ≡ s
          → ((r c q : ℕ) → Decided (more r c q).ending last → (q ≤ last) × (q ≤ end → last ≤ end) × (more' r c q ≡ more r c q)) → Decided (on_pair s more).ending last
          → (at ≤ last) × (at ≤ end → last ≤ end) × (on_pair (pair_at n' end' book b k row next at) more' ≡ on_pair s more)
      on_agrees (pair r c q) more more' e ih d =
          let i = ih r c q d in
          let t = step_agrees (pair r c q) e (pair_uncut r c q) i.0 in
          (t.0, λ l. i.1 t.1, ap (λ (s : Step). on_pair s more') t.2 ∙ ap (item_then (64 * r + c)) i.2)
      on_agrees (fault number bit) more more' e ih d =
          let t = step_agrees (fault number bit) e (λ (q : fault number bit ≡ fault 6 bit). d.0 (cc)) (omega (arith, d.1)) in
          (t.0, λ l. omega (arith, t.1, d.1), ap (λ (s : Step). on_pair s more') t.2)

    pub pairs_agree_from : (count row next at : ℕ) → Decided (pairs_from n end book b k count row next at).ending last
        → (at ≤ last) × (at ≤ end → last ≤ end) × (pairs_from n' end' book b k count row next at ≡ pairs_from n end book b k count row next at)
    unfolding pairs_from
    pairs_agree_from zero row next at d = (omega arith, λ (l : at ≤ end). omega arith, refl)
    pairs_agree_from (suc count) row next at d =
        on_agrees row next at (pair_at n end book b k row next at) (λ r c q. pairs_from n end book b k count r (c + 1) q)
        (λ r c q. pairs_from n' end' book b k count r (c + 1) q) refl (λ r c q. pairs_agree_from count r (c + 1) q) d

  -- the same of window bytes, whose looks end at most 11 bits past them
  pub bytes_agree_from : (count at : ℕ) → min end (last + 11) ≤ end' → (bytes_from n end book count at).ending ≡ whole last
      → bytes_from n' end' book count at ≡ bytes_from n end book count at
  unfolding bytes_from
  bytes_agree_from zero at reach e = refl
  bytes_agree_from (suc count) at reach e =
      let f = on_byte_is (code_at n end book at) (λ byte next. bytes_from n end book count next) last e in
      let c = code_is book ok n end at f.0 f.1 f.2 in
      let s = c.shape in
      let rest = (bytes_end book ok n end count f.1 last f.3).0 in
      let there = code_agrees at f.0 f.1 c (omega arith) (omega arith) in
      ap (λ (r : Looked). on_byte r (λ byte next. bytes_from n' end' book count next)) there
      ∙ ap (item_then f.0) (bytes_agree_from count f.1 reach f.3)
      ∙ ap (λ (r : Looked). on_byte r (λ byte next. bytes_from n end book count next)) (sym f.2)

-- ---- of streams

pub pairs_agree : (book : List ℕ) (k count : ℕ) (stream stream' : List ℕ) (next : ℕ) → check_of book ≡ accepted []
    → Decided (pairs_reading book k count stream).ending next → bits_at (number stream) 0 next ≡ bits_at (number stream') 0 next
    → min (word_bits stream) (next + (10 - base_bits_at k count)) ≤ word_bits stream' → pairs_reading book k count stream' ≡ pairs_reading book k count stream
pairs_agree book k count stream stream' next ok d same reach =
    (pairs_agree_from book ok (number stream) (word_bits stream) (number stream') (word_bits stream') next same (base_bits_at k count) k reach count 0 0 0 d).2

pub window_agree : (book : List ℕ) (k : ℕ) (stream stream' : List ℕ) (next : ℕ) → check_of book ≡ accepted []
    → (window_reading book k stream).ending ≡ whole next → bits_at (number stream) 0 next ≡ bits_at (number stream') 0 next
    → min (word_bits stream) (next + 11) ≤ word_bits stream' → window_reading book k stream' ≡ window_reading book k stream
window_agree book k stream stream' next ok e same reach =
    bytes_agree_from book ok (number stream) (word_bits stream) (number stream') (word_bits stream') next same k 0 reach e

-- what follows a stream that is read decides nothing
pub pairs_more : (book : List ℕ) (k count : ℕ) (stream anything : List ℕ) (next : ℕ) → check_of book ≡ accepted []
    → Decided (pairs_reading book k count stream).ending next → pairs_reading book k count (stream ++ anything) ≡ pairs_reading book k count stream
pairs_more book k count stream anything next ok d =
    let n : ℕ = number stream in
    let end : ℕ = word_bits stream in
    let l : next ≤ end = (pairs_agree_from book ok n end n end next refl (base_bits_at k count) k (omega arith) count 0 0 0 d).1 (omega arith) in
    pairs_agree book k count stream (stream ++ anything) next ok d (append_same stream anything next (omega arith)) (omega (arith, length-append stream anything))

pub window_more : (book : List ℕ) (k : ℕ) (stream anything : List ℕ) (next : ℕ) → check_of book ≡ accepted []
    → (window_reading book k stream).ending ≡ whole next → window_reading book k (stream ++ anything) ≡ window_reading book k stream
window_more book k stream anything next ok e =
    let l : next ≤ word_bits stream = (bytes_end book ok (number stream) (word_bits stream) k 0 next e).1 (omega arith) in
    window_agree book k stream (stream ++ anything) next ok e (append_same stream anything next (omega arith)) (omega (arith, length-append stream anything))
