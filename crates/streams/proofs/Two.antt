-- A pair that is read takes two bits or more, one of its code and the one that ends its zeros: so a stream has few pairs. Assumes nothing.
use mathlib.Core.Path.{◌≡◌}
use mathlib.Core.List.{List, []}
use Prim.Native.Nat.{ℕ, zero, suc, ◌+◌, ◌*◌, ◌≤◌}
use native.Mathlib.Omega.{arith}
use lib.ListN.{length}
use Rattle.refusals.specs.Outcome.{accepted}
use Rattle.numbers.specs.Numbers.{base_bits_at}
use Rattle.books.specs.Calls.{check_of}
use Rattle.streams.specs.Stream.{number, word_bits}
use Rattle.streams.specs.Read.{pair, whole, pair_at, pairs_from}
use Rattle.streams.specs.Calls.{pairs_reading}
use Rattle.streams.proofs.Looking.{code_is, row_is}
use Rattle.streams.proofs.Stepping.{Made, pair_made, pair_uncut, on_pair_is}

module _ (book : List ℕ) (ok : check_of book ≡ accepted []) (n end b : ℕ) where
  pub two_bits : {at x y q : ℕ} → Made n end book b at x y q → (at + 2 ≤ q) × (q ≤ end)
  two_bits {at} {x} {y} {q} m =
      let c = code_is book ok n end at x m.middle m.code in
      let r = row_is n end b m.middle y q m.step in
      let s = c.shape in
      (omega arith, omega arith)

  -- a reading that ends whole
  pub pairs_end : (k count row next at last : ℕ) → (pairs_from n end book b k count row next at).ending ≡ whole last
      → (at + 2 * count ≤ last) × (at ≤ end → last ≤ end)
  unfolding pairs_from
  pairs_end k zero row next at last e = let q : at ≡ last = cc in (omega arith, λ (l : at ≤ end). omega arith)
  pairs_end k (suc count) row next at last e =
      let f = on_pair_is (pair_at n end book b k row next at) (λ row' column after. pairs_from n end book b k count row' (column + 1) after) last e in
      let t = two_bits (pair_made n end book b k row next at (pair f.0 f.1 f.2) f.3 (pair_uncut f.0 f.1 f.2)).2 in
      let rest = pairs_end k count f.0 (f.1 + 1) f.2 last f.4 in
      (omega (arith, t.0, rest.0), λ (l : at ≤ end). rest.1 t.1)

-- for a passing book, a stream of so many whole words has at most half as many pairs as bits
pub pairs_two : (book : List ℕ) (k count : ℕ) (stream : List ℕ) (next : ℕ) → check_of book ≡ accepted [] → (pairs_reading book k count stream).ending ≡ whole next
    → (2 * count ≤ next) × (next ≤ word_bits stream)
pairs_two book k count stream next ok e =
    let p = pairs_end book ok (number stream) (word_bits stream) (base_bits_at k count) k count 0 0 0 next e in
    (omega (arith, p.0), p.1 (omega arith))

pub pairs_few : (book : List ℕ) (k count : ℕ) (stream : List ℕ) (next : ℕ) → check_of book ≡ accepted [] → (pairs_reading book k count stream).ending ≡ whole next
    → (2 * count ≤ word_bits stream) × (count ≤ 4 * length stream)
pairs_few book k count stream next ok e = let p = pairs_two book k count stream next ok e in (omega (arith, p.0, p.1), omega (arith, p.0, p.1))
