-- The pairs of any reading, however it ended, are a list that is accepted. Assumes nothing.
use mathlib.Core.Path.{◌≡◌, refl, sym, subst, subst₂}
use mathlib.Core.List.{List, [], ◌∷◌}
use Prim.Native.Nat.{ℕ, zero, suc, ◌+◌, ◌-◌, ◌*◌, ◌/◌, ◌%◌, ◌≤◌}
use native.Mathlib.Omega.{arith}
use Rattle.refusals.specs.Outcome.{accepted}
use Rattle.numbers.specs.Numbers.{base_bits_at}
use Rattle.pair_lists.specs.Lists.{pairs_judged}
use Rattle.streams.specs.Stream.{number, word_bits}
use Rattle.streams.specs.Written.{predicted}
use Rattle.streams.specs.Read.{Step, pair, fault, Reading, pair_at, on_pair, pairs_from}
use Rattle.streams.specs.Calls.{pairs_reading}
use Rattle.streams.proofs.Rising.{Follows, Rising, none, one, judged}
use Rattle.streams.proofs.Stepping.{PairIs, pair_is}

module _ (n end : ℕ) (book : List ℕ) (b k : ℕ) where
  follows_read : {row next at row' column q : ℕ} → PairIs n end book b k row next at row' column q → Follows k row next (64 * row' + column)
  follows_read {row} {next} {at} {row'} {column} p =
      let e : (64 * row' + column) / 64 - row ≡ p.row_step = omega arith in
      record {
        below = omega arith;
        lawful = p.lawful;
        rises = omega arith;
        right = subst (λ (y : ℕ). predicted y next ≤ (64 * row' + column) % 64) (sym e) (omega arith);
      }

  rising_on : {row next : ℕ} (s : Step) (more : ℕ → ℕ → ℕ → Reading)
      → ((row' column q : ℕ) → s ≡ pair row' column q → Rising k row next ((64 * row' + column) ∷ (more row' column q).items))
      → Rising k row next (on_pair s more).items
  rising_on (pair row' column q) more h = h row' column q refl
  rising_on (fault number bit) more h = none

  pub rising_read : (count row next at : ℕ) → Rising k row next (pairs_from n end book b k count row next at).items
  unfolding pairs_from
  rising_read zero row next at = none
  rising_read (suc count) row next at =
      rising_on (pair_at n end book b k row next at) (λ row' column after. pairs_from n end book b k count row' (column + 1) after)
      (λ row' column q e.
      let p = pair_is n end book b k row next at row' column q e in
      one (follows_read p)
      (subst₂ (λ (r c : ℕ). Rising k r (c + 1) (pairs_from n end book b k count row' (column + 1) q).items) (omega (arith, p.inside)) (omega (arith, p.inside))
      (rising_read count row' (column + 1) q)))

pub pairs_lawful : (book : List ℕ) (k count : ℕ) (stream : List ℕ) → pairs_judged k (pairs_reading book k count stream).items ≡ accepted []
pairs_lawful book k count stream = judged (rising_read (number stream) (word_bits stream) book (base_bits_at k count) k count 0 0 0)
