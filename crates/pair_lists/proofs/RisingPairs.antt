-- A list that rises: the last pair decides for all. Assumes nothing.
use mathlib.Core.Path.{◌≡◌, sym, ap, subst, ◌∙◌}
use mathlib.Core.Logic.{⊎_elim}
use mathlib.Core.Bool.{Bool, true}
use mathlib.Core.List.{List, [], ◌∷◌}
use Prim.Native.Nat.{ℕ, zero, suc, ◌+◌, ◌-◌, ◌/◌, ◌≤◌, ◌<◌}
use native.Mathlib.Numerals.{add-one}
use native.Mathlib.Omega.{arith}
use lib.ListN.{length, get_or}
use Rattle.std.specs.Prelude.{Some, None, slice_get}
use Rattle.std.proofs.lemmas.Option.{none-some, slice_get_within, get_or_from_slice_get, slice_get-get_or}
use Rattle.laws.proofs.Orders.{lt_or_le}
use Rattle.refusals.specs.Outcome.{accepted}
use Rattle.pair_lists.specs.Lists.{pairs_judged}
use Rattle.pair_lists.specs.Steps.{RisesTo}
use Rattle.pair_lists.proofs.Judging.{Judging, judging_start, judging_turn, judging_end}

module _ (pairs : List ℕ) where
  abbrev pair_at : ℕ → ℕ
  pair_at i = get_or pairs i 0

  -- ---- the pass

  -- what holds at its head
  pub record Rising (rises : Bool) (i : ℕ) : Type 0 where
    pub begun : 0 < i
    pub so_far : rises ≡ true → RisesTo pairs i

  pub rising_start : Rising true 1
  rising_start = record { begun = omega arith; so_far = λ _ j l. absurd (omega arith) }

  one_more : (i : ℕ) → 0 < i → RisesTo pairs i → pair_at (i - 1) < pair_at i → RisesTo pairs (i + 1)
  one_more i p r above j l =
      ⊎_elim (λ (h : j + 1 < i). r j h)
      (λ (h : i ≤ j + 1).
      let last : i ≡ j + 1 = omega arith in
      let before : i - 1 ≡ j = omega arith in
      subst (λ (x : ℕ). get_or pairs j 0 < get_or pairs x 0) last (subst (λ (x : ℕ). get_or pairs x 0 < get_or pairs i 0) before above)) (lt_or_le (j + 1) i)

  pub rising_turn : (rises rises' : Bool) (i : ℕ) → Rising rises i → (rises' ≡ true → (rises ≡ true) × (pair_at (i - 1) < pair_at i)) → Rising rises' (i + 1)
  rising_turn rises rises' i r still = record {
    begun = omega arith;
    so_far = λ e. one_more i r.begun (r.so_far (still e).0) (still e).1;
  }

  pub rising_end : (rises : Bool) (i : ℕ) → Rising rises i → length pairs ≤ i → rises ≡ true → RisesTo pairs (length pairs)
  rising_end rises i r l e j h = r.so_far e j (omega arith)

  -- ---- the verdict

  module _ (k : ℕ) (rises : RisesTo pairs (length pairs)) (some : 0 < length pairs) (row : pair_at (length pairs - 1) / 64 < k)
      (free : pair_at (length pairs - 1) ≡ 4294967295 → ⊥) (word : pair_at (length pairs - 1) < 4294967296) where
    -- no pair is above a later one
    below : (d i : ℕ) → i + d < length pairs → pair_at i ≤ pair_at (i + d)
    below zero i l = let same : pair_at i ≡ pair_at (i + 0) = ap pair_at (omega arith) in omega arith
    below (suc d) i l =
        let before : pair_at i ≤ pair_at (i + d) = below d i (omega arith) in
        let step : pair_at (i + d) < pair_at (i + d + 1) = rises (i + d) (omega arith) in
        let same : pair_at (i + d + 1) ≡ pair_at (i + suc d) = ap pair_at (omega arith) in
        omega arith

    below_last : (i : ℕ) → i < length pairs → pair_at i ≤ pair_at (length pairs - 1)
    below_last i l = subst (λ (j : ℕ). pair_at i ≤ pair_at j) (omega arith) (below (length pairs - 1 - i) i (omega arith))

    -- the least number that the pair at i may be
    least_at : ℕ → ℕ
    least_at zero = 0
    least_at (suc i) = pair_at i + 1

    least_kept : (i : ℕ) → i < length pairs → least_at i ≤ pair_at i
    unfolding least_at
    least_kept zero l = omega arith
    least_kept (suc i) l =
        let step : pair_at i < pair_at (i + 1) = rises i (omega arith) in
        let same : pair_at (i + 1) ≡ pair_at (suc i) = ap pair_at (add-one i) in
        omega arith

    passed : (i : ℕ) → i ≤ length pairs → Judging k pairs (least_at i) i
    unfolding least_at
    passed zero l = judging_start k pairs
    passed (suc i) l =
        let at_last = below_last i (omega arith) in
        subst (λ (j : ℕ). Judging k pairs (pair_at i + 1) j) (add-one i)
        (judging_turn k pairs (least_at i) i (passed i (omega arith)) (omega arith) (omega arith) (least_kept i (omega arith)) (λ e. free (omega arith)))

    pub rising_accepted : accepted [] ≡ pairs_judged k pairs
    rising_accepted = judging_end k pairs (least_at (length pairs)) (length pairs) (passed (length pairs) (omega arith)) (omega arith)

slice_get_none : (pairs : List ℕ) → slice_get pairs (length pairs - 1) ≡ None → length pairs ≤ 0
slice_get_none [] none = omega arith
slice_get_none (pair ∷ more) none = absurd (none-some _ (sym none ∙ slice_get-get_or (pair ∷ more) (length (pair ∷ more) - 1) 0 (omega arith)))

-- a list with no last pair is free of faults
pub no_last : (k : ℕ) (pairs : List ℕ) → slice_get pairs (length pairs - 1) ≡ None → pairs_judged k pairs ≡ accepted []
no_last k pairs none = sym (judging_end k pairs 0 0 (judging_start k pairs) (slice_get_none pairs none))

-- a list that rises to a pair that is free of faults
pub last_decides : (k : ℕ) (pairs : List ℕ) (last : ℕ) → slice_get pairs (length pairs - 1) ≡ Some last → get_or pairs (length pairs - 1) 0 < 4294967296
    → last / 64 < k → (last ≡ 4294967295 → ⊥) → RisesTo pairs (length pairs) → pairs_judged k pairs ≡ accepted []
last_decides k pairs last is word row free rises =
    let same : get_or pairs (length pairs - 1) 0 ≡ last = get_or_from_slice_get pairs _ last 0 is in
    let some : 0 < length pairs = omega (arith, slice_get_within pairs _ last is) in
    sym (rising_accepted pairs k rises some (subst (λ (p : ℕ). p / 64 < k) (sym same) row) (λ e. free (sym same ∙ e)) word)
