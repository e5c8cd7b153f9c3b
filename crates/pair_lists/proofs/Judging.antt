-- The pass over the pairs: the rest of the list decides. Assumes nothing.
use mathlib.Core.Path.{◌≡◌, refl, sym, ap, ◌∙◌}
use mathlib.Core.List.{List, [], ◌∷◌}
use Prim.Native.Nat.{ℕ, suc, ◌+◌, ◌/◌, ◌≤◌, ◌<◌}
use native.Mathlib.Numerals.{add-one}
use native.Mathlib.Omega.{arith}
use borrow.Author.Tests.{lt-ltb, le-ltb, eq-eqb, ne_eqb}
use lib.ListN.{length, get_or, drop, drop_of_length-le}
use lib.Seq.{drop-cons}
use Rattle.refusals.specs.Outcome.{accepted, refused}
use Rattle.pair_lists.specs.Lists.{judged_from, pairs_judged}

-- what holds at the head of the pass
pub record Judging (k : ℕ) (pairs : List ℕ) (least i : ℕ) : Type 0 where
  pub within : i ≤ length pairs
  pub rest : judged_from k i least (drop i pairs) ≡ pairs_judged k pairs

pub judging_start : (k : ℕ) (pairs : List ℕ) → Judging k pairs 0 0
judging_start k pairs = record { within = omega arith; rest = refl }

pub judging_end : (k : ℕ) (pairs : List ℕ) (least i : ℕ) → Judging k pairs least i → length pairs ≤ i → accepted [] ≡ pairs_judged k pairs
unfolding judged_from
judging_end k pairs least i j l = sym (ap (judged_from k i least) (drop_of_length-le pairs l)) ∙ j.rest

module _ (k : ℕ) (pairs : List ℕ) (least i : ℕ) (j : Judging k pairs least i) (l : i < length pairs) where
  abbrev pair : ℕ
  pair = get_or pairs i 0

  here : judged_from k i least (pair ∷ drop (suc i) pairs) ≡ pairs_judged k pairs
  here = ap (judged_from k i least) (sym (drop-cons pairs i 0 l)) ∙ j.rest

  pub row_stops : k ≤ pair / 64 → refused 8 i ≡ pairs_judged k pairs
  unfolding judged_from
  row_stops h = simp (le-ltb (pair / 64) k h) at here

  pub order_stops : pair / 64 < k → pair < least → refused 11 i ≡ pairs_judged k pairs
  unfolding judged_from
  order_stops h o = simp (lt-ltb (pair / 64) k h, lt-ltb pair least o) at here

  pub reserved_stops : pair / 64 < k → least ≤ pair → pair ≡ 4294967295 → refused 10 i ≡ pairs_judged k pairs
  unfolding judged_from
  reserved_stops h o e = simp (lt-ltb (pair / 64) k h, le-ltb pair least o, eq-eqb pair 4294967295 e) at here

  pub judging_turn : pair / 64 < k → least ≤ pair → (pair ≡ 4294967295 → ⊥) → Judging k pairs (pair + 1) (i + 1)
  unfolding judged_from
  judging_turn h o n = record {
    within = omega arith;
    rest = rw (add-one i, add-one pair) (simp (lt-ltb (pair / 64) k h, le-ltb pair least o, ne_eqb pair 4294967295 n) at here);
  }

pub ruleset judgings = (judging_start, judging_end, judging_turn, row_stops, order_stops, reserved_stops)
