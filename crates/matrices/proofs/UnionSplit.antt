-- A union can be counted and split: the rows that its present lg_k states are accepted, and hold all of it. Assumes nothing.
use mathlib.Core.Path.{◌≡◌, sym, ap, ap₂, ◌∙◌}
use mathlib.Core.Bool.{false, ◌||◌}
use mathlib.Core.List.{List, [], ◌∷◌}
use Prim.Native.Nat.{ℕ, ◌+◌, ◌-◌, ◌^◌, ◌≤◌}
use native.Mathlib.Omega.{arith}
use borrow.Author.Tests.{le-ltb}
use lib.ListN.{length, take}
use lib.Pow.{pow_mono}
use lib.Seq.{length-take-le, get_or-take}
use Rattle.laws.specs.Below.{sum_below, count_below}
use Rattle.laws.specs.Columns.{has}
use Rattle.laws.proofs.Columns.{has_zero}
use Rattle.laws.proofs.Ones.{count_same}
use Rattle.laws.proofs.Sums.{sum_same, sum_split, sum_zero}
use Rattle.refusals.specs.Outcome.{accepted}
use Rattle.numbers.specs.Calls.{outside}
use Rattle.matrices.specs.Calls.{listed, count_of}
use Rattle.matrices.specs.Matrix.{at, coupons, reserved}
use Rattle.matrices.proofs.Answered.{Split, right_rows}
use Rattle.matrices.proofs.Lasting.{InOrder, clear_by, clear_at}
use Rattle.matrices.proofs.Lawful.{Lawful, lawful_is}

module _ (lg present : ℕ) (m : List ℕ) (u : InOrder lg present m) (small : lg ≤ 26) where
  -- the first k rows, for the present k
  abbrev pub first : List ℕ
  first = take (2 ^ present) m

  abbrev l : Lawful lg present m
  l = lawful_is lg present m u.lawful

  within : 2 ^ present ≤ length m
  within =
      let p : 2 ^ present ≤ 2 ^ lg = pow_mono {i = present} {j = lg} l.most in
      omega (arith, u.rows)

  -- they are k rows
  pub first_rows : length first ≡ 2 ^ present
  first_rows = length-take-le (2 ^ present) m within

  inside : outside present ≡ false
  inside = ap₂ ◌||◌ (le-ltb present 4 l.least) (le-ltb 26 present (omega (arith, l.most)))

  -- their reserved bit is clear
  pub first_clear : reserved present first ≡ false
  first_clear =
      clear_by present first
      (λ q.
      let e : lg ≡ 26 = omega (arith, l.most) in
      let p : 2 ^ present ≡ 2 ^ 26 = ap (λ (x : ℕ). 2 ^ x) q in
      ap (λ (w : ℕ). has w 63) (get_or-take (2 ^ present) m 67108863 0 (omega arith)) ∙ clear_at lg m l.clear e)

  -- they hold all pairs of the union
  pub first_coupons : coupons first ≡ coupons m
  unfolding coupons
  first_coupons =
      let d = length m - 2 ^ present in
      let e : length m ≡ 2 ^ present + d = omega (arith, within) in
      ap (λ (n : ℕ). sum_below n (λ r. count_below 64 (at first r))) first_rows
      ∙ sum_same (2 ^ present) _ (λ r. count_below 64 (at m r)) (λ r h. count_same 64 (at first r) (at m r) (λ c b. ap (λ (w : ℕ). has w c) (get_or-take (2 ^ present) m r 0 h)))
      ∙ sym
      (ap (λ (n : ℕ). sum_below n (λ r. count_below 64 (at m r))) e
      ∙ sum_split (2 ^ present) d (λ r. count_below 64 (at m r))
      ∙ ap (λ (x : ℕ). sum_below (2 ^ present) (λ r. count_below 64 (at m r)) + x)
      (sum_same d _ (λ r. 0) (λ r h. count_same 64 (at m (2 ^ present + r)) (λ c. false) (λ c b. ap (λ (w : ℕ). has w c) (l.rest (2 ^ present + r) (omega arith)) ∙ has_zero c) ∙ sum_zero 64) ∙ sum_zero d)
      ∙ omega arith)

  -- the count is accepted
  pub union_counts : count_of present first ≡ accepted (coupons m ∷ [])
  unfolding count_of
  union_counts = rw (inside, right_rows present first first_rows, first_clear) (ap (λ (n : ℕ). accepted (n ∷ [])) first_coupons)

  -- and so is the split, into a window of k bytes and a list with room for the pairs
  pub union_splits : (window out : List ℕ) → length window ≡ 2 ^ present → length (listed present first) ≤ length out → Split present first window out
  union_splits window out w room = record { inside = inside; rows = first_rows; bytes = w; clear = first_clear; room = room }
