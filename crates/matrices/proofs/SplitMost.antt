-- The surprises are no more than the coupons and the cells below the offset. Assumes nothing.
use mathlib.Core.Bool.{Bool, true, false, not, ◌&&◌}
use mathlib.Core.List.{List}
use Prim.Native.Nat.{ℕ, ◌+◌, ◌*◌, ◌/◌, ◌%◌, ◌≤◌}
use native.Mathlib.Omega.{arith}
use lib.Dec.{ltb}
use lib.ListN.{length, get_or}
use Rattle.laws.specs.Below.{one, count_below}
use Rattle.laws.specs.Columns.{has, differs}
use Rattle.laws.proofs.Ones.{count_same}
use Rattle.laws.proofs.Sums.{sum_add, sum_mono}
use Rattle.laws.proofs.Words.{has_word_of}
use Rattle.matrices.specs.Matrix.{at, coupons, in_window}
use Rattle.matrices.specs.Parts.{surprises_at, surprise_word, surprise_pairs}
use Rattle.matrices.proofs.Bridges.{length_list, count_rows}
use Rattle.matrices.proofs.CouponsHeld.{count_low, sum_const}

-- a column is surprising only if it is set, or below the offset
column_most : (i h l : Bool) → one (not i && differs h l) ≤ one h + one l
column_most true h l = omega arith
column_most false true true = omega arith
column_most false true false = omega arith
column_most false false true = omega arith
column_most false false false = omega arith

-- a row has no more surprises than columns, and the columns below the offset
row_most : (wide : Bool) (o w : ℕ) → o ≤ 64 → count_below 64 (has (surprise_word wide o w)) ≤ count_below 64 (has w) + o
row_most false o w s = omega arith
row_most true o w s =
    omega (
      arith,
      count_same 64 (has (surprises_at o w)) (λ c. not (in_window o c) && differs (has w c) (ltb c o))
          (λ c h. has_word_of 64 (λ d. not (in_window o d) && differs (has w d) (ltb d o)) c h),
      sum_mono 64 (λ c. one (not (in_window o c) && differs (has w c) (ltb c o))) (λ c. one (has w c) + one (ltb c o))
          (λ c h. column_most (in_window o c) (has w c) (ltb c o)),
      sum_add 64 (λ c. one (has w c)) (λ c. one (ltb c o)),
      count_low o s,
    )

pub surprises_most : (wide : Bool) (o : ℕ) (m : List ℕ) → o ≤ 64 → length (surprise_pairs wide o m) ≤ coupons m + o * length m
unfolding surprise_pairs coupons
surprises_most wide o m s =
    omega (
      arith,
      length_list (64 * length m) (λ x. has (surprise_word wide o (get_or m (x / 64) 0)) (x % 64)),
      count_rows (length m) (λ r. has (surprise_word wide o (get_or m r 0))),
      sum_mono (length m) (λ r. count_below 64 (has (surprise_word wide o (get_or m r 0)))) (λ r. count_below 64 (at m r) + o)
          (λ r h. row_most wide o (get_or m r 0) s),
      sum_add (length m) (λ r. count_below 64 (at m r)) (λ r. o),
      sum_const (length m) o,
    )
