-- The loop that writes a matrix row by row. Assumes nothing.
use mathlib.Core.Path.{◌≡◌, sym, ap, ◌∙◌}
use mathlib.Core.Bool.{Bool}
use mathlib.Core.List.{List}
use Prim.Native.Nat.{ℕ, ◌+◌, ◌<◌}
use native.Mathlib.Omega.{arith}
use lib.ListN.{length, get_or, set}
use Rattle.matrices.specs.Matrix.{matrix_of}
use Rattle.matrices.proofs.Rewriting.{rewritten, rewritten_turn, rewritten_end}
use Rattle.matrices.proofs.Rows.{length_matrix}

-- a row more of a matrix that is given by a test
module _ (m : List ℕ) (k : ℕ) (f : ℕ → ℕ → Bool) (long : length m ≡ k) where
  -- the row is stored
  pub expand_turn : (r v : ℕ) → r < k → v ≡ get_or (matrix_of k f) r 0 → set (rewritten m (matrix_of k f) r) r v ≡ rewritten m (matrix_of k f) (r + 1)
  expand_turn r v h e = rewritten_turn m (matrix_of k f) (long ∙ sym (length_matrix k f)) r v (omega (arith, length_matrix k f)) e

  -- after the last row
  pub expand_end : rewritten m (matrix_of k f) k ≡ matrix_of k f
  expand_end = ap (rewritten m (matrix_of k f)) (sym (length_matrix k f)) ∙ rewritten_end m (matrix_of k f) (long ∙ sym (length_matrix k f))
