-- Stretches of rows that are their window bytes. Assumes nothing.
use mathlib.Core.Path.{◌≡◌, ap, ◌∙◌}
use mathlib.Core.Bool.{Bool, ◌||◌}
use mathlib.Core.List.{List}
use Prim.Native.Nat.{ℕ, ◌+◌, ◌*◌, ◌/◌, ◌%◌, ◌≤◌, ◌<◌}
use native.Mathlib.Nat.{mod-add-div'}
use native.Mathlib.Omega.{arith}
use lib.Arith.{digits_mod}
use lib.ListN.{length, get_or, set, length-set}
use Rattle.laws.specs.Columns.{has, word_of}
use Rattle.matrices.specs.Matrix.{at, matrix_of}
use Rattle.matrices.specs.Shapes.{merged, joined_at}
use Rattle.matrices.proofs.Merging.{merge_turn}
use Rattle.unions.specs.Steps.{Stretched}

-- rows that follow each other fall on rows that follow each other, up to k
pub falls_next : (k row d : ℕ) → row % k + d < k → (row + d) % k ≡ row % k + d
falls_next k row d h =
    let e : row % k + row / k * k ≡ row = mod-add-div' row k in
    let q : row + d ≡ row / k * k + (row % k + d) = omega arith in
    ap (λ (x : ℕ). x % k) q ∙ digits_mod (row / k) h

module _ (k o : ℕ) (window : List ℕ) (from : ℕ) (before : List ℕ) where
  pub stretch_turn : (pos : 0 < k) (r t : ℕ) (now : List ℕ) → k ≤ length before → from ≤ r → t ≡ r % k → Stretched k o window from r before now
      → Stretched k o window from (r + 1) before (set now t (word_of 64 (λ c. at now t c || has (joined_at o (get_or window r 0) 0) c)))
  stretch_turn pos r t now h l et s = record {
    long = length-set now t _ ∙ s.long;
    rows = λ m src same n e.
        let is = s.rows m src (λ u c a b d. same u c a (omega arith) d) n e in
        ap (λ (x : ℕ). set now x (word_of 64 (λ c. at now x c || has (joined_at o (get_or window r 0) 0) c))) et
        ∙ ap (λ (x : List ℕ). set x (r % k) (word_of 64 (λ c. at x (r % k) c || has (joined_at o (get_or window r 0) 0) c))) is
        ∙ merge_turn m k pos src r (omega arith) (λ c. at (matrix_of (length m) (merged k r m src)) (r % k) c || has (joined_at o (get_or window r 0) 0) c)
        (λ c d. ap (λ (b : Bool). at (matrix_of (length m) (merged k r m src)) (r % k) c || b) (same r c l (omega arith) d));
  }
