-- A row of a source, put together from its window byte and its pairs. Assumes nothing.
use mathlib.Core.Path.{◌≡◌, ap, ◌∙◌}
use mathlib.Core.Bool.{Bool, not, ◌&&◌, ◌||◌}
use mathlib.Core.List.{List}
use Prim.Native.Nat.{ℕ, ◌+◌, ◌-◌, ◌*◌, ◌<◌}
use lib.Dec.{ltb}
use lib.ListN.{get_or}
use Rattle.laws.specs.Columns.{has, word_of, differs}
use Rattle.laws.proofs.Words.{has_word_of}
use Rattle.matrices.specs.Listing.{in_list}
use Rattle.matrices.specs.Matrix.{in_window}
use Rattle.matrices.specs.Shapes.{joined_at}
use Rattle.matrices.specs.Source.{expanded}

-- a row, column by column
pub join_expanded : (o : ℕ) (window ps : List ℕ) (r s c : ℕ) → s ≡ word_of 64 (λ d. in_list ps (64 * r + d)) → c < 64
    → has (joined_at o (get_or window r 0) s) c ≡ expanded o window ps r c
join_expanded o window ps r s c e l =
    has_word_of 64 (λ d. (in_window o d && has (get_or window r 0) (d - o)) || (not (in_window o d) && differs (has s d) (ltb d o))) c l
    ∙ ap (λ (t : Bool). (in_window o c && has (get_or window r 0) (c - o)) || (not (in_window o c) && differs t (ltb c o)))
    (ap (λ (x : ℕ). has x c) e ∙ has_word_of 64 (λ d. in_list ps (64 * r + d)) c l)
