-- Wrong programs that no edit of the code makes, each excluded on a named input. Assumes nothing.
use mathlib.Core.Path.{◌≡◌, refl, sym, ap, ◌∙◌}
use mathlib.Core.List.{List, [], ◌∷◌}
use Prim.Native.Nat.{ℕ}
use native.Mathlib.Omega.{arith}
use lib.ListN.{get_or, replicate}
use Rattle.laws.specs.Below.{any_below, sum_below, every_below}
use Rattle.laws.specs.Columns.{has, word_of}
use Rattle.numbers.specs.Numbers.{flavor_at, offset_at}
use Rattle.refusals.specs.Outcome.{refused}
use Rattle.pair_lists.specs.Lists.{judged_from}
use Rattle.matrices.specs.Matrix.{matrix_of, coupons}
use Rattle.matrices.specs.Listing.{in_list}
use Rattle.matrices.specs.Source.{held, source_judged}
use Rattle.matrices.specs.Calls.{lawful_union, merge_judged, merged_at}
use Rattle.matrices.specs.History.{Sketch, judged_by, merged_into, new_union, union_of_all}

-- two Sparse sketches at lg_k 4 with one pair each: row 0 column 5, and row 1 column 6
abbrev pub first : Sketch
first = record { lg = 4; seed = 9001; coupons = 1; window = []; pairs = 5 ∷ [] }

abbrev pub second : Sketch
second = record { lg = 4; seed = 9001; coupons = 1; window = []; pairs = 70 ∷ [] }

-- row 1 of a union that took both
both : get_or (union_of_all 4 9001 (second ∷ first ∷ [])).matrix 1 0 ≡ 64
unfolding union_of_all merge_judged source_judged lawful_union held merged_at in_list matrix_of coupons judged_from flavor_at offset_at any_below sum_below every_below has word_of
both = refl

alone : get_or (union_of_all 4 9001 (first ∷ [])).matrix 1 0 ≡ 0
unfolding union_of_all merge_judged source_judged lawful_union held merged_at in_list matrix_of coupons judged_from flavor_at offset_at any_below sum_below every_below has word_of
alone = refl

-- a union that takes only its first source does not hold what the rule says
pub first_only : (union_of_all 4 9001 (second ∷ first ∷ [])).matrix ≡ (union_of_all 4 9001 (first ∷ [])).matrix → ⊥
first_only e = let z : ◌≡◌ {A = ℕ} 64 0 = sym both ∙ ap (λ (m : List ℕ). get_or m 1 0) e ∙ alone in omega arith

-- the first sketch with another seed is refused by 16, and the matrix stays as it was: a merge that has already written then leaves 32 in row 0
abbrev pub stranger : Sketch
stranger = record { lg = 4; seed = 9002; coupons = 1; window = []; pairs = 5 ∷ [] }

pub refused_kept : (judged_by 4 9001 (new_union 4) stranger ≡ refused 16 0) × ((merged_into 4 9001 (new_union 4) stranger).matrix ≡ replicate 16 0)
unfolding merge_judged source_judged lawful_union held merged_at in_list matrix_of coupons judged_from flavor_at offset_at any_below sum_below every_below has word_of
refused_kept = (refl, refl)
