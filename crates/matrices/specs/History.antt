-- A union, and all sketches that were merged into it. Assumes nothing.
use Rattle.std.specs.Prelude.{ℕ, ◌^◌, min, Bool, false, not, ◌&&◌, ◌||◌, List, [], ◌∷◌, eqb, replicate}
use Rattle.laws.specs.Choose.{choose}
use Rattle.refusals.specs.Outcome.{Outcome, if_accepted}
use Rattle.matrices.specs.Source.{held}
use Rattle.matrices.specs.Calls.{merge_judged, present_after, merged_matrix, down_to}

-- a read sketch
pub record Sketch : Type 0 where
  pub lg : ℕ
  pub seed : ℕ
  pub coupons : ℕ
  pub window : List ℕ
  pub pairs : List ℕ

-- the present lg_k and the matrix of a union; its configured lg_k and its seed never change
pub record Union : Type 0 where
  pub present : ℕ
  pub matrix : List ℕ

-- what a merge judges of a sketch
abbrev pub judged_by : ℕ → ℕ → Union → Sketch → Outcome
judged_by lg seed u s = merge_judged lg u.present seed u.matrix s.lg s.seed s.coupons s.window s.pairs

-- the union after the merge: as it was where the sketch is refused
abbrev pub merged_into : ℕ → ℕ → Union → Sketch → Union
merged_into lg seed u s = record {
  present = if_accepted (judged_by lg seed u s) (present_after u.present s.lg s.coupons) u.present;
  matrix = merged_matrix lg u.present seed u.matrix s.lg s.seed s.coupons s.window s.pairs;
}

abbrev pub new_union : ℕ → Union
new_union lg = record { present = lg; matrix = replicate (2 ^ lg) 0 }

-- a new union, and then one sketch after the other; the last one is the first of the list
unfoldable pub union_of_all : ℕ → ℕ → List Sketch → Union
union_of_all lg seed [] = new_union lg
union_of_all lg seed (s ∷ before) = merged_into lg seed (union_of_all lg seed before) s

-- the sketch is accepted, and not Empty
abbrev pub counts : ℕ → ℕ → Sketch → Bool
counts lg seed s = if_accepted (judged_by lg seed (new_union lg) s) (not (eqb s.coupons 0)) false

-- the least lg_k of the sketches that count, and the configured one
unfoldable pub least_lg : ℕ → ℕ → List Sketch → ℕ
least_lg lg seed [] = lg
least_lg lg seed (s ∷ more) = choose (counts lg seed s) (min (least_lg lg seed more) s.lg) (least_lg lg seed more)

-- (r, c) is (row mod k, column) of a pair of a sketch that counts
unfoldable pub held_by_any : ℕ → ℕ → ℕ → List Sketch → ℕ → ℕ → Bool
held_by_any lg seed k [] r c = false
held_by_any lg seed k (s ∷ more) r c =
    (counts lg seed s && down_to k (2 ^ s.lg) (held (2 ^ s.lg) s.coupons s.window s.pairs) r c) || held_by_any lg seed k more r c
