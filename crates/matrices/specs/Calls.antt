-- What the calls on matrices and unions answer, and what they leave. Assumes nothing.
use Rattle.std.specs.Prelude.{ℕ, ◌*◌, ◌%◌, ◌^◌, min, Bool, not, ◌&&◌, ◌||◌, List, [], ◌∷◌, ◌++◌, map, eqb, leb, ltb, length, get_or, drop, replicate}
use Rattle.laws.specs.Choose.{choose}
use Rattle.laws.specs.Below.{every_below, any_below}
use Rattle.refusals.specs.Outcome.{Outcome, accepted, refused, if_accepted, and_then}
use Rattle.numbers.specs.Numbers.{flavor_at, offset_at}
use Rattle.numbers.specs.Calls.{outside}
use Rattle.numbers.specs.Told.{flavor_number}
use Rattle.matrices.specs.Matrix.{at, matrix_of, coupons, reserved}
use Rattle.matrices.specs.Parts.{window_at, surprise_pairs, first_column}
use Rattle.matrices.specs.Source.{has_window, held, wrong_window, source_judged}

-- matrix not its stated k words
abbrev pub wrong_rows : ℕ → List ℕ → Bool
wrong_rows lg m = not (eqb (length m) (2 ^ lg))

-- Count: 1, 2, 10
unfoldable pub count_of : ℕ → List ℕ → Outcome
count_of lg m =
    choose (outside lg) (refused 1 0) (choose (wrong_rows lg m) (refused 2 0) (choose (reserved lg m) (refused 10 67108863) (accepted (coupons m ∷ []))))

-- the offset of a matrix, from its own count, and whether it has a window
abbrev pub offset_in : ℕ → List ℕ → ℕ
offset_in lg m = offset_at (2 ^ lg) (coupons m)

abbrev pub window_in : ℕ → List ℕ → Bool
window_in lg m = has_window (2 ^ lg) (coupons m)

-- the list that a split writes
abbrev pub listed : ℕ → List ℕ → List ℕ
listed lg m = surprise_pairs (window_in lg m) (offset_in lg m) m

-- Split: 1, 2, 10, 5; coupons, flavor, offset, first interesting column, number of pairs
unfoldable pub split_of : ℕ → List ℕ → List ℕ → List ℕ → Outcome
split_of lg m window out =
    choose (outside lg) (refused 1 0)
    (choose (wrong_rows lg m || wrong_rows lg window) (refused 2 0)
    (choose (reserved lg m) (refused 10 67108863)
    (choose (ltb (length out) (length (listed lg m))) (refused 5 0)
    (accepted
    (coupons m ∷ flavor_number (flavor_at (2 ^ lg) (coupons m)) ∷ offset_in lg m ∷ first_column (window_in lg m) (offset_in lg m) m ∷ length (listed lg m) ∷ [])))))

-- Empty and Sparse leave the window unwritten
abbrev pub split_window : ℕ → List ℕ → List ℕ → List ℕ → List ℕ
split_window lg m window out = if_accepted (split_of lg m window out) (choose (window_in lg m) (map (window_at (offset_in lg m)) m) window) window

abbrev pub split_pairs : ℕ → List ℕ → List ℕ → List ℕ → List ℕ
split_pairs lg m window out = if_accepted (split_of lg m window out) (listed lg m ++ drop (length (listed lg m)) out) out

-- Expansion: 1, 17 if over 64k, 2, then the source
unfoldable pub expand_of : ℕ → ℕ → List ℕ → List ℕ → List ℕ → Outcome
expand_of lg c window ps m =
    choose (outside lg) (refused 1 0)
    (choose (ltb (64 * 2 ^ lg) c) (refused 17 0)
    (choose (wrong_rows lg m || wrong_window (2 ^ lg) c window) (refused 2 0) (source_judged lg c window ps)))

abbrev pub expanded_matrix : ℕ → ℕ → List ℕ → List ℕ → List ℕ → List ℕ
expanded_matrix lg c window ps m = if_accepted (expand_of lg c window ps m) (matrix_of (2 ^ lg) (held (2 ^ lg) c window ps)) m

-- the record that a union's call answers: configured lg_k, present lg_k, seed
abbrev pub union_of : ℕ → ℕ → ℕ → Outcome
union_of lg present seed = accepted (lg ∷ present ∷ seed ∷ [])

-- New union (matrix zeroed): 1, 2
unfoldable pub new_union_of : ℕ → ℕ → List ℕ → Outcome
new_union_of lg seed m = choose (outside lg) (refused 1 0) (choose (wrong_rows lg m) (refused 2 0) (union_of lg lg seed))

abbrev pub new_matrix : ℕ → ℕ → List ℕ → List ℕ
new_matrix lg seed m = if_accepted (new_union_of lg seed m) (replicate (length m) 0) m

-- lawful: present lg_k from 4 to the configured one, rows from k on zero, reserved bit clear
unfoldable pub lawful_union : ℕ → ℕ → List ℕ → Bool
lawful_union lg present m =
    (leb 4 present && leb present lg) && (every_below (length m) (λ r. ltb r (2 ^ present) || eqb (get_or m r 0) 0) && not (reserved lg m))

-- Merge: 1 (also of the configured lg_k), 17 if over 64k, 2, 15, then the source, then 16
unfoldable pub merge_judged : ℕ → ℕ → ℕ → List ℕ → ℕ → ℕ → ℕ → List ℕ → List ℕ → Outcome
merge_judged lg present seed m from other c window ps =
    choose (outside from || outside lg) (refused 1 0)
    (choose (ltb (64 * 2 ^ from) c) (refused 17 0)
    (choose (wrong_rows lg m || wrong_window (2 ^ from) c window) (refused 2 0)
    (choose (not (lawful_union lg present m)) (refused 15 0)
    (and_then (source_judged from c window ps) (choose (not (eqb seed other)) (refused 16 0) (accepted []))))))

-- a non-empty source with smaller k folds the matrix to that k; an Empty source changes nothing
abbrev pub present_after : ℕ → ℕ → ℕ → ℕ
present_after present from c = choose (eqb c 0) present (min present from)

abbrev pub merge_of : ℕ → ℕ → ℕ → List ℕ → ℕ → ℕ → ℕ → List ℕ → List ℕ → Outcome
merge_of lg present seed m from other c window ps =
    and_then (merge_judged lg present seed m from other c window ps) (union_of lg (present_after present from c) seed)

-- the pairs of n rows, their rows taken mod k
abbrev pub down_to : ℕ → ℕ → (ℕ → ℕ → Bool) → ℕ → ℕ → Bool
down_to k n f r c = ltb r k && any_below n (λ t. eqb (t % k) r && f t c)

-- the matrix and the source, both at k rows
unfoldable pub merged_at : ℕ → List ℕ → ℕ → (ℕ → ℕ → Bool) → ℕ → ℕ → Bool
merged_at k m n f r c = down_to k (length m) (at m) r c || down_to k n f r c

abbrev pub merged_matrix : ℕ → ℕ → ℕ → List ℕ → ℕ → ℕ → ℕ → List ℕ → List ℕ → List ℕ
merged_matrix lg present seed m from other c window ps =
    if_accepted (merge_judged lg present seed m from other c window ps)
    (choose (eqb c 0) m (matrix_of (length m) (merged_at (2 ^ present_after present from c) m (2 ^ from) (held (2 ^ from) c window ps)))) m
