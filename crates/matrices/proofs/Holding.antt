-- What a union holds: exactly the pairs (row mod k, column) of all accepted sketches that are not Empty, k being the least of theirs and the configured one. Assumes nothing.
use mathlib.Core.Path.{◌≡◌, refl, sym, ap, ap₂, ◌∙◌, subst₂}
use mathlib.Core.Bool.{Bool, true, false, not, ◌&&◌, ◌||◌}
use mathlib.Core.List.{List, [], ◌∷◌}
use Prim.Native.Nat.{ℕ, ◌-◌, ◌+◌, ◌*◌, ◌^◌, ◌≤◌, ◌<◌, min}
use native.Mathlib.Omega.{arith}
use lib.Dec.{eqb}
use lib.ListN.{length, replicate}
use lib.Pow.{pow_pos, pow_mono, pow-add}
use Rattle.laws.specs.Choose.{choose}
use Rattle.refusals.specs.Outcome.{Outcome, accepted, refused, stopped, if_accepted, and_then}
use Rattle.numbers.specs.Calls.{outside}
use Rattle.matrices.specs.Calls.{union_of, new_union_of, new_matrix, present_after, merge_of, down_to, merged_at}
use Rattle.matrices.specs.History.{Sketch, Union, judged_by, merged_into, new_union, union_of_all, counts, least_lg, held_by_any}
use Rattle.matrices.specs.Matrix.{at, matrix_of}
use Rattle.matrices.specs.Source.{held}
use Rattle.matrices.proofs.Answered.{merge_same, new_accepted}
use Rattle.matrices.proofs.Lasting.{InOrder, zeros_matrix, zeros_in_order, merge_in_order}
use Rattle.matrices.proofs.Lawful.{lawful_is}
use Rattle.matrices.proofs.Modulo.{down_none, down_same, down_or, down_down}
use Rattle.matrices.proofs.Rows.{at_matrix, matrix_same}

or_swap : (a b : Bool) → (a || b) ≡ (b || a)
or_swap true true = refl
or_swap true false = refl
or_swap false true = refl
or_swap false false = refl

-- the pairs that a sketch stands for
abbrev pub pairs_of : Sketch → ℕ → ℕ → Bool
pairs_of s = held (2 ^ s.lg) s.coupons s.window s.pairs

module _ (lg seed : ℕ) where
  -- a fold of all to fewer rows is what all would be at fewer rows
  fold_one : (k d n size : ℕ) (f : ℕ → ℕ → Bool) (r c : ℕ) → 0 < k → 0 < k * d → k * d ≤ size → (b : Bool)
      → down_to k size (λ t e. b && down_to (k * d) n f t e) r c ≡ (b && down_to k n f r c)
  fold_one k d n size f r c p q l true = down_down k d n size f r c p q l
  fold_one k d n size f r c p q l false = down_none k size r c

  fold_all : (k d size r c : ℕ) → 0 < k → 0 < k * d → k * d ≤ size → (sketches : List Sketch)
      → down_to k size (held_by_any lg seed (k * d) sketches) r c ≡ held_by_any lg seed k sketches r c
  unfolding held_by_any
  fold_all k d size r c p q l [] = down_none k size r c
  fold_all k d size r c p q l (s ∷ more) =
      down_or k size (λ t e. counts lg seed s && down_to (k * d) (2 ^ s.lg) (pairs_of s) t e) (held_by_any lg seed (k * d) more) r c p
      ∙ ap₂ ◌||◌ (fold_one k d (2 ^ s.lg) size (pairs_of s) r c p q l (counts lg seed s)) (fold_all k d size r c p q l more)

  -- ---- one merge

  -- what is said of a union after the sketches of a list
  pub record Holds (u : Union) (sketches : List Sketch) : Type 0 where
    pub order : InOrder lg u.present u.matrix
    pub least : u.present ≡ least_lg lg seed sketches
    pub exactly : u.matrix ≡ matrix_of (2 ^ lg) (held_by_any lg seed (2 ^ least_lg lg seed sketches) sketches)

  module _ (u : Union) (before : List Sketch) (h : Holds u before) (s : Sketch) where
    abbrev L : ℕ
    L = least_lg lg seed before

    -- a sketch that does not count changes nothing
    unchanged : counts lg seed s ≡ false → Holds u (s ∷ before)
    unfolding least_lg held_by_any
    unchanged e = record {
      order = h.order;
      least = h.least ∙ sym (ap (λ (t : Bool). choose t (min L s.lg) L) e);
      exactly =
          h.exactly
          ∙ sym
          (ap (λ (t : Bool). matrix_of (2 ^ lg) (λ r c. (t && down_to (2 ^ choose t (min L s.lg) L) (2 ^ s.lg) (pairs_of s) r c) || held_by_any lg seed (2 ^ choose t (min L s.lg) L) before r c)) e);
    }

    -- one that counts: the rows of both, mod the lesser k
    abbrev p : ℕ
    p = min L s.lg

    rows_above : p + (L - p) ≡ L
    rows_above = omega arith

    grown : ((r c : ℕ) → r < 2 ^ lg → c < 64 → merged_at (2 ^ p) u.matrix (2 ^ s.lg) (pairs_of s) r c ≡ (down_to (2 ^ p) (2 ^ s.lg) (pairs_of s) r c || held_by_any lg seed (2 ^ p) before r c))
    unfolding merged_at
    grown r c l b =
        let n = h.order.rows in
        let f = held_by_any lg seed (2 ^ L) before in
        let e : 2 ^ L ≡ 2 ^ p * 2 ^ (L - p) = ap (λ (x : ℕ). 2 ^ x) (sym rows_above) ∙ pow-add 2 p (L - p) in
        let most : 2 ^ L ≤ 2 ^ lg = pow_mono {i = L} {j = lg} (omega (arith, (lawful_is lg u.present u.matrix h.order.lawful).most, h.least)) in
        or_swap (down_to (2 ^ p) (length u.matrix) (at u.matrix) r c) (down_to (2 ^ p) (2 ^ s.lg) (pairs_of s) r c)
        ∙ ap (λ (t : Bool). down_to (2 ^ p) (2 ^ s.lg) (pairs_of s) r c || t)
        (ap (λ (x : ℕ). down_to (2 ^ p) x (at u.matrix) r c) n
        ∙ down_same (2 ^ p) (2 ^ lg) (at u.matrix) f r c (λ t g. ap (λ (x : List ℕ). at x t c) h.exactly ∙ at_matrix (2 ^ lg) f t c g b)
        ∙ ap (λ (k : ℕ). down_to (2 ^ p) (2 ^ lg) (held_by_any lg seed k before) r c) e
        ∙ fold_all (2 ^ p) (2 ^ (L - p)) (2 ^ lg) r c (pow_pos p) (omega (arith, pow_pos L)) (omega arith) before)

    merged_matrix : counts lg seed s ≡ true → matrix_of (length u.matrix) (merged_at (2 ^ min u.present s.lg) u.matrix (2 ^ s.lg) (pairs_of s))
        ≡ matrix_of (2 ^ lg) (held_by_any lg seed (2 ^ least_lg lg seed (s ∷ before)) (s ∷ before))
    unfolding least_lg held_by_any
    merged_matrix e =
        ap₂ (λ (n q : ℕ). matrix_of n (merged_at (2 ^ min q s.lg) u.matrix (2 ^ s.lg) (pairs_of s))) h.order.rows h.least
        ∙ matrix_same (2 ^ lg) (merged_at (2 ^ p) u.matrix (2 ^ s.lg) (pairs_of s)) (λ r c. down_to (2 ^ p) (2 ^ s.lg) (pairs_of s) r c || held_by_any lg seed (2 ^ p) before r c) grown
        ∙ sym
        (ap (λ (t : Bool). matrix_of (2 ^ lg) (λ r c. (t && down_to (2 ^ choose t (min L s.lg) L) (2 ^ s.lg) (pairs_of s) r c) || held_by_any lg seed (2 ^ choose t (min L s.lg) L) before r c)) e)

    -- the judgement does not depend on what was merged before
    alike : outside lg ≡ false → judged_by lg seed u s ≡ judged_by lg seed (new_union lg) s
    alike i =
        let z = zeros_in_order lg (2 ^ lg) i refl in
        merge_same lg u.present seed u.matrix lg (replicate (2 ^ lg) 0) s.lg s.seed s.coupons s.window s.pairs h.order.rows z.rows h.order.lawful z.lawful

    -- the union after an outcome
    abbrev next : Outcome → Bool → Union
    next o empty = record {
      present = if_accepted o (choose empty u.present (min u.present s.lg)) u.present;
      matrix = if_accepted o (choose empty u.matrix (matrix_of (length u.matrix) (merged_at (2 ^ choose empty u.present (min u.present s.lg)) u.matrix (2 ^ s.lg) (pairs_of s)))) u.matrix;
    }

    step : outside lg ≡ false → Holds (merged_into lg seed u s) (s ∷ before)
    unfolding least_lg
    step i = go (judged_by lg seed u s) (eqb s.coupons 0) refl refl
      where
        go : (o : Outcome) (empty : Bool) → judged_by lg seed u s ≡ o → eqb s.coupons 0 ≡ empty → Holds (next o empty) (s ∷ before)
        go (refused number place) empty e z = unchanged (ap (λ (o : Outcome). if_accepted o (not (eqb s.coupons 0)) false) (sym (alike i) ∙ e))
        go (stopped number place bit) empty e z = unchanged (ap (λ (o : Outcome). if_accepted o (not (eqb s.coupons 0)) false) (sym (alike i) ∙ e))
        go (accepted values) true e z = unchanged (ap₂ (λ (o : Outcome) (t : Bool). if_accepted o (not t) false) (sym (alike i) ∙ e) z)
        go (accepted values) false e z =
            let yes : counts lg seed s ≡ true = ap₂ (λ (o : Outcome) (t : Bool). if_accepted o (not t) false) (sym (alike i) ∙ e) z in
            let kept = merge_in_order lg u.present seed u.matrix s.lg s.seed s.coupons s.window s.pairs values h.order.words e in
            record {
              order = subst₂ (λ (o : Outcome) (t : Bool). InOrder lg (next (accepted values) t).present (next o t).matrix) e z kept;
              least = ap (λ (q : ℕ). min q s.lg) h.least ∙ sym (ap (λ (t : Bool). choose t (min L s.lg) L) yes);
              exactly = merged_matrix yes;
            }

  -- ---- all merges

  -- a new union that is accepted is the one that all begins with
  pub new_holds : (m values : List ℕ) → new_union_of lg seed m ≡ accepted values → new_matrix lg seed m ≡ (new_union lg).matrix
  new_holds m values e = ap (λ (o : Outcome). if_accepted o (replicate (length m) 0) m) e ∙ ap (λ (n : ℕ). replicate n 0) (new_accepted lg seed m values e).1

  pub union_holds : outside lg ≡ false → (sketches : List Sketch) → Holds (union_of_all lg seed sketches) sketches
  unfolding union_of_all least_lg held_by_any
  union_holds i [] =
      let z = zeros_in_order lg (2 ^ lg) i refl in
      record { order = z; least = refl; exactly = zeros_matrix (2 ^ lg) }
  union_holds i (s ∷ before) = step (union_of_all lg seed before) before (union_holds i before) s i

  -- what a union says of a sketch does not depend on what was merged before: a sketch counts if the union, when it comes to it, accepts it
  pub judged_alike : outside lg ≡ false → (before : List Sketch) (s : Sketch) → judged_by lg seed (union_of_all lg seed before) s ≡ judged_by lg seed (new_union lg) s
  judged_alike i before s = alike (union_of_all lg seed before) before (union_holds i before) s i

  -- an accepted merge answers the least lg_k of all
  pub merge_answers : outside lg ≡ false → (before : List Sketch) (s : Sketch) (values : List ℕ) → judged_by lg seed (union_of_all lg seed before) s ≡ accepted values
      → merge_of lg (union_of_all lg seed before).present seed (union_of_all lg seed before).matrix s.lg s.seed s.coupons s.window s.pairs
      ≡ accepted (lg ∷ least_lg lg seed (s ∷ before) ∷ seed ∷ [])
  merge_answers i before s values e =
      let u = union_of_all lg seed before in
      let after = present_after u.present s.lg s.coupons in
      ap (λ (o : Outcome). and_then o (union_of lg after seed)) e
      ∙ ap (λ (n : ℕ). union_of lg n seed)
      (sym (ap (λ (o : Outcome). if_accepted o after u.present) e) ∙ (step u before (union_holds i before) s i).least)
