-- What a union holds, pair by pair: those of its sketches, all of them, and no other. Assumes nothing.
use mathlib.Core.Path.{◌≡◌, sym, ap, ap₂, ◌∙◌}
use mathlib.Core.Logic.{⊎_elim}
use mathlib.Core.Bool.{true, false, ◌&&◌, false≢true}
use mathlib.Core.List.{List, [], ◌∷◌}
use Prim.Native.Nat.{ℕ, ◌%◌, ◌^◌, ◌≤◌, ◌<◌}
use native.Mathlib.Nat.{mod-lt}
use native.Mathlib.Omega.{arith}
use lib.Pow.{pow_pos, pow_mono}
use Rattle.laws.proofs.Truths.{and_left, and_right, or_true, or_left, or_right}
use Rattle.numbers.specs.Calls.{outside}
use Rattle.matrices.specs.Calls.{down_to}
use Rattle.matrices.specs.History.{Sketch, union_of_all, counts, least_lg, held_by_any}
use Rattle.matrices.specs.Matrix.{at}
use Rattle.matrices.proofs.Holding.{pairs_of, union_holds}
use Rattle.matrices.proofs.Lawful.{lawful_is}
use Rattle.matrices.proofs.Modulo.{down_find, down_of}
use Rattle.matrices.proofs.Rows.{at_matrix}

-- a sketch of the list
pub data Among (s : Sketch) : List Sketch → Type 0 where
  here : {l : List Sketch} → Among s (s ∷ l)
  there : {x : Sketch} {l : List Sketch} → Among s l → Among s (x ∷ l)

-- a pair (row, column) of a sketch that counts, with row mod k = r
pub record Given (lg seed k : ℕ) (sketches : List Sketch) (r c : ℕ) : Type 0 where
  pub sketch : Sketch
  pub among : Among sketch sketches
  pub taken : counts lg seed sketch ≡ true
  pub row : ℕ
  pub below : row < 2 ^ sketch.lg
  pub falls : row % k ≡ r
  pub holds : pairs_of sketch row c ≡ true

module _ (lg seed : ℕ) where
  given : (k r c : ℕ) (sketches : List Sketch) → held_by_any lg seed k sketches r c ≡ true → Given lg seed k sketches r c
  unfolding held_by_any
  given k r c [] e = absurd (false≢true e)
  given k r c (s ∷ more) e =
      ⊎_elim
      (λ (a : (counts lg seed s && down_to k (2 ^ s.lg) (pairs_of s) r c) ≡ true).
      let u = down_find k (2 ^ s.lg) (pairs_of s) r c (and_right (counts lg seed s) (down_to k (2 ^ s.lg) (pairs_of s) r c) a) in
      record { sketch = s; among = here; taken = and_left (counts lg seed s) (down_to k (2 ^ s.lg) (pairs_of s) r c) a; row = u.0; below = u.1; falls = u.2; holds = u.3 })
      (λ (a : held_by_any lg seed k more r c ≡ true).
      let g = given k r c more a in
      record { sketch = g.sketch; among = there g.among; taken = g.taken; row = g.row; below = g.below; falls = g.falls; holds = g.holds })
      (or_true (counts lg seed s && down_to k (2 ^ s.lg) (pairs_of s) r c) (held_by_any lg seed k more r c) e)

  kept : (k : ℕ) → 0 < k → {s : Sketch} {sketches : List Sketch} → Among s sketches → counts lg seed s ≡ true → (t c : ℕ) → t < 2 ^ s.lg → pairs_of s t c ≡ true
      → held_by_any lg seed k sketches (t % k) c ≡ true
  unfolding held_by_any
  kept k p {s} (here {l = l}) e t c b h =
      or_left (counts lg seed s && down_to k (2 ^ s.lg) (pairs_of s) (t % k) c) (held_by_any lg seed k l (t % k) c) (ap₂ ◌&&◌ e (down_of k (2 ^ s.lg) (pairs_of s) t c p b h))
  kept k p {s} (there {x = x} {l = l} a) e t c b h =
      or_right (counts lg seed x && down_to k (2 ^ x.lg) (pairs_of x) (t % k) c) (held_by_any lg seed k l (t % k) c) (kept k p a e t c b h)

  module _ (i : outside lg ≡ false) (sketches : List Sketch) where
    abbrev k : ℕ
    k = 2 ^ least_lg lg seed sketches

    abbrev m : List ℕ
    m = (union_of_all lg seed sketches).matrix

    -- every pair of the matrix is one of theirs
    pub no_other : (r c : ℕ) → r < 2 ^ lg → c < 64 → at m r c ≡ true → Given lg seed k sketches r c
    no_other r c h l e =
        given k r c sketches (sym (ap (λ (x : List ℕ). at x r c) (union_holds lg seed i sketches).exactly ∙ at_matrix (2 ^ lg) (held_by_any lg seed k sketches) r c h l) ∙ e)

    -- and every one of theirs is in the matrix
    pub none_lost : (s : Sketch) → Among s sketches → counts lg seed s ≡ true → (t c : ℕ) → t < 2 ^ s.lg → c < 64 → pairs_of s t c ≡ true → at m (t % k) c ≡ true
    none_lost s a e t c b l h =
        let u = union_holds lg seed i sketches in
        let w = lawful_is lg (union_of_all lg seed sketches).present m u.order.lawful in
        let p : k ≤ 2 ^ lg = pow_mono {i = least_lg lg seed sketches} {j = lg} (omega (arith, w.most, u.least)) in
        ap (λ (x : List ℕ). at x (t % k) c) u.exactly
        ∙ at_matrix (2 ^ lg) (held_by_any lg seed k sketches) (t % k) c (omega (arith, mod-lt t (pow_pos (least_lg lg seed sketches)))) l
        ∙ kept k (pow_pos (least_lg lg seed sketches)) a e t c b h
