-- The order of the sketches makes no difference, nor that one comes twice. Assumes nothing.
use mathlib.Core.Path.{◌≡◌, refl, sym, ap, ap₂, ◌∙◌}
use mathlib.Core.Bool.{Bool, true, false, ◌&&◌, ◌||◌}
use mathlib.Core.List.{List, ◌∷◌}
use Prim.Native.Nat.{ℕ, ◌^◌, min}
use native.Mathlib.Omega.{arith}
use Rattle.laws.specs.Choose.{choose}
use Rattle.numbers.specs.Calls.{outside}
use Rattle.matrices.specs.Calls.{down_to}
use Rattle.matrices.specs.History.{Sketch, union_of_all, counts, least_lg, held_by_any}
use Rattle.matrices.specs.Matrix.{matrix_of}
use Rattle.matrices.proofs.Holding.{pairs_of, union_holds}
use Rattle.matrices.proofs.Rows.{matrix_same}

-- the same sketches in another order
pub data Reordered : List Sketch → List Sketch → Type 0 where
  same : {l : List Sketch} → Reordered l l
  keep : {s : Sketch} {l r : List Sketch} → Reordered l r → Reordered (s ∷ l) (s ∷ r)
  swap : {s t : Sketch} {l : List Sketch} → Reordered (s ∷ t ∷ l) (t ∷ s ∷ l)
  both : {a b c : List Sketch} → Reordered a b → Reordered b c → Reordered a c

module _ (lg seed : ℕ) where
  least_swap : (n x y : ℕ) (a b : Bool) → choose a (min (choose b (min n y) n) x) (choose b (min n y) n) ≡ choose b (min (choose a (min n x) n) y) (choose a (min n x) n)
  least_swap n x y true true = omega arith
  least_swap n x y true false = refl
  least_swap n x y false true = refl
  least_swap n x y false false = refl

  least_order : {a b : List Sketch} → Reordered a b → least_lg lg seed a ≡ least_lg lg seed b
  unfolding least_lg
  least_order same = refl
  least_order (keep {s = s} r) = ap (λ (n : ℕ). choose (counts lg seed s) (min n s.lg) n) (least_order r)
  least_order (swap {s = s} {t = t} {l = l}) = least_swap (least_lg lg seed l) s.lg t.lg (counts lg seed s) (counts lg seed t)
  least_order (both r q) = least_order r ∙ least_order q

  or_turn : (a b c : Bool) → (a || (b || c)) ≡ (b || (a || c))
  or_turn true true c = refl
  or_turn true false c = refl
  or_turn false b c = refl

  held_order : {a b : List Sketch} → Reordered a b → (k r c : ℕ) → held_by_any lg seed k a r c ≡ held_by_any lg seed k b r c
  unfolding held_by_any
  held_order same k r c = refl
  held_order (keep {s = s} q) k r c = ap (λ (t : Bool). (counts lg seed s && down_to k (2 ^ s.lg) (pairs_of s) r c) || t) (held_order q k r c)
  held_order (swap {s = s} {t = t} {l = l}) k r c =
      or_turn (counts lg seed s && down_to k (2 ^ s.lg) (pairs_of s) r c) (counts lg seed t && down_to k (2 ^ t.lg) (pairs_of t) r c) (held_by_any lg seed k l r c)
  held_order (both q w) k r c = held_order q k r c ∙ held_order w k r c

  -- unions of the same least lg_k and the same pairs are the same: present lg_k and matrix
  unions_same : outside lg ≡ false → (a b : List Sketch) → least_lg lg seed a ≡ least_lg lg seed b → ((k r c : ℕ) → held_by_any lg seed k a r c ≡ held_by_any lg seed k b r c)
      → union_of_all lg seed a ≡ union_of_all lg seed b
  unions_same i a b l h =
      let x = union_holds lg seed i a in
      let y = union_holds lg seed i b in
      let p : (union_of_all lg seed a).present ≡ (union_of_all lg seed b).present = x.least ∙ l ∙ sym y.least in
      let m : (union_of_all lg seed a).matrix ≡ (union_of_all lg seed b).matrix =
      x.exactly ∙ ap (λ (n : ℕ). matrix_of (2 ^ lg) (held_by_any lg seed (2 ^ n) a)) l
      ∙ matrix_same (2 ^ lg) (held_by_any lg seed (2 ^ least_lg lg seed b) a) (held_by_any lg seed (2 ^ least_lg lg seed b) b) (λ t c g q. h (2 ^ least_lg lg seed b) t c)
      ∙ sym y.exactly in
      ap₂ (λ (q : ℕ) (w : List ℕ). record { present = q; matrix = w }) p m

  -- in whatever order they are merged
  pub order_free : outside lg ≡ false → {a b : List Sketch} → Reordered a b → union_of_all lg seed a ≡ union_of_all lg seed b
  order_free i {a} {b} r = unions_same i a b (least_order r) (held_order r)

  -- a sketch that is merged twice is as one that is merged once
  pub twice_once : outside lg ≡ false → (s : Sketch) (l : List Sketch) → union_of_all lg seed (s ∷ s ∷ l) ≡ union_of_all lg seed (s ∷ l)
  unfolding least_lg held_by_any
  twice_once i s l =
      unions_same i (s ∷ s ∷ l) (s ∷ l) (least_twice (least_lg lg seed l) s.lg (counts lg seed s))
      (λ k r c. or_twice (counts lg seed s && down_to k (2 ^ s.lg) (pairs_of s) r c) (held_by_any lg seed k l r c))
    where
      least_twice : (n x : ℕ) (b : Bool) → choose b (min (choose b (min n x) n) x) (choose b (min n x) n) ≡ choose b (min n x) n
      least_twice n x true = omega arith
      least_twice n x false = refl

      or_twice : (a b : Bool) → (a || (a || b)) ≡ (a || b)
      or_twice true b = refl
      or_twice false b = refl
