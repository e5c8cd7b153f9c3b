-- A delete may move its hole along in place of searching anew for each item up to the next empty slot. Assumes nothing.
use mathlib.Core.Path.{◌≡◌, refl, sym, ap, ◌∙◌, subst}
use mathlib.Core.Bool.{false, true≢false}
use mathlib.Core.Logic.{◌⊎◌, inl, inr, ⊎_elim}
use mathlib.Core.List.{List}
use Prim.Native.Nat.{ℕ, zero, suc, ◌+◌, ◌-◌, ◌^◌, ◌≤◌, ◌<◌}
use native.Mathlib.Omega.{arith}
use native.Mathlib.Nat.{eq-or-lt_of_le, lt_of_lt_of_le as lt-le}
use lib.ListN.{length, get_or, set, length-set}
use lib.Seq.{get_or-set_same, get_or-set_other, set-set, set-get_or, set_comm}
use borrow.Author.Tests.{eq-eqb, ne_eqb, le-leb, lt-leb}
use Rattle.laws.proofs.Orders.{same_or_not, le_or_lt}
use Rattle.tables.specs.Slots.{empty, home, next, stops, spot}
use Rattle.tables.specs.Changes.{place, reseat, remove}
use Rattle.tables.specs.Shapes.{steps, apart, shifted, Lawful}
use Rattle.tables.proofs.Laws.{stops_empty, stops_not}
use Rattle.tables.proofs.Stepping.{steps_add, steps_ahead, steps_behind, steps_lt, steps_inj, steps_apart, step_on, step_on'}
use Rattle.tables.proofs.Paths.{Path-to, spot_ends, own_path}
use Rattle.tables.proofs.Reseating.{reseat_done, reseat_go, Mid, start, again, was, full_y, gone, home_y, room, b_l}
use Rattle.tables.proofs.Delete.{cluster}

-- b is not before a
pub apart_ahead : (n a b : ℕ) → a ≤ b → apart n a b ≡ b - a
unfolding apart
apart_ahead n a b h = simp (le-leb a b h)

-- b is before a
pub apart_behind : (n a b : ℕ) → b < a → apart n a b ≡ n - a + b
unfolding apart
apart_behind n a b h = simp (lt-leb a b h)

-- fewer steps than slots
pub apart_lt : (n a b : ℕ) → a < n → b < n → apart n a b < n
apart_lt n a b an bn = ⊎_elim (λ h. rw (apart_ahead n a b h) (omega arith)) (λ h. rw (apart_behind n a b h) (omega arith)) (le_or_lt a b)

-- so many steps lead there
pub apart_meets : (n a b : ℕ) → a < n → b < n → steps n a (apart n a b) ≡ b
apart_meets n a b an bn =
    ⊎_elim (λ h. rw (apart_ahead n a b h) (steps_ahead n a b bn h)) (λ h. rw (apart_behind n a b h) (steps_behind n a b an h)) (le_or_lt a b)

-- and no other number below n
pub apart_only : (n a b k : ℕ) → a < n → b < n → k < n → steps n a k ≡ b → apart n a b ≡ k
apart_only n a b k an bn kn e = ⊎_elim
    (λ h. ⊎_elim (λ z. z) (λ z. absurd (steps_apart n a (apart n a b) k an z kn (apart_meets n a b an bn ∙ sym e))) (eq-or-lt_of_le h))
    (λ z. absurd (steps_apart n a k (apart n a b) an z (apart_lt n a b an bn) (e ∙ sym (apart_meets n a b an bn))))
    (le_or_lt (apart n a b) k)

-- an empty slot ends it
pub shifted_done : (s : List ℕ) (lg v left h p : ℕ) → get_or s p 0 ≡ empty → shifted s lg v left h p ≡ s
unfolding shifted
shifted_done s lg v zero h p e = refl
shifted_done s lg v (suc left) h p e = simp (eq-eqb (get_or s p 0) empty e)

-- no turn is left
pub shifted_out : (s : List ℕ) (lg v left h p : ℕ) → left ≤ 0 → shifted s lg v left h p ≡ s
unfolding shifted
shifted_out s lg v zero h p l = refl
shifted_out s lg v (suc left) h p l = absurd (omega arith)

-- the hole lies on the way of the item at p
pub shifted_move : (s : List ℕ) (lg v left h p : ℕ) → 0 < left → (get_or s p 0 ≡ empty → ⊥) → apart (2 ^ lg) h p ≤ apart (2 ^ lg) (home lg v (get_or s p 0)) p
    → shifted s lg v left h p ≡ shifted (set (set s h (get_or s p 0)) p empty) lg v (left - 1) p (next (2 ^ lg) p)
unfolding shifted
shifted_move s lg v zero h p l d e = absurd (omega arith)
shifted_move s lg v (suc left) h p l d e =
    let z : suc left - 1 ≡ left = omega arith in
    simp (ne_eqb (get_or s p 0) empty d, le-leb (apart (2 ^ lg) h p) (apart (2 ^ lg) (home lg v (get_or s p 0)) p) e, z)

-- it does not
pub shifted_stay : (s : List ℕ) (lg v left h p : ℕ) → 0 < left → (get_or s p 0 ≡ empty → ⊥) → apart (2 ^ lg) (home lg v (get_or s p 0)) p < apart (2 ^ lg) h p
    → shifted s lg v left h p ≡ shifted s lg v (left - 1) h (next (2 ^ lg) p)
unfolding shifted
shifted_stay s lg v zero h p l d e = absurd (omega arith)
shifted_stay s lg v (suc left) h p l d e =
    let z : suc left - 1 ≡ left = omega arith in
    simp (ne_eqb (get_or s p 0) empty d, lt-leb (apart (2 ^ lg) h p) (apart (2 ^ lg) (home lg v (get_or s p 0)) p) e, z)

-- the slots of s that are empty are h and the empty slots of o
abbrev Only : List ℕ → List ℕ → ℕ → ℕ → Type 0
Only o s n h = (j : ℕ) → j < n → get_or s j 0 ≡ empty → (j ≡ h) ⊎ (get_or o j 0 ≡ empty)

-- A table o with the item at slot i to go, the items before the t-th slot after it stored again, and the hole at h.
module _ (o : List ℕ) (lg v c i m : ℕ) (l : Lawful o lg v c) (i_n : i < 2 ^ lg) (m_n : m < 2 ^ lg) (m1 : 0 < m)
    (run : (u : ℕ) → u < m → get_or o (steps (2 ^ lg) i u) 0 ≡ empty → ⊥) (gap : get_or o (steps (2 ^ lg) i m) 0 ≡ empty) where
  abbrev n : ℕ
  n = 2 ^ lg

  abbrev at : ℕ → ℕ
  at u = steps (2 ^ lg) i u

  module _ (s : List ℕ) (t : ℕ) (tm : t < m) (a : Mid o lg v c i m l i_n m_n m1 run gap s t) (h : ℕ) (hn : h < 2 ^ lg) (away : steps (2 ^ lg) i t ≡ h → ⊥)
      (hole : get_or s h 0 ≡ empty) (only : Only o s (2 ^ lg) h) where
    abbrev p : ℕ
    p = steps (2 ^ lg) i t

    abbrev y : ℕ
    y = get_or s (steps (2 ^ lg) i t) 0

    abbrev s₂ : List ℕ
    s₂ = set s (steps (2 ^ lg) i t) empty

    pn : p < n
    pn = steps_lt n i t i_n

    hy : home lg v y < n
    hy = home_y o lg v c i m l i_n m_n m1 run gap s t tm a

    p_l : p < length s
    p_l = b_l o lg v c i m l i_n m_n m1 run gap s t tm a

    full : y ≡ empty → ⊥
    full = full_y o lg v c i m l i_n m_n m1 run gap s t tm a

    -- its way in the table before
    way : Path-to o lg v y p
    way =
        let e = was o lg v c i m l i_n m_n m1 run gap s t tm a in
        rw (← e) at (own_path o lg v c p l pn (λ z. full (e ∙ z)))

    far : apart n (home lg v y) p ≡ way.count
    far = apart_only n (home lg v y) p way.count hy pn way.short way.there

    -- the search passes every slot on that way but the hole
    passes : (k : ℕ) → k < way.count → (steps n (home lg v y) k ≡ h → ⊥) → stops s₂ y (steps n (home lg v y) k) ≡ false
    passes k kd nh =
        let jn : steps n (home lg v y) k < n = steps_lt n (home lg v y) k hy in
        let jp : steps n (home lg v y) k ≡ p → ⊥ = λ e. steps_apart n (home lg v y) k way.count hy kd way.short (e ∙ sym way.there) in
        stops_not s₂ y (steps n (home lg v y) k) (gone o lg v c i m l i_n m_n m1 run gap s t tm a (steps n (home lg v y) k) jn)
        (λ e. ⊎_elim nh (λ z. true≢false (sym (stops_empty o y (steps n (home lg v y) k) z) ∙ way.ends.clear k kd))
        (only (steps n (home lg v y) k) jn (sym (get_or-set_other s p (steps n (home lg v y) k) empty 0 jp) ∙ e)))

    -- the hole is on the way: the search ends there
    to_hole : apart n h p ≤ apart n (home lg v y) p → place s₂ lg v y ≡ set (set s h y) p empty
    unfolding place
    to_hole near =
        rw (spot_ends s₂ lg v y k (omega (arith, way.short)) (record { clear = λ j jk. passes j (omega arith) (λ e. steps_apart n (home lg v y) j k hy jk (omega (arith, way.short)) (e ∙ sym there)); stop = rw there (stops_empty s₂ y h (get_or-set_other s p h empty 0 (λ e. away (sym e)) ∙ hole)) }), there)
        (sym (set_comm s h p y empty (λ e. away (sym e))))
      where
        k : ℕ
        k = way.count - apart n h p

        there : steps n (home lg v y) k ≡ h
        there =
            let e : way.count - apart n h p + apart n h p ≡ way.count = omega (arith, far) in
            steps_inj n (steps n (home lg v y) k) h (apart n h p) (steps_lt n (home lg v y) k hy) hn
            (sym (steps_add n (home lg v y) k (apart n h p)) ∙ ap (steps n (home lg v y)) e ∙ way.there ∙ sym (apart_meets n h p hn pn))

    -- it is not: the search ends where the item stood
    back : apart n (home lg v y) p < apart n h p → place s₂ lg v y ≡ s
    unfolding place
    back beyond =
        rw (spot_ends s₂ lg v y way.count way.short (record { clear = λ j jk. passes j jk (off j jk); stop = rw way.there (stops_empty s₂ y p (get_or-set_same s p empty 0 p_l)) }), way.there)
        (set-set s p empty y ∙ set-get_or s p 0)
      where
        off : (j : ℕ) → j < way.count → steps n (home lg v y) j ≡ h → ⊥
        off j jk e =
            let z : j + (way.count - j) ≡ way.count = omega arith in
            steps_apart n h (way.count - j) (apart n h p) hn (omega (arith, far)) (apart_lt n h p hn pn)
            (ap (λ q. steps n q (way.count - j)) (sym e) ∙ sym (steps_add n (home lg v y) j (way.count - j)) ∙ ap (steps n (home lg v y)) z ∙ way.there ∙ sym (apart_meets n h p hn pn))

    -- the hole moves to p
    moved : Only o (set (set s h y) p empty) (2 ^ lg) p
    moved j jn e = ⊎_elim
        (λ z. inl z)
        (λ jp. ⊎_elim
        (λ (z : j ≡ h). absurd (full (sym (get_or-set_same s h y 0 h_l) ∙ rw z at (sym (get_or-set_other (set s h y) p j empty 0 jp) ∙ e))))
        (λ jh. ⊎_elim (λ z. absurd (jh z)) (λ z. inr z) (only j jn (sym (get_or-set_other s h j y 0 jh) ∙ sym (get_or-set_other (set s h y) p j empty 0 jp) ∙ e)))
        (same_or_not j h))
        (same_or_not j p)
      where
        h_l : h < length s
        h_l = omega (arith, room o lg v c i m l i_n m_n m1 run gap s t tm a)

  -- one turn
  turn : (left : ℕ) (s : List ℕ) (t h : ℕ) (tm : t < m) (a : Mid o lg v c i m l i_n m_n m1 run gap s t) (hn : h < 2 ^ lg) (far : at t ≡ h → ⊥) (hole : get_or s h 0 ≡ empty)
      (only : Only o s (2 ^ lg) h)
      → ((s : List ℕ) (h : ℕ) → Mid o lg v c i m l i_n m_n m1 run gap s (t + 1) → h < 2 ^ lg → ((u : ℕ) → t + 1 ≤ u → u < m → at u ≡ h → ⊥) → get_or s h 0 ≡ empty → Only o s (2 ^ lg) h
      → reseat s lg v left (at (t + 1)) ≡ shifted s lg v left h (at (t + 1)))
      → ((u : ℕ) → t ≤ u → u < m → at u ≡ h → ⊥) → reseat s lg v (suc left) (at t) ≡ shifted s lg v (suc left) h (at t)
  unfolding place
  turn left s t h tm a hn far hole only ih away =
      reseat_go s lg v (suc left) (at t) some d
      ∙ ap (λ (k : ℕ). reseat s₃ lg v k (next n (at t))) less
      ∙ ap (λ (p : ℕ). reseat s₃ lg v left p) (sym (step_on n i t))
      ∙ ⊎_elim near beyond (le_or_lt (apart n h (at t)) (apart n (home lg v (get_or s (at t) 0)) (at t)))
    where
      some : 0 < suc left
      some = omega arith

      less : suc left - 1 ≡ left
      less = omega arith

      d : get_or s (at t) 0 ≡ empty → ⊥
      d = full s t tm a h hn far hole only

      s₃ : List ℕ
      s₃ = place (set s (at t) empty) lg v (get_or s (at t) 0)

      mid : Mid o lg v c i m l i_n m_n m1 run gap s₃ (t + 1)
      mid = again o lg v c i m l i_n m_n m1 run gap s t tm a

      long : at t < length (set s h (get_or s (at t) 0))
      long = rw (length-set s h (get_or s (at t) 0)) (p_l s t tm a h hn far hole only)

      near : apart n h (at t) ≤ apart n (home lg v (get_or s (at t) 0)) (at t) → reseat s₃ lg v left (at (t + 1)) ≡ shifted s lg v (suc left) h (at t)
      near k =
          let e : s₃ ≡ set (set s h (get_or s (at t) 0)) (at t) empty = to_hole s t tm a h hn far hole only k in
          ap (λ (z : List ℕ). reseat z lg v left (at (t + 1))) e
          ∙ ih (set (set s h (get_or s (at t) 0)) (at t) empty) (at t) (subst (λ (z : List ℕ). Mid o lg v c i m l i_n m_n m1 run gap z (t + 1)) e mid) (steps_lt n i t i_n)
          (λ u tu um z. steps_apart n i t u i_n (omega arith) (omega arith) (sym z)) (get_or-set_same (set s h (get_or s (at t) 0)) (at t) empty 0 long) (moved s t tm a h hn far hole only)
          ∙ sym (shifted_move s lg v (suc left) h (at t) some d k ∙ rw (less, ← (step_on n i t)))

      beyond : apart n (home lg v (get_or s (at t) 0)) (at t) < apart n h (at t) → reseat s₃ lg v left (at (t + 1)) ≡ shifted s lg v (suc left) h (at t)
      beyond k =
          let e : s₃ ≡ s = back s t tm a h hn far hole only k in
          ap (λ (z : List ℕ). reseat z lg v left (at (t + 1))) e
          ∙ ih s h (subst (λ (z : List ℕ). Mid o lg v c i m l i_n m_n m1 run gap z (t + 1)) e mid) hn (λ u tu um. away u (omega arith) um) hole only
          ∙ sym (shifted_stay s lg v (suc left) h (at t) some d k ∙ rw (less, ← (step_on n i t)))

  -- turn by turn the hole that moves gives what the searches give
  pub along : (left : ℕ) (s : List ℕ) (t h : ℕ) → t ≤ m → Mid o lg v c i m l i_n m_n m1 run gap s t → h < 2 ^ lg → ((u : ℕ) → t ≤ u → u < m → at u ≡ h → ⊥) → get_or s h 0 ≡ empty
      → Only o s (2 ^ lg) h → reseat s lg v left (at t) ≡ shifted s lg v left h (at t)
  unfolding reseat shifted
  along zero s t h tm a hn away hole only = refl
  along (suc left) s t h tm a hn away hole only = ⊎_elim
      (λ (e : t ≡ m).
      let z : get_or s (at t) 0 ≡ empty = a.ahead t (omega arith) tm ∙ rw e gap in
      reseat_done s lg v (suc left) (at t) z ∙ sym (shifted_done s lg v (suc left) h (at t) z))
      (λ k. turn left s t h k a hn (away t (omega arith) k) hole only (λ s h. along left s (t + 1) h (omega arith)) away)
      (eq-or-lt_of_le tm)

-- Deleting the item at slot i by moving the hole along is deleting it by searching anew.
pub shift_is : (o : List ℕ) (lg v c i : ℕ) → Lawful o lg v c → i < 2 ^ lg → (get_or o i 0 ≡ empty → ⊥)
    → reseat (set o i empty) lg v (2 ^ lg) (next (2 ^ lg) i) ≡ shifted (set o i empty) lg v (2 ^ lg) i (next (2 ^ lg) i)
unfolding steps
shift_is o lg v c i l i_n full =
    let k = cluster o lg v c i l i_n full in
    subst (λ (p : ℕ). reseat (set o i empty) lg v (2 ^ lg) p ≡ shifted (set o i empty) lg v (2 ^ lg) i p) (step_on' (2 ^ lg) i)
    (along o lg v c i k.m l i_n k.short k.some k.run k.gap (2 ^ lg) (set o i empty) 1 i k.some
    (start o lg v c i k.m l i_n k.short k.some k.run k.gap) i_n
    (λ u a b e. back k.m k.short u a b e) (get_or-set_same o i empty 0 (lt-le i_n l.room)) first)
  where
    back : (m : ℕ) → m < 2 ^ lg → (u : ℕ) → 1 ≤ u → u < m → steps (2 ^ lg) i u ≡ i → ⊥
    back m m_n u a b e = steps_apart (2 ^ lg) i 0 u i_n a (omega arith) (sym e)

    first : Only o (set o i empty) (2 ^ lg) i
    first j jn e = ⊎_elim (λ z. inl z) (λ d. inr (sym (get_or-set_other o i j empty 0 d) ∙ e)) (same_or_not j i)

-- as Changes says it
pub remove_is : (s : List ℕ) (lg v c x : ℕ) → Lawful s lg v c → (x ≡ empty → ⊥) → spot s lg v x < 2 ^ lg → get_or s (spot s lg v x) 0 ≡ x
    → remove s lg v x ≡ shifted (set s (spot s lg v x) empty) lg v (2 ^ lg) (spot s lg v x) (next (2 ^ lg) (spot s lg v x))
unfolding remove
remove_is s lg v c x l xe qn e = shift_is s lg v c (spot s lg v x) l qn (λ f. xe (sym e ∙ f))
