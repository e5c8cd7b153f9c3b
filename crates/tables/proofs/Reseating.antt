-- Each item from an emptied slot up to the next empty one is taken and stored again. What holds after each turn, and after the last. Assumes nothing.
use mathlib.Core.Path.{◌≡◌, refl, sym, ap, ◌∙◌, subst}
use mathlib.Core.Bool.{true≢false}
use mathlib.Core.Logic.{⊎_elim}
use mathlib.Core.List.{List}
use Prim.Native.Nat.{ℕ, zero, suc, ◌+◌, ◌-◌, ◌^◌, ◌≤◌, ◌<◌}
use native.Mathlib.Omega.{arith}
use native.Mathlib.Nat.{eq-or-lt_of_le, lt_of_lt_of_le as lt-le}
use lib.ListN.{length, get_or, set, length-set}
use lib.Seq.{get_or-set_same, get_or-set_other}
use borrow.Author.Tests.{eq-eqb, ne_eqb}
use Rattle.laws.proofs.Orders.{same_or_not, le_or_lt}
use Rattle.tables.specs.Slots.{empty, home, next, spot, held, total}
use Rattle.tables.specs.Changes.{place, reseat}
use Rattle.tables.specs.Shapes.{steps, Lawful, Member}
use Rattle.tables.proofs.Laws.{stops_empty, home_lt, held_empty, held_full}
use Rattle.tables.proofs.Stepping.{steps_add, steps_lt, steps_self, steps_apart, step_on, step_on'}
use Rattle.tables.proofs.Paths.{Path-to, path_of, path_spot, stop_empty, path_fill, path_off, own_path}
use Rattle.tables.proofs.Tally.{total_set, one, one_same, one_other, tally_at, tally_some, once_lawful}

-- an empty slot ends it
pub reseat_done : (s : List ℕ) (lg v left p : ℕ) → get_or s p 0 ≡ empty → reseat s lg v left p ≡ s
unfolding reseat
reseat_done s lg v zero p e = refl
reseat_done s lg v (suc left) p e = simp (eq-eqb (get_or s p 0) empty e)

-- a turn: the item at p is taken and stored again
pub reseat_go : (s : List ℕ) (lg v left p : ℕ) → 0 < left → (get_or s p 0 ≡ empty → ⊥)
    → reseat s lg v left p ≡ reseat (place (set s p empty) lg v (get_or s p 0)) lg v (left - 1) (next (2 ^ lg) p)
unfolding reseat
reseat_go s lg v zero p h d = absurd (omega arith)
reseat_go s lg v (suc left) p h d =
    let e : suc left - 1 ≡ left = omega arith in
    simp (ne_eqb (get_or s p 0) empty d, e)

-- A table o with the item at slot i to go. The slots from i on hold items up to the m-th after it, which is empty.
module _ (o : List ℕ) (lg v c i m : ℕ) (l : Lawful o lg v c) (i_n : i < 2 ^ lg) (m_n : m < 2 ^ lg) (m1 : 0 < m)
    (run : (u : ℕ) → u < m → get_or o (steps (2 ^ lg) i u) 0 ≡ empty → ⊥) (gap : get_or o (steps (2 ^ lg) i m) 0 ≡ empty) where
  abbrev pub n : ℕ
  n = 2 ^ lg

  -- the u-th slot after i
  abbrev pub at : ℕ → ℕ
  at u = steps (2 ^ lg) i u

  -- the items that wait, from the t-th slot on, stand where they stood
  abbrev pub Ahead : List ℕ → ℕ → Type 0
  Ahead s t = (u : ℕ) → t ≤ u → u ≤ m → get_or s (at u) 0 ≡ get_or o (at u) 0

  -- j is no slot of an item that waits
  abbrev pub Apart : ℕ → ℕ → Type 0
  Apart t j = (u : ℕ) → t ≤ u → u < m → j ≡ at u → ⊥

  -- every other item is found
  abbrev pub Found : List ℕ → ℕ → Type 0
  Found s t = (j : ℕ) → j < n → (get_or s j 0 ≡ empty → ⊥) → Apart t j → Path-to s lg v (get_or s j 0) j

  -- it is one of the slots
  pub at_lt : (u : ℕ) → at u < n
  at_lt u = steps_lt n i u i_n

  -- a search that ends at no waiting item passes none of them: it would run on to the empty slot
  passes : (s : List ℕ) (t z j k : ℕ) → t ≤ m → Ahead s t → (get_or s j 0 ≡ empty → ⊥) → Apart t j → (w : Path-to s lg v z j) → k ≤ w.count
      → steps n (home lg v z) k ≡ at t → ⊥
  passes s t z j k tm ahead full apart w kc e = ⊎_elim far near (le_or_lt m (t + (w.count - k)))
    where
      h : ℕ
      h = home lg v z

      on : (r : ℕ) → steps n (home lg v z) (k + r) ≡ at (t + r)
      on r = steps_add n (home lg v z) k r ∙ ap (λ p. steps n p r) e ∙ sym (steps_add n i t r)

      near : t + (w.count - k) < m → ⊥
      near q =
          let y : k + (w.count - k) ≡ w.count = omega arith in
          apart (t + (w.count - k)) (omega arith) q (sym w.there ∙ ap (steps n (home lg v z)) (sym y) ∙ on (w.count - k))

      far : m ≤ t + (w.count - k) → ⊥
      far q =
          let y : t + (m - t) ≡ m = omega arith in
          let end : steps n (home lg v z) (k + (m - t)) ≡ at m = on (m - t) ∙ ap at y in
          let hole : get_or s (steps n (home lg v z) (k + (m - t))) 0 ≡ empty = rw end (ahead m tm (omega arith) ∙ gap) in
          ⊎_elim
          (λ (g : k + (m - t) ≡ w.count). full (rw (← w.there, ← g) hole))
          (λ (g : k + (m - t) < w.count). true≢false (sym (stops_empty s z _ hole) ∙ w.ends.clear (k + (m - t)) g))
          (eq-or-lt_of_le (omega arith))

  -- taking out the first item that waits leaves the others found
  out : (s : List ℕ) (t : ℕ) → t < m → n ≤ length s → Ahead s t → Found s t → Found (set s (at t) empty) (t + 1)
  out s t tm long ahead found j jn full apart =
      rw same (path_off s lg v (get_or s j 0) j (at t) empty w (λ k kc. passes s t (get_or s j 0) j k (omega arith) ahead full' apart' w kc))
    where
      j≢ : j ≡ at t → ⊥
      j≢ e = full (rw e (get_or-set_same s (at t) empty 0 (lt-le (at_lt t) long)))

      same : get_or (set s (at t) empty) j 0 ≡ get_or s j 0
      same = get_or-set_other s (at t) j empty 0 j≢

      full' : get_or s j 0 ≡ empty → ⊥
      full' e = full (same ∙ e)

      apart' : Apart t j
      apart' u tu um e = ⊎_elim (λ (z : t ≡ u). j≢ (e ∙ ap at (sym z))) (λ z. apart u (omega arith) um e) (eq-or-lt_of_le tu)

      w : Path-to s lg v (get_or s j 0) j
      w = found j jn full' apart'

  -- after the items before the t-th slot were stored again
  pub record Mid (s : List ℕ) (t : ℕ) : Type 0 where
    pub long : length s ≡ length o
    pub ahead : Ahead s t
    pub found : Found s t
    pub small : (j : ℕ) → j < n → (get_or s j 0 ≡ empty → ⊥) → get_or s j 0 < 2 ^ v
    pub same : (f : ℕ → ℕ) → f empty ≡ 0 → total f s n + f (get_or o i 0) ≡ total f o n
    pub past : (j : ℕ) → n ≤ j → get_or s j 0 ≡ get_or o j 0

  -- the item at slot i is out
  pub start : Mid (set o i empty) 1
  unfolding steps
  start = record {
    long = length-set o i empty;
    ahead = λ u a b. get_or-set_other o i (at u) empty 0 (λ e. steps_self n i u i_n a (omega arith) (sym e));
    found = out o 0 m1 l.room (λ u a b. refl) (λ j jn full apart. own_path o lg v c j l jn full);
    small = λ j jn full. ⊎_elim (λ (e : j ≡ i). absurd (full (rw e (get_or-set_same o i empty 0 i_l)))) (λ d. rw (get_or-set_other o i j empty 0 d) (l.placed j jn (λ e. full (get_or-set_other o i j empty 0 d ∙ e))).small) (same_or_not j i);
    same = λ f z. omega (arith, total_set f o i empty n i_n i_l);
    past = λ j h. get_or-set_other o i j empty 0 (λ e. omega arith);
  }
    where
      i_l : i < length o
      i_l = lt-le i_n l.room

  once : (y : ℕ) → (y ≡ empty → ⊥) → total (one y) o n ≤ 1
  once = once_lawful o lg v c l

  module _ (s : List ℕ) (t : ℕ) (tm : t < m) (a : Mid s t) where
    abbrev pub b : ℕ
    b = at t

    -- the item that waits first
    abbrev pub y : ℕ
    y = get_or s (at t) 0

    -- the region without it
    abbrev pub s₂ : List ℕ
    s₂ = set s (at t) empty

    abbrev q : ℕ
    q = spot (set s (at t) empty) lg v (get_or s (at t) 0)

    -- the region is long enough
    pub room : n ≤ length s
    room = rw a.long l.room

    -- its slot is in the region
    pub b_l : b < length s
    b_l = lt-le (at_lt t) room

    -- it stands where it stood
    pub was : y ≡ get_or o b 0
    was = a.ahead t (omega arith) (omega arith)

    -- it is an item
    pub full_y : y ≡ empty → ⊥
    full_y e = run t tm (sym was ∙ e)

    emptied : get_or s₂ b 0 ≡ empty
    emptied = get_or-set_same s b empty 0 b_l

    -- y is nowhere else
    pub gone : (j : ℕ) → j < n → get_or s₂ j 0 ≡ y → ⊥
    gone j jn e = omega (arith, tally_at y s₂ n j jn e, total_set (one y) s b empty n (at_lt t) b_l, one_same y (get_or s b 0) refl, one_other y empty (λ z. full_y (sym z)), a.same (one y) (one_other y empty (λ z. full_y (sym z))), once y full_y)

    small_y : y < 2 ^ v
    small_y = a.small b (at_lt t) full_y

    -- its home is a slot
    pub home_y : home lg v y < n
    unfolding home
    home_y = home_lt lg v y (omega (arith, l.bits_least)) small_y

    path₂ : Path-to s₂ lg v y q
    path₂ = path_of s₂ lg v y b home_y (at_lt t) (stops_empty s₂ y b emptied)

    q_lt : q < n
    q_lt = rw path₂.there at (steps_lt n (home lg v y) path₂.count home_y)

    q_empty : get_or s₂ q 0 ≡ empty
    q_empty = stop_empty s₂ y q (rw path₂.there at path₂.ends.stop) (gone q q_lt)

    -- its search ends at its old slot or before, so not at the empty slot past the items that wait
    q_not_end : q ≡ at m → ⊥
    q_not_end e = ⊎_elim sooner later (le_or_lt w.count path₂.count)
      where
        w : Path-to o lg v y b
        w = rw (← was) at (own_path o lg v c b l (at_lt t) (λ z. full_y (was ∙ z)))

        later : path₂.count < w.count → ⊥
        later h = true≢false (sym (stops_empty o y q (rw e gap)) ∙ (rw path₂.there at (w.ends.clear path₂.count h)))

        sooner : w.count ≤ path₂.count → ⊥
        sooner h = ⊎_elim
            (λ (z : w.count ≡ path₂.count). run t tm (rw (sym w.there ∙ ap (steps n (home lg v y)) z ∙ path₂.there ∙ e) gap))
            (λ z. true≢false (sym (stops_empty s₂ y _ (rw w.there emptied)) ∙ path₂.ends.clear w.count z))
            (eq-or-lt_of_le h)

    -- the region with it stored again
    abbrev pub s₃ : List ℕ
    s₃ = set (set s (at t) empty) (spot (set s (at t) empty) lg v (get_or s (at t) 0)) (get_or s (at t) 0)

    q_l : q < length s₂
    q_l = rw (length-set s b empty) (lt-le q_lt room)

    stored : get_or s₃ q 0 ≡ y
    stored = get_or-set_same s₂ q y 0 q_l

    other : (j : ℕ) → (j ≡ q → ⊥) → get_or s₃ j 0 ≡ get_or s₂ j 0
    other j d = get_or-set_other s₂ q j y 0 d

    -- the items that still wait are as they were
    ahead₃ : Ahead s₃ (t + 1)
    ahead₃ u h g =
        let d : at u ≡ b → ⊥ = λ e. steps_apart n i t u i_n (omega arith) (omega arith) (sym e) in
        let was_u : get_or s₂ (at u) 0 ≡ get_or o (at u) 0 = get_or-set_other s b (at u) empty 0 d ∙ a.ahead u (omega arith) g in
        other (at u) (λ (e : at u ≡ q). ⊎_elim
        (λ (z : u ≡ m). q_not_end (sym e ∙ ap at z))
        (λ z. run u z (sym was_u ∙ rw e q_empty))
        (eq-or-lt_of_le g)) ∙ was_u

    found₃ : Found s₃ (t + 1)
    found₃ j jn full apart = ⊎_elim here there (same_or_not j q)
      where
        here : j ≡ q → Path-to s₃ lg v (get_or s₃ j 0) j
        here e = rw (e, stored) (path_fill s₂ lg v y q q y path₂ q_l q_empty (λ z. refl))

        there : (j ≡ q → ⊥) → Path-to s₃ lg v (get_or s₃ j 0) j
        there d =
            let g = other j d in
            rw g (path_fill s₂ lg v (get_or s₂ j 0) j q y (out s t tm room a.ahead a.found j jn (λ e. full (g ∙ e)) apart) q_l q_empty (λ z. absurd (d z)))

    small₃ : (j : ℕ) → j < n → (get_or s₃ j 0 ≡ empty → ⊥) → get_or s₃ j 0 < 2 ^ v
    small₃ j jn full = ⊎_elim here there (same_or_not j q)
      where
        here : j ≡ q → get_or s₃ j 0 < 2 ^ v
        here e = rw (e, stored) small_y

        there : (j ≡ q → ⊥) → get_or s₃ j 0 < 2 ^ v
        there d = ⊎_elim
            (λ (e : j ≡ b). absurd (full (other j d ∙ rw e emptied)))
            (λ f. let g : get_or s₃ j 0 ≡ get_or s j 0 = other j d ∙ get_or-set_other s b j empty 0 f in rw g (a.small j jn (λ e. full (g ∙ e))))
            (same_or_not j b)

    -- one turn
    pub again : Mid s₃ (t + 1)
    again = record {
      long = length-set s₂ q y ∙ length-set s b empty ∙ a.long;
      ahead = ahead₃;
      found = found₃;
      small = small₃;
      same = λ f z. omega (arith, total_set f s b empty n (at_lt t) b_l, total_set f s₂ q y n q_lt q_l, ap f q_empty, a.same f z);
      past = λ j h. other j (λ e. omega (arith, q_lt)) ∙ get_or-set_other s b j empty 0 (λ e. omega (arith, at_lt t)) ∙ a.past j h;
    }

  onward : (left : ℕ) (s : List ℕ) (t : ℕ) → (get_or s (at t) 0 ≡ empty → ⊥)
      → Mid (reseat (place (set s (at t) empty) lg v (get_or s (at t) 0)) lg v left (at (t + 1))) m → Mid (reseat s lg v (suc left) (at t)) m
  onward left s t full b =
      let d : suc left - 1 ≡ left = omega arith in
      let z : 0 < suc left = omega arith in
      let e : reseat s lg v (suc left) (at t) ≡ reseat (place (set s (at t) empty) lg v (get_or s (at t) 0)) lg v (suc left - 1) (next n (at t)) = reseat_go s lg v (suc left) (at t) z full in
      rw (e, d, ← (step_on n i t)) b

  -- the loop brings every item back
  all_back : (left : ℕ) (s : List ℕ) (t : ℕ) → t ≤ m → m < left + t → Mid s t → Mid (reseat s lg v left (at t)) m
  unfolding place
  all_back zero s t h k a = absurd (omega arith)
  all_back (suc left) s t h k a = ⊎_elim
      (λ (e : t ≡ m). rw (reseat_done s lg v (suc left) (at t) (a.ahead t (omega arith) h ∙ rw e gap)) (subst (λ (u : ℕ). Mid s u) e a))
      (λ tm. onward left s t (full_y s t tm a) (all_back left (place (set s (at t) empty) lg v (get_or s (at t) 0)) (t + 1) (omega arith) (omega arith) (again s t tm a)))
      (eq-or-lt_of_le h)

  abbrev r : List ℕ
  r = reseat (set o i empty) lg v (2 ^ lg) (next (2 ^ lg) i)

  done : Mid r m
  done =
      let e : at 1 ≡ next n i = step_on' n i in
      subst (λ (p : ℕ). Mid (reseat (set o i empty) lg v (2 ^ lg) p) m) e (all_back (2 ^ lg) (set o i empty) 1 m1 (omega arith) start)

  none_waits : (j : ℕ) → Apart m j
  none_waits j u a b = absurd (omega arith)

  -- so the table is lawful, with an item less
  pub back_lawful : Lawful r lg v (c - 1)
  unfolding steps
  back_lawful = record {
    lg_least = l.lg_least;
    lg_most = l.lg_most;
    bits_least = l.bits_least;
    bits_most = l.bits_most;
    room = rw done.long l.room;
    count = omega (arith, done.same held (held_empty empty refl), held_full (get_or o i 0) (run 0 m1), l.count);
    load = omega (arith, l.load);
    placed = λ j jn full. record { small = done.small j jn full; found = path_spot (done.found j jn full (none_waits j)) };
    beyond = λ j h g. done.past j h ∙ l.beyond j h (rw done.long at g);
  }

  -- y is there exactly if it was, and is not the item that went
  pub kept : (y : ℕ) → Member o n y → (y ≡ get_or o i 0 → ⊥) → Member r n y
  kept y w d =
      let t = tally_at y o n w.0 w.1 w.2 in
      let e = done.same (one y) (one_other y empty (λ z. w.3 (sym z))) in
      let p = tally_some y r n (omega (arith, one_other y (get_or o i 0) (λ z. d (sym z)))) in
      (p.0, p.1, p.2, w.3)

  -- what is there was
  pub was_there : (y : ℕ) → Member r n y → Member o n y
  was_there y w =
      let t = tally_at y r n w.0 w.1 w.2 in
      let e = done.same (one y) (one_other y empty (λ z. w.3 (sym z))) in
      let p = tally_some y o n (omega arith) in
      (p.0, p.1, p.2, w.3)

  -- the item that went is not
  pub not_it : Member r n (get_or o i 0) → ⊥
  not_it w =
      let y = get_or o i 0 in
      omega (arith, tally_at y r n w.0 w.1 w.2, done.same (one y) (one_other y empty (λ z. w.3 (sym z))), one_same y y refl, once y w.3)
