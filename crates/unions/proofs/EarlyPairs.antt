-- Early pairs, those below the window, which mean absence: rows without one, and the columns of a row that has some. Assumes nothing.
use mathlib.Core.Path.{◌≡◌, refl, sym, ap, ap₂, ◌∙◌, subst}
use mathlib.Core.Logic.{⊎_elim}
use mathlib.Core.Bool.{Bool, true, false, not, ◌&&◌, ◌||◌}
use mathlib.Core.List.{List}
use Prim.Native.Nat.{ℕ, ◌+◌, ◌-◌, ◌*◌, ◌%◌, ◌≤◌, ◌<◌}
use native.Mathlib.Nat.{add-sub_of_le, eq-or-lt_of_le, not-suc-le-zero}
use native.Mathlib.Omega.{arith}
use borrow.Author.Tests.{eq-eqb, ne_eqb, lt-ltb, le-ltb, le-leb, lt-leb}
use lib.Dec.{eqb, leb, ltb}
use lib.ListN.{length, get_or}
use Rattle.laws.specs.Below.{any_below}
use Rattle.laws.specs.Columns.{has, word_of, differs}
use Rattle.laws.proofs.Any.{any_none, any_more, any_extend}
use Rattle.laws.proofs.Orders.{lt_or_le, same_or_not}
use Rattle.laws.proofs.Truths.{and_false, or_false, or_right}
use Rattle.laws.proofs.Words.{word_of_same, word_of_none, has_word_of}
use Rattle.matrices.specs.Listing.{in_list}
use Rattle.matrices.specs.Matrix.{in_window}
use Rattle.matrices.specs.Shapes.{joined_at, Sorted}
use Rattle.matrices.specs.Source.{expanded}
use Rattle.matrices.proofs.Members.{among_first}
use Rattle.unions.specs.Steps.{early_set, NoneBefore, EarlyFrom, NextEarly}

-- from a pair on, none is less
pub rising : (ps : List ℕ) → Sorted ps → (n i : ℕ) → n ≤ i → i < length ps → get_or ps n 0 ≤ get_or ps i 0
rising ps s n i h l =
    ⊎_elim (λ (e : n ≡ i). subst (λ (x : ℕ). get_or ps n 0 ≤ get_or ps x 0) e (omega arith)) (λ (g : n < i). omega (arith, s.less n i g l)) (eq-or-lt_of_le h)

-- ---- a row by its early pairs

module _ (o : ℕ) (window ps : List ℕ) where
  -- put together from its window byte and the columns of its early pairs
  pub join_early : (r s c : ℕ) → s ≡ word_of 64 (λ d. ltb d o && in_list ps (64 * r + d)) → c < 64 → has (joined_at o (get_or window r 0) s) c ≡ early_set o window ps r c
  join_early r s c e l =
      has_word_of 64 (λ d. (in_window o d && has (get_or window r 0) (d - o)) || (not (in_window o d) && differs (has s d) (ltb d o))) c l
      ∙ ap (λ (t : Bool). (in_window o c && has (get_or window r 0) (c - o)) || (not (in_window o c) && differs t (ltb c o)))
      (ap (λ (x : ℕ). has x c) e ∙ has_word_of 64 (λ d. ltb d o && in_list ps (64 * r + d)) c l)
      ∙ ap (λ (t : Bool). (in_window o c && has (get_or window r 0) (c - o)) || t)
      (⊎_elim
      (λ (h : c < o).
      ap₂ (λ (t u : Bool). not (t && ltb c (o + 8)) && differs (u && listed) u) (lt-leb o c h) (lt-ltb c o h)
      ∙ flip listed ∙ sym (ap (λ (t : Bool). t && not listed) (lt-ltb c o h)))
      (λ (h : o ≤ c).
      ap (λ (t : Bool). not (in_window o c) && differs (t && listed) t) (le-ltb c o h) ∙ and_false (not (in_window o c)) ∙ sym (ap (λ (t : Bool). t && not listed) (le-ltb c o h)))
      (lt_or_le c o))
    where
      listed : Bool
      listed = in_list ps (64 * r + c)

      flip : (b : Bool) → differs b true ≡ not b
      flip true = refl
      flip false = refl

  -- a source is what its rows are so, and its late pairs
  pub early_late : (r c : ℕ) → (early_set o window ps r c || (leb (o + 8) c && in_list ps (64 * r + c))) ≡ expanded o window ps r c
  early_late r c =
      ⊎_elim (λ (h : c < o). rw (lt-leb o c h, lt-ltb c o h, lt-leb (o + 8) c (omega arith)) (below (in_list ps (64 * r + c))))
      (λ (h : o ≤ c).
      ⊎_elim (λ (g : c < o + 8). rw (le-leb o c h, lt-ltb c (o + 8) g, le-ltb c o h, lt-leb (o + 8) c g) (or_false (has (get_or window r 0) (c - o) || false)))
      (λ (g : o + 8 ≤ c). rw (le-leb o c h, le-ltb c (o + 8) g, le-ltb c o h, le-leb (o + 8) c g) (past (in_list ps (64 * r + c)))) (lt_or_le c (o + 8)))
      (lt_or_le c o)
    where
      below : (b : Bool) → (not b || false) ≡ differs b true
      below true = refl
      below false = refl

      past : (b : Bool) → b ≡ differs b false
      past true = refl
      past false = refl

-- ---- rows without an early pair

pub early_first : (o : ℕ) (ps : List ℕ) → EarlyFrom o ps 0 0
early_first o ps = record { within = omega arith; before = λ i h e. absurd (not-suc-le-zero h); after = λ i h l e. omega arith }

module _ (o : ℕ) (ps : List ℕ) (start n r : ℕ) (b : EarlyFrom o ps start r) (next : NextEarly o ps start n) where
  -- from the next early pair on, no pair is in a row before r
  pub early_none : Sorted ps → NoneBefore ps n r
  early_none s = record {
    none = λ i h l.
        let g : n < length ps = omega arith in
        omega (arith, b.after n next.least g (next.here g), rising ps s n i h l);
  }

  -- rows up to that pair's are passed
  pub early_reach : (stop : ℕ) → r ≤ stop → NoneBefore ps n stop → EarlyFrom o ps n stop
  early_reach stop h none = record {
    within = next.within;
    before = λ i l e. ⊎_elim (λ (g : i < start). omega (arith, b.before i g e)) (λ (g : start ≤ i). absurd (omega (arith, next.none i g l))) (lt_or_le i start);
    after = λ i l k e. none.none i l k;
  }

  -- and have no early columns
  no_early : (stop : ℕ) → NoneBefore ps n stop → (t : ℕ) → r ≤ t → t < stop → 0 ≡ word_of 64 (λ c. ltb c o && in_list ps (64 * t + c))
  unfolding in_list
  no_early stop none t h l =
      sym (word_of_none 64)
      ∙ word_of_same 64 (λ c. false) (λ c. ltb c o && in_list ps (64 * t + c))
      (λ c g.
      ⊎_elim
      (λ (k : c < o).
      sym (ap (λ (x : Bool). ltb c o && x) (any_none (length ps) (λ i. eqb (get_or ps i 0) (64 * t + c)) (λ i within. ne_eqb (get_or ps i 0) (64 * t + c) (λ q. apart i within c g k q))) ∙ and_false (ltb c o)))
      (λ (k : o ≤ c). sym (ap (λ (x : Bool). x && in_list ps (64 * t + c)) (le-ltb c o k))) (lt_or_le c o))
    where
      reach : (x : ℕ) → r ≤ x → x ≤ stop → EarlyFrom o ps n x
      reach x g k = early_reach x g (record { none = λ i a d. omega (arith, none.none i a d) })

      apart : (i : ℕ) → i < length ps → (c : ℕ) → c < 64 → c < o → get_or ps i 0 ≡ 64 * t + c → ⊥
      apart i within c g k q =
          let e : get_or ps i 0 % 64 < o = omega arith in
          ⊎_elim (λ (a : i < n). omega (arith, (reach t h (omega arith)).before i a e)) (λ (a : n ≤ i). omega (arith, (reach (t + 1) (omega arith) (omega arith)).after i a within e))
          (lt_or_le i n)

  -- so that they are their window bytes
  pub early_rows : (window : List ℕ) (stop : ℕ) → NoneBefore ps n stop → (t c : ℕ) → r ≤ t → t < stop → c < 64 → has (joined_at o (get_or window t 0) 0) c ≡ early_set o window ps t c
  early_rows window stop none t c h l d = join_early o window ps t 0 c (no_early stop none t h l) d

-- ---- the early pairs of a row, taken one by one

-- the early columns of the row's pairs among the first i are the word w
pub record Taken (o : ℕ) (ps : List ℕ) (row i w : ℕ) : Type 0 where
  pub within : i ≤ length ps
  pub before : (j : ℕ) → j < i → get_or ps j 0 % 64 < o → get_or ps j 0 < 64 * row + 64
  pub word : w ≡ word_of 64 (λ c. ltb c o && among_first ps i (64 * row + c))

module _ (o : ℕ) (ps : List ℕ) (row : ℕ) where
  -- before the first one
  pub take_start : (n : ℕ) → EarlyFrom o ps n row → Taken o ps row n 0
  take_start n b = record {
    within = b.within;
    before = λ j h e. omega (arith, b.before j h e);
    word = sym (word_of_none 64)
        ∙ word_of_same 64 (λ c. false) (λ c. ltb c o && among_first ps n (64 * row + c))
        (λ c l.
        ⊎_elim
        (λ (g : c < o).
        sym (ap (λ (x : Bool). ltb c o && x) (any_none n (λ j. eqb (get_or ps j 0) (64 * row + c)) (λ j h. ne_eqb (get_or ps j 0) (64 * row + c) (λ q. apart j h c l g q))) ∙ and_false (ltb c o)))
        (λ (g : o ≤ c). sym (ap (λ (x : Bool). x && among_first ps n (64 * row + c)) (le-ltb c o g))) (lt_or_le c o));
  }
    where
      apart : (j : ℕ) → j < n → (c : ℕ) → c < 64 → c < o → get_or ps j 0 ≡ 64 * row + c → ⊥
      apart j h c l g q = let e : get_or ps j 0 % 64 < o = omega arith in omega (arith, b.before j h e)

  -- one more
  pub take_turn : (i w : ℕ) → o < 64 → i < length ps → 64 * row ≤ get_or ps i 0 → get_or ps i 0 < 64 * row + o → Taken o ps row i w
      → Taken o ps row (i + 1) (word_of 64 (λ c. has w c || eqb c (get_or ps i 0 % 64)))
  take_turn i w small h least most t = record {
    within = omega arith;
    before = λ j l e. ⊎_elim (λ (g : j ≡ i). subst (λ (x : ℕ). get_or ps x 0 < 64 * row + 64) (sym g) (omega arith)) (λ (g : j < i). t.before j g e) (eq-or-lt_of_le (omega arith));
    word = word_of_same 64 (λ c. has w c || eqb c x) (λ c. ltb c o && among_first ps (i + 1) (64 * row + c))
        (λ c l.
        ap (λ (y : Bool). y || eqb c x) (ap (λ (y : ℕ). has y c) t.word ∙ has_word_of 64 (λ d. ltb d o && among_first ps i (64 * row + d)) c l)
        ∙ ⊎_elim
        (λ (e : c ≡ x).
        or_right (ltb c o && among_first ps i (64 * row + c)) (eqb c x) (eq-eqb c x e)
        ∙ sym
        (ap₂ ◌&&◌ (lt-ltb c o (omega arith))
        (any_more i (λ j. eqb (get_or ps j 0) (64 * row + c)) ∙ or_right (among_first ps i (64 * row + c)) (eqb (get_or ps i 0) (64 * row + c)) (eq-eqb (get_or ps i 0) (64 * row + c) (omega arith)))))
        (λ (e : c ≡ x → ⊥).
        ap (λ (y : Bool). (ltb c o && among_first ps i (64 * row + c)) || y) (ne_eqb c x e)
        ∙ or_false (ltb c o && among_first ps i (64 * row + c))
        ∙ ap (λ (y : Bool). ltb c o && y)
        (sym
        (any_more i (λ j. eqb (get_or ps j 0) (64 * row + c)) ∙ ap (λ (y : Bool). among_first ps i (64 * row + c) || y) (ne_eqb (get_or ps i 0) (64 * row + c) (λ q. e (omega arith)))
        ∙ or_false (among_first ps i (64 * row + c)))))
        (same_or_not c x));
  }
    where
      x : ℕ
      x = get_or ps i 0 % 64

  -- after the last one
  pub take_end : (i w : ℕ) → Sorted ps → (i < length ps → 64 * row + o ≤ get_or ps i 0) → Taken o ps row i w
      → (w ≡ word_of 64 (λ c. ltb c o && in_list ps (64 * row + c))) × EarlyFrom o ps i (row + 1)
  unfolding in_list
  take_end i w s past t = (
    t.word
        ∙ word_of_same 64 (λ c. ltb c o && among_first ps i (64 * row + c)) (λ c. ltb c o && in_list ps (64 * row + c))
        (λ c l.
        ⊎_elim (λ (g : c < o). ap (λ (y : Bool). ltb c o && y) (sym (all c g)))
        (λ (g : o ≤ c). ap (λ (y : Bool). y && among_first ps i (64 * row + c)) (le-ltb c o g) ∙ sym (ap (λ (y : Bool). y && in_list ps (64 * row + c)) (le-ltb c o g))) (lt_or_le c o)),
    record { within = t.within; before = λ j h e. omega (arith, t.before j h e); after = λ j h l e. omega (arith, beyond j h l) },
  )
    where
      beyond : (j : ℕ) → i ≤ j → j < length ps → 64 * row + o ≤ get_or ps j 0
      beyond j h l = omega (arith, past (omega arith), rising ps s i j h l)

      all : (c : ℕ) → c < o → in_list ps (64 * row + c) ≡ among_first ps i (64 * row + c)
      all c g =
          ap (λ (y : ℕ). any_below y (λ j. eqb (get_or ps j 0) (64 * row + c))) (sym (add-sub_of_le t.within))
          ∙ any_extend (length ps - i) i (λ j. eqb (get_or ps j 0) (64 * row + c))
          (λ j h l. ne_eqb (get_or ps j 0) (64 * row + c) (omega (arith, beyond j h (omega (arith, add-sub_of_le t.within)))))
