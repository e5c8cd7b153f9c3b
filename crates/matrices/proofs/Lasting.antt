-- A union stays lawful: what a new union and a merge leave, the next merge finds in order. Assumes nothing.
use mathlib.Core.Path.{◌≡◌, sym, ap, ap₂, ◌∙◌, subst}
use mathlib.Core.Logic.{⊎_elim}
use mathlib.Core.Bool.{Bool, true, false, not, ◌&&◌, ◌||◌, true≢false}
use mathlib.Core.List.{List}
use Prim.Native.Nat.{ℕ, ◌^◌, ◌≤◌, ◌<◌, min}
use native.Mathlib.Nat.{mod-eq_of_lt}
use native.Mathlib.Omega.{arith}
use borrow.Author.Tests.{eq-eqb, eqb-true}
use lib.Dec.{eqb}
use lib.ListN.{length, get_or, replicate, length-replicate, get_or-replicate, get_or-eq_default}
use lib.Pow.{pow_pos, pow_mono}
use Rattle.laws.specs.Choose.{choose}
use Rattle.laws.specs.Columns.{has}
use Rattle.laws.proofs.Columns.{has_zero}
use Rattle.laws.proofs.Orders.{lt_or_le}
use Rattle.laws.proofs.Truths.{never_true, and_left, and_right}
use Rattle.laws.proofs.Words.{word_of_lt, word_of_same, word_of_none}
use Rattle.refusals.specs.Outcome.{Outcome, accepted, if_accepted}
use Rattle.numbers.specs.Calls.{outside}
use Rattle.matrices.specs.Calls.{wrong_rows, lawful_union, new_union_of, new_matrix, merge_judged, present_after, down_to, merged_at, merged_matrix}
use Rattle.matrices.specs.Matrix.{at, matrix_of, coupons, reserved}
use Rattle.matrices.specs.Source.{held}
use Rattle.matrices.proofs.Answered.{Merged, merge_accepted, new_accepted, inside_least, inside_most, right_rows}
use Rattle.matrices.proofs.Fits.{coupons_fit}
use Rattle.matrices.proofs.Lawful.{Lawful, lawful_is, lawful_of}
use Rattle.matrices.proofs.Modulo.{down_find, down_past}
use Rattle.matrices.proofs.Rows.{length_matrix, row_matrix, at_matrix, matrix_is}

-- a union that the next merge finds in order: as many rows as configured, words of 64 columns, and lawful
pub record InOrder (lg present : ℕ) (m : List ℕ) : Type 0 where
  pub rows : length m ≡ 2 ^ lg
  pub words : (r : ℕ) → get_or m r 0 < 2 ^ 64
  pub lawful : lawful_union lg present m ≡ true

-- then the next merge gives neither 2 nor 15 for it, and its coupons fit a u32
module _ (lg present : ℕ) (m : List ℕ) (u : InOrder lg present m) where
  -- not 2
  pub never_two : wrong_rows lg m ≡ false
  never_two = right_rows lg m u.rows

  -- not 15
  pub never_fifteen : not (lawful_union lg present m) ≡ false
  never_fifteen = ap not u.lawful

  -- its coupons
  pub order_fits : lg ≤ 26 → coupons m < 2 ^ 32
  order_fits l = coupons_fit lg m l u.rows (lawful_is lg present m u.lawful).clear

-- the reserved bit is clear where it is clear at lg_k 26
pub clear_by : (lg : ℕ) (m : List ℕ) → (lg ≡ 26 → at m 67108863 63 ≡ false) → reserved lg m ≡ false
clear_by lg m h =
    never_true (reserved lg m)
    (λ e. true≢false (sym (and_right (eqb lg 26) (at m 67108863 63) e) ∙ h (eqb-true lg 26 (and_left (eqb lg 26) (at m 67108863 63) e))))

-- and only there
pub clear_at : (lg : ℕ) (m : List ℕ) → reserved lg m ≡ false → lg ≡ 26 → at m 67108863 63 ≡ false
clear_at lg m e q = sym (ap (λ (t : Bool). t && at m 67108863 63) (eq-eqb lg 26 q)) ∙ e

-- ---- a new union

zeros : (n r : ℕ) → get_or {A = ℕ} (replicate n 0) r 0 ≡ 0
zeros n r =
    ⊎_elim (λ (h : r < n). get_or-replicate n r 0 0 h) (λ (h : n ≤ r). get_or-eq_default (replicate n 0) 0 (omega (arith, length-replicate {A = ℕ} n 0))) (lt_or_le r n)

-- zeros hold nothing
pub zeros_matrix : (n : ℕ) → replicate n 0 ≡ matrix_of n (λ r c. false)
zeros_matrix n =
    matrix_is (replicate n 0) n (λ r c. false) (length-replicate n 0) (λ r. omega (arith, zeros n r, pow_pos 64)) (λ r c h l. ap (λ (w : ℕ). has w c) (zeros n r) ∙ has_zero c)

-- zeros are in order
pub zeros_in_order : (lg n : ℕ) → outside lg ≡ false → n ≡ 2 ^ lg → InOrder lg lg (replicate n 0)
zeros_in_order lg n inside rows = record {
  rows = length-replicate n 0 ∙ rows;
  words = λ r. omega (arith, zeros n r, pow_pos 64);
  lawful =
      lawful_of lg lg (replicate n 0)
      (record {
        least = inside_least lg inside;
        most = omega arith;
        rest = λ r h. zeros n r;
        clear = clear_by lg (replicate n 0) (λ e. ap (λ (w : ℕ). has w 63) (zeros n 67108863) ∙ has_zero 63);
      });
}

-- an accepted new union is in order
pub new_in_order : (lg seed : ℕ) (m values : List ℕ) → new_union_of lg seed m ≡ accepted values → InOrder lg lg (new_matrix lg seed m)
new_in_order lg seed m values e =
    let a = new_accepted lg seed m values e in
    subst (λ (x : List ℕ). InOrder lg lg x) (sym (ap (λ (o : Outcome). if_accepted o (replicate (length m) 0) m) e)) (zeros_in_order lg (length m) a.0 a.1)

-- ---- a merge

-- a matrix of words, from a test that fails from k on
past_zero : (n k : ℕ) (f : ℕ → ℕ → Bool) → ((r c : ℕ) → k ≤ r → f r c ≡ false) → (r : ℕ) → k ≤ r → get_or (matrix_of n f) r 0 ≡ 0
past_zero n k f z r h =
    ⊎_elim (λ (l : r < n). row_matrix n f r l ∙ word_of_same 64 (f r) (λ c. false) (λ c b. z r c h) ∙ word_of_none 64)
    (λ (l : n ≤ r). get_or-eq_default (matrix_of n f) 0 (omega (arith, length_matrix n f))) (lt_or_le r n)

matrix_words : (n : ℕ) (f : ℕ → ℕ → Bool) (r : ℕ) → get_or (matrix_of n f) r 0 < 2 ^ 64
matrix_words n f r =
    ⊎_elim (λ (l : r < n). subst (λ (w : ℕ). w < 2 ^ 64) (sym (row_matrix n f r l)) (word_of_lt 64 (f r)))
    (λ (l : n ≤ r).
    let e : get_or (matrix_of n f) r 0 ≡ 0 = get_or-eq_default (matrix_of n f) 0 (omega (arith, length_matrix n f)) in
    omega (arith, pow_pos 64)) (lt_or_le r n)

module _ (lg present seed : ℕ) (m : List ℕ) (from other c : ℕ) (window ps : List ℕ) (g : Merged lg present seed m from other c window ps) where
  abbrev after : ℕ
  after = min present from

  abbrev src : ℕ → ℕ → Bool
  src = held (2 ^ from) c window ps

  abbrev both : ℕ → ℕ → Bool
  both = merged_at (2 ^ after) m (2 ^ from) src

  abbrev u : Lawful lg present m
  u = lawful_is lg present m g.lawful

  both_past : (r d : ℕ) → 2 ^ after ≤ r → both r d ≡ false
  unfolding merged_at
  both_past r d h = ap₂ ◌||◌ (down_past (2 ^ after) (length m) (at m) r d h) (down_past (2 ^ after) (2 ^ from) src r d h)

  -- where both have 2^26 rows, the reserved bit would be one of theirs
  top : (n : ℕ) (f : ℕ → ℕ → Bool) → n ≡ 2 ^ 26 → f 67108863 63 ≡ false → down_to (2 ^ 26) n f 67108863 63 ≡ false
  top n f e z =
      never_true (down_to (2 ^ 26) n f 67108863 63)
      (λ t.
      let v = down_find (2 ^ 26) n f 67108863 63 t in
      let l : v.0 < 2 ^ 26 = omega (arith, v.1) in
      true≢false (sym v.3 ∙ ap (λ (x : ℕ). f x 63) (sym (mod-eq_of_lt l) ∙ v.2) ∙ z))

  both_clear : reserved lg (matrix_of (length m) both) ≡ false
  unfolding merged_at
  both_clear =
      clear_by lg (matrix_of (length m) both)
      (λ q.
      ⊎_elim
      (λ (l : after < 26).
      let p : 2 ^ after ≤ 2 ^ 25 = pow_mono {i = after} {j = 25} (omega arith) in
      ap (λ (w : ℕ). has w 63) (past_zero (length m) (2 ^ after) both both_past 67108863 (omega arith)) ∙ has_zero 63)
      (λ (l : 26 ≤ after).
      let a : after ≡ 26 = omega (arith, u.most) in
      let b : from ≡ 26 = omega (arith, inside_most from g.inside) in
      let n : length m ≡ 2 ^ 26 = g.rows ∙ ap (λ (x : ℕ). 2 ^ x) q in
      let s : 2 ^ from ≡ 2 ^ 26 = ap (λ (x : ℕ). 2 ^ x) b in
      at_matrix (length m) both 67108863 63 (omega arith) (omega arith)
      ∙ ap (λ (x : ℕ). merged_at (2 ^ x) m (2 ^ from) src 67108863 63) a
      ∙ ap₂ ◌||◌ (top (length m) (at m) n (clear_at lg m u.clear q))
      (top (2 ^ from) src s (sym (at_matrix (2 ^ from) src 67108863 63 (omega arith) (omega arith)) ∙ clear_at from (matrix_of (2 ^ from) src) g.source.clear b))) (lt_or_le after 26))

  both_in_order : InOrder lg after (matrix_of (length m) both)
  both_in_order = record {
    rows = length_matrix (length m) both ∙ g.rows;
    words = matrix_words (length m) both;
    lawful =
        lawful_of lg after (matrix_of (length m) both)
        (record {
          least = omega (arith, u.least, inside_least from g.inside);
          most = omega (arith, u.most);
          rest = past_zero (length m) (2 ^ after) both both_past;
          clear = both_clear;
        });
  }

-- what an accepted merge leaves is in order
pub merge_in_order : (lg present seed : ℕ) (m : List ℕ) (from other c : ℕ) (window ps values : List ℕ) → ((r : ℕ) → get_or m r 0 < 2 ^ 64)
    → merge_judged lg present seed m from other c window ps ≡ accepted values
    → InOrder lg (present_after present from c) (merged_matrix lg present seed m from other c window ps)
merge_in_order lg present seed m from other c window ps values words e =
    let g = merge_accepted lg present seed m from other c window ps values e in
    subst (λ (x : List ℕ). InOrder lg (present_after present from c) x) (sym (ap (λ (o : Outcome). if_accepted o (choose (eqb c 0) m (made (eqb c 0))) m) e)) (go g (eqb c 0))
  where
    made : Bool → List ℕ
    made t = matrix_of (length m) (merged_at (2 ^ choose t present (min present from)) m (2 ^ from) (held (2 ^ from) c window ps))

    go : Merged lg present seed m from other c window ps → (t : Bool) → InOrder lg (choose t present (min present from)) (choose t m (made t))
    go g true = record { rows = g.rows; words = words; lawful = g.lawful }
    go g false = both_in_order lg present seed m from other c window ps g
