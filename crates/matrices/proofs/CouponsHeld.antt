-- The coupons that a source holds, without its matrix: o·k + ones of the window + pairs above the window − pairs below it. Assumes nothing.
use mathlib.Core.Path.{◌≡◌, refl, sym, ap, ap₂, ◌∙◌}
use mathlib.Core.Logic.{⊎_elim}
use mathlib.Core.Bool.{Bool, true, false, not, ◌&&◌, ◌||◌}
use mathlib.Core.List.{List, ◌++◌}
use Prim.Native.Nat.{ℕ, zero, suc, ◌+◌, ◌-◌, ◌*◌, ◌/◌, ◌%◌, ◌^◌, ◌≤◌, ◌<◌}
use native.Mathlib.Nat.{zero-add, div-lt_iff_lt-mul}
use native.Mathlib.Omega.{arith}
use borrow.Author.Tests.{lt-ltb, le-ltb, le-leb, lt-leb}
use lib.Count.{ones}
use lib.Dec.{leb, ltb}
use lib.ListN.{length, get_or, length-append, get_or-append}
use lib.Seq.{get_or-append-add}
use Rattle.laws.specs.Below.{one, sum_below, count_below}
use Rattle.laws.specs.Columns.{has, differs}
use Rattle.laws.proofs.Columns.{has_out}
use Rattle.laws.proofs.Ones.{count_same, ones_count}
use Rattle.laws.proofs.Orders.{lt_or_le}
use Rattle.laws.proofs.Sums.{sum_zero, sum_add, sum_same, sum_split, sum_ones}
use Rattle.laws.proofs.Truths.{and_false}
use Rattle.numbers.specs.Numbers.{offset_at}
use Rattle.matrices.specs.Listing.{only, list_from, in_list}
use Rattle.matrices.specs.Matrix.{at, matrix_of, coupons, in_window}
use Rattle.matrices.specs.Shapes.{Sorted}
use Rattle.matrices.specs.Source.{expanded}
use Rattle.matrices.proofs.Bridges.{length_list, count_rows}
use Rattle.matrices.proofs.Inverse.{Parts}
use Rattle.matrices.proofs.Members.{list_of_sorted}
use Rattle.matrices.proofs.Parting.{window_col}
use Rattle.matrices.proofs.Rows.{length_matrix, at_matrix}

-- ---- the offset is at most 61

-- of at most 64k coupons
pub offset_most : (k c : ℕ) → 0 < k → c ≤ 64 * k → offset_at k c ≤ 61
unfolding offset_at
offset_most k c p h =
    ⊎_elim (λ (l : 8 * c < 19 * k). rw (lt-ltb (8 * c) (19 * k) l) (omega arith))
    (λ (l : 19 * k ≤ 8 * c).
    let q : (8 * c - 19 * k) / (8 * k) < 62 = (div-lt_iff_lt-mul {k = 8 * k} (omega arith)).1 (omega arith) in
    rw (le-ltb (8 * c) (19 * k) l) (omega arith)) (lt_or_le (8 * c) (19 * k))

-- ---- the coupons of a set of pairs

-- the coupons of a matrix that is given by a test, row by row
pub coupons_matrix : (k : ℕ) (f : ℕ → ℕ → Bool) → coupons (matrix_of k f) ≡ sum_below k (λ r. count_below 64 (f r))
unfolding coupons
coupons_matrix k f =
    ap (λ (n : ℕ). sum_below n (λ r. count_below 64 (at (matrix_of k f) r))) (length_matrix k f)
    ∙ sum_same k _ _ (λ r h. count_same 64 (at (matrix_of k f) r) (f r) (λ c l. at_matrix k f r c h l))

-- the members of a list that pass a test
abbrev pub passing : (ℕ → Bool) → List ℕ → ℕ
passing q ps = count_below (length ps) (λ i. q (get_or ps i 0))

passing_append : (q : ℕ → Bool) (l r : List ℕ) → passing q (l ++ r) ≡ passing q l + passing q r
passing_append q l r =
    ap (λ (n : ℕ). count_below n (λ i. q (get_or (l ++ r) i 0))) (length-append l r)
    ∙ sum_split (length l) (length r) (λ i. one (q (get_or (l ++ r) i 0)))
    ∙ ap₂ ◌+◌ (count_same (length l) _ _ (λ i h. ap q (get_or-append l r 0 i h)))
    (count_same (length r) _ _ (λ i h. ap q (get_or-append-add l r i 0)))

passing_only : (q : ℕ → Bool) (b : Bool) (x : ℕ) → passing q (only b x) ≡ one (b && q x)
unfolding sum_below
passing_only q true x = zero-add (one (q x))
passing_only q false x = refl

passing_list : (q : ℕ → Bool) (n : ℕ) (p : ℕ → Bool) → passing q (list_from 0 n p) ≡ count_below n (λ x. p x && q x)
unfolding list_from sum_below
passing_list q zero p = refl
passing_list q (suc n) p =
    passing_append q (list_from 0 n p) (only (p (0 + n)) (0 + n))
    ∙ ap₂ ◌+◌ (passing_list q n p) (ap (λ (x : ℕ). passing q (only (p x) x)) (zero-add n) ∙ passing_only q (p n) n)

-- those of an increasing list of pairs, row by row
module _ (k : ℕ) (ps : List ℕ) (s : Sorted ps) (below : (i : ℕ) → i < length ps → get_or ps i 0 < 64 * k) where
  whole : (x : ℕ) → 64 * (x / 64) + x % 64 ≡ x
  whole x = omega arith

  passing_rows : (q : ℕ → Bool) → passing (λ p. q (p % 64)) ps ≡ sum_below k (λ r. count_below 64 (λ c. in_list ps (64 * r + c) && q c))
  passing_rows q =
      ap (passing (λ p. q (p % 64))) (sym (list_of_sorted ps s (64 * k) below))
      ∙ passing_list (λ p. q (p % 64)) (64 * k) (in_list ps)
      ∙ count_same (64 * k) _ _ (λ x h. ap (λ (y : ℕ). in_list ps y && q (x % 64)) (sym (whole x)))
      ∙ count_rows k (λ r c. in_list ps (64 * r + c) && q c)

  -- without a window: as many as the list is long
  pub coupons_listed : coupons (matrix_of k (λ r c. in_list ps (64 * r + c))) ≡ length ps
  coupons_listed =
      coupons_matrix k (λ r c. in_list ps (64 * r + c))
      ∙ sym (count_rows k (λ r c. in_list ps (64 * r + c)))
      ∙ count_same (64 * k) _ _ (λ x h. ap (in_list ps) (whole x))
      ∙ sym (length_list (64 * k) (in_list ps))
      ∙ ap length (list_of_sorted ps s (64 * k) below)

-- ---- one row

-- what comes after n adds nothing
count_extend : (n d : ℕ) (p : ℕ → Bool) → ((i : ℕ) → n ≤ i → i < n + d → p i ≡ false) → count_below (n + d) p ≡ count_below n p
count_extend n d p e =
    sum_split n d (λ i. one (p i))
    ∙ ap (λ (x : ℕ). count_below n p + x) (count_same d (λ i. p (n + i)) (λ i. false) (λ i h. e (n + i) (omega arith) (omega arith)) ∙ sum_zero d)
    ∙ omega arith

-- the columns below o
pub count_low : (o : ℕ) → o ≤ 64 → count_below 64 (λ c. ltb c o) ≡ o
count_low o l =
    let e : 64 ≡ o + (64 - o) = omega arith in
    ap (λ (n : ℕ). count_below n (λ c. ltb c o)) e
    ∙ count_extend o (64 - o) (λ c. ltb c o) (λ i h g. le-ltb i o h)
    ∙ sum_ones o (λ c. one (ltb c o)) (λ i h. ap one (lt-ltb i o h))

module _ (o b : ℕ) (small : o ≤ 64) (byte : b < 2 ^ 8) (inside : (i : ℕ) → i < 8 → 64 ≤ o + i → has b i ≡ false) where
  -- the window's columns
  eight : count_below (64 - o) (has b) ≡ count_below 8 (has b)
  eight =
      ⊎_elim
      (λ (l : 64 - o < 8).
      let e : 8 ≡ 64 - o + (8 - (64 - o)) = omega arith in
      sym (ap (λ (n : ℕ). count_below n (has b)) e ∙ count_extend (64 - o) (8 - (64 - o)) (has b) (λ i h g. inside i (omega arith) (omega arith))))
      (λ (l : 8 ≤ 64 - o).
      let e : 64 - o ≡ 8 + (64 - o - 8) = omega arith in
      ap (λ (n : ℕ). count_below n (has b)) e ∙ count_extend 8 (64 - o - 8) (has b) (λ i h g. has_out 8 b i byte h)) (lt_or_le (64 - o) 8)

  place : (i : ℕ) → (in_window o (o + i) && has b (o + i - o)) ≡ has b i
  place i =
      let e : o + i - o ≡ i = omega arith in
      ap (λ (x : ℕ). in_window o (o + i) && has b x) e
      ∙ ⊎_elim (λ (l : i < 8). ap (λ (t : Bool). t && has b i) (window_col o i l))
      (λ (l : 8 ≤ i). ap (λ (t : Bool). in_window o (o + i) && t) (has_out 8 b i byte l) ∙ and_false (in_window o (o + i)) ∙ sym (has_out 8 b i byte l)) (lt_or_le i 8)

  count_window : count_below 64 (λ c. in_window o c && has b (c - o)) ≡ ones b
  count_window =
      let e : 64 ≡ o + (64 - o) = omega arith in
      ap (λ (n : ℕ). count_below n (λ c. in_window o c && has b (c - o))) e
      ∙ sum_split o (64 - o) (λ c. one (in_window o c && has b (c - o)))
      ∙ ap₂ ◌+◌
      (count_same o (λ c. in_window o c && has b (c - o)) (λ c. false) (λ c h. ap (λ (t : Bool). (t && ltb c (o + 8)) && has b (c - o)) (lt-leb o c h)) ∙ sum_zero o)
      (count_same (64 - o) (λ i. in_window o (o + i) && has b (o + i - o)) (has b) (λ i h. place i) ∙ eight ∙ sym (ones_count 8 b byte))
      ∙ zero-add (ones b)

  -- a column below the window, in it, and above it
  low : (t : Bool) → one (differs t true) + one (t && true) ≡ 1 + 0 + one (t && false)
  low true = refl
  low false = refl

  within : (h t : Bool) → one (h || false) + one (t && false) ≡ 0 + one h + one (t && false)
  within true true = refl
  within true false = refl
  within false true = refl
  within false false = refl

  high : (t : Bool) → one (differs t false) + one (t && false) ≡ 0 + 0 + one (t && true)
  high true = refl
  high false = refl

  column : (c : ℕ) (h t : Bool)
      → one ((in_window o c && h) || (not (in_window o c) && differs t (ltb c o))) + one (t && ltb c o) ≡ one (ltb c o) + one (in_window o c && h) + one (t && leb (o + 8) c)
  column c h t =
      ⊎_elim (λ (l : c < o). rw (lt-leb o c l, lt-ltb c o l, lt-leb (o + 8) c (omega arith)) (low t))
      (λ (l : o ≤ c).
      ⊎_elim (λ (g : c < o + 8). rw (le-leb o c l, le-ltb c o l, lt-ltb c (o + 8) g, lt-leb (o + 8) c g) (within h t))
      (λ (g : o + 8 ≤ c). rw (le-leb o c l, le-ltb c o l, le-ltb c (o + 8) g, le-leb (o + 8) c g) (high t)) (lt_or_le c (o + 8))) (lt_or_le c o)

  row_count : (s : ℕ → Bool)
      → count_below 64 (λ c. (in_window o c && has b (c - o)) || (not (in_window o c) && differs (s c) (ltb c o))) + count_below 64 (λ c. s c && ltb c o)
      ≡ o + ones b + count_below 64 (λ c. s c && leb (o + 8) c)
  row_count s =
      sym (sum_add 64 _ _)
      ∙ sum_same 64 _ _ (λ c l. column c (has b (c - o)) (s c))
      ∙ sum_add 64 _ _
      ∙ ap (λ (x : ℕ). x + count_below 64 (λ c. s c && leb (o + 8) c)) (sum_add 64 _ _ ∙ ap₂ ◌+◌ (count_low o small) count_window)

-- ---- all rows

pub sum_const : (k o : ℕ) → sum_below k (λ r. o) ≡ o * k
unfolding sum_below
sum_const zero o = omega arith
sum_const (suc k) o = omega (arith, sum_const k o)

-- with a window
pub coupons_wide : (o k : ℕ) (window ps : List ℕ) → o ≤ 64 → Parts o k window ps
    → coupons (matrix_of k (expanded o window ps)) + passing (λ p. ltb (p % 64) o) ps
    ≡ o * k + sum_below k (λ r. ones (get_or window r 0)) + passing (λ p. leb (o + 8) (p % 64)) ps
coupons_wide o k window ps small ok =
    ap₂ ◌+◌ (coupons_matrix k (expanded o window ps)) (passing_rows k ps ok.sorted ok.below (λ c. ltb c o))
    ∙ sym (sum_add k _ _)
    ∙ sum_same k _ _ (λ r h. row_count o (get_or window r 0) small (ok.byte r) (ok.inside r) (λ c. in_list ps (64 * r + c)))
    ∙ sum_add k _ _
    ∙ ap₂ ◌+◌ (sum_add k _ _ ∙ ap (λ (x : ℕ). x + sum_below k (λ r. ones (get_or window r 0))) (sum_const k o))
    (sym (passing_rows k ps ok.sorted ok.below (λ c. leb (o + 8) c)))
