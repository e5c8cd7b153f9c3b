-- What a merge makes, however it goes: fold first, or leave the rows as they are; then rows, or pairs one by one. Assumes nothing.
use mathlib.Core.Path.{◌≡◌, refl, sym, ap, ap₂, ◌∙◌, subst}
use mathlib.Core.Logic.{⊎_elim}
use mathlib.Core.Bool.{Bool, true, false, ◌&&◌, ◌||◌, true≢false}
use mathlib.Core.List.{List}
use Prim.Native.Nat.{ℕ, zero, suc, ◌+◌, ◌-◌, ◌*◌, ◌/◌, ◌%◌, ◌^◌, ◌≤◌, ◌<◌}
use native.Mathlib.Nat.{mod-eq_of_lt}
use native.Mathlib.Omega.{arith}
use borrow.Author.Tests.{lt-ltb, le-ltb, eq-eqb, ne_eqb, eqb-true}
use lib.Dec.{eqb, leb, ltb}
use lib.ListN.{length, get_or, set, replicate, get_or-replicate, get_or-eq_default}
use Rattle.laws.specs.Below.{any_below}
use Rattle.laws.specs.Columns.{has, word_of}
use Rattle.laws.proofs.Any.{any_find, any_of, any_one, any_same, any_more, any_extend}
use Rattle.laws.proofs.Columns.{has_zero}
use Rattle.laws.proofs.Orders.{lt_or_le, same_or_not}
use Rattle.laws.proofs.Truths.{and_left, and_right, and_both, and_false, or_false, or_assoc, both_true}
use Rattle.laws.proofs.Words.{word_of_same}
use Rattle.matrices.specs.Calls.{down_to, merged_at}
use Rattle.matrices.specs.Listing.{in_list}
use Rattle.matrices.specs.Matrix.{at, matrix_of}
use Rattle.matrices.specs.Shapes.{folded, merged}
use Rattle.matrices.proofs.Folding.{partly, partly_low, partly_past, partly_rest}
use Rattle.matrices.proofs.Rows.{at_matrix, matrix_is, matrix_same, set_matrix, put, put_same, put_other}
use Rattle.matrices.proofs.Modulo.{down_find, down_of}

-- ---- the fold

-- a fold may stop where only empty rows are left
pub fold_short : (m : List ℕ) (k top : ℕ) → k ≤ top → top ≤ length m → ((r : ℕ) → top ≤ r → get_or m r 0 ≡ 0)
    → matrix_of (length m) (partly k top m) ≡ matrix_of (length m) (folded k m)
fold_short m k top l h z =
    matrix_same (length m) (partly k top m) (folded k m)
    (λ r c b g.
    let none : (t : ℕ) → top ≤ t → at m t c ≡ false = λ t u. ap (λ (w : ℕ). has w c) (z t u) ∙ has_zero c in
    let e : top + (length m - top) ≡ length m = omega arith in
    ⊎_elim
    (λ (low : r < k).
    partly_low m k top r c low
    ∙ sym
    (ap (λ (t : Bool). t && any_below (length m) (λ s. eqb (s % k) r && at m s c)) (lt-ltb r k low)
    ∙ ap (λ (n : ℕ). any_below n (λ s. eqb (s % k) r && at m s c)) (sym e)
    ∙ any_extend (length m - top) top (λ s. eqb (s % k) r && at m s c)
    (λ t u v. ap (λ (x : Bool). eqb (t % k) r && x) (none t u) ∙ and_false (eqb (t % k) r))))
    (λ (high : k ≤ r).
    ⊎_elim (λ (u : r < top). partly_past m k top r c high u) (λ (u : top ≤ r). partly_rest m k top r c high u ∙ none r u) (lt_or_le r top)
    ∙ sym (ap (λ (t : Bool). t && any_below (length m) (λ s. eqb (s % k) r && at m s c)) (le-ltb r k high))) (lt_or_le r k))

-- ---- the merge

-- after a fold to k rows
pub merge_folded : (k s : ℕ) (m : List ℕ) (src : ℕ → ℕ → Bool)
    → matrix_of (length m) (merged k s (matrix_of (length m) (folded k m)) src) ≡ matrix_of (length m) (merged_at k m s src)
unfolding merged_at
merge_folded k s m src =
    matrix_same (length m) (merged k s (matrix_of (length m) (folded k m)) src) (merged_at k m s src)
    (λ r c h l. ap (λ (t : Bool). t || down_to k s src r c) (at_matrix (length m) (folded k m) r c h l))

-- a matrix whose rows from k on are zero is folded to k rows already
pub down_self : (k : ℕ) (m : List ℕ) → ((r : ℕ) → k ≤ r → get_or m r 0 ≡ 0) → (r c : ℕ) → down_to k (length m) (at m) r c ≡ at m r c
down_self k m z r c =
    both_true (down_to k (length m) (at m) r c) (at m r c)
    (λ e.
    let u = down_find k (length m) (at m) r c e in
    let b = inside u.0 u.3 in
    subst (λ (x : ℕ). at m x c ≡ true) (sym (mod-eq_of_lt b) ∙ u.2) u.3)
    (λ e.
    let b = inside r e in
    ap₂ ◌&&◌ (lt-ltb r k b)
    (any_of (length m) (λ t. eqb (t % k) r && at m t c) r (within r e) (ap₂ ◌&&◌ (eq-eqb (r % k) r (mod-eq_of_lt b)) e)))
  where
    inside : (t : ℕ) → at m t c ≡ true → t < k
    inside t e = ⊎_elim (λ (l : t < k). l) (λ (l : k ≤ t). absurd (true≢false (sym e ∙ ap (λ (w : ℕ). has w c) (z t l) ∙ has_zero c))) (lt_or_le t k)

    within : (t : ℕ) → at m t c ≡ true → t < length m
    within t e =
        ⊎_elim (λ (l : t < length m). l)
        (λ (l : length m ≤ t). absurd (true≢false (sym e ∙ ap (λ (w : ℕ). has w c) (get_or-eq_default m 0 l) ∙ has_zero c))) (lt_or_le t (length m))

-- where nothing is folded, its rows stay as they are
pub merge_unfolded : (k s : ℕ) (m : List ℕ) (src : ℕ → ℕ → Bool) → ((r : ℕ) → k ≤ r → get_or m r 0 ≡ 0)
    → matrix_of (length m) (merged k s m src) ≡ matrix_of (length m) (merged_at k m s src)
unfolding merged_at
merge_unfolded k s m src z =
    matrix_same (length m) (merged k s m src) (merged_at k m s src) (λ r c h l. ap (λ (t : Bool). t || down_to k s src r c) (sym (down_self k m z r c)))

-- into zeros, with as many rows: the source itself
pub merge_zeros : (k : ℕ) (src : ℕ → ℕ → Bool) → matrix_of k (merged k k (replicate k 0) src) ≡ matrix_of k src
merge_zeros k src =
    matrix_same k (merged k k (replicate k 0) src) src
    (λ r c h l.
    ap₂ (λ (t u : Bool). t || (u && any_below k (λ s. eqb (s % k) r && src s c))) (ap (λ (w : ℕ). has w c) (get_or-replicate k r 0 0 h) ∙ has_zero c) (lt-ltb r k h)
    ∙ any_same k (λ s. eqb (s % k) r && src s c) (λ s. eqb s r && src s c) (λ s b. ap (λ (x : ℕ). eqb x r && src s c) (mod-eq_of_lt b))
    ∙ any_one k r (λ s. src s c) h)

any_or : (n : ℕ) (p q : ℕ → Bool) → (any_below n p || any_below n q) ≡ any_below n (λ t. p t || q t)
unfolding any_below
any_or zero p q = refl
any_or (suc n) p q = swap_or (any_below n p) (p n) (any_below n q) (q n) ∙ ap (λ (t : Bool). t || (p n || q n)) (any_or n p q)
  where
    swap_or : (a b c d : Bool) → ((a || b) || (c || d)) ≡ ((a || c) || (b || d))
    swap_or true b c d = refl
    swap_or false true true d = refl
    swap_or false true false d = refl
    swap_or false false c d = refl

regroup : (a b x y : Bool) → ((a || (b && x)) || (b && y)) ≡ (a || (b && (x || y)))
regroup true b x y = refl
regroup false true x y = refl
regroup false false x y = refl

apart : (a b c : Bool) → ((a && b) || (a && c)) ≡ (a && (b || c))
apart true b c = refl
apart false b c = refl

-- one source after the other: what either has
pub merge_both : (n k s : ℕ) (m : List ℕ) (f g : ℕ → ℕ → Bool)
    → matrix_of n (merged k s (matrix_of n (merged k s m f)) g) ≡ matrix_of n (merged k s m (λ r c. f r c || g r c))
merge_both n k s m f g =
    matrix_same n (merged k s (matrix_of n (merged k s m f)) g) (merged k s m (λ r c. f r c || g r c))
    (λ r c h l.
    ap (λ (t : Bool). t || down_to k s g r c) (at_matrix n (merged k s m f) r c h l)
    ∙ regroup (at m r c) (ltb r k) (any_below s (λ t. eqb (t % k) r && f t c)) (any_below s (λ t. eqb (t % k) r && g t c))
    ∙ ap (λ (t : Bool). at m r c || (ltb r k && t))
    (any_or s (λ t. eqb (t % k) r && f t c) (λ t. eqb (t % k) r && g t c)
    ∙ any_same s (λ t. (eqb (t % k) r && f t c) || (eqb (t % k) r && g t c)) (λ t. eqb (t % k) r && (f t c || g t c)) (λ t b. apart (eqb (t % k) r) (f t c) (g t c))))

-- sources that agree give the same
pub merge_alike : (n k s : ℕ) (m : List ℕ) (f g : ℕ → ℕ → Bool) → ((r c : ℕ) → c < 64 → f r c ≡ g r c) → matrix_of n (merged k s m f) ≡ matrix_of n (merged k s m g)
merge_alike n k s m f g e =
    matrix_same n (merged k s m f) (merged k s m g)
    (λ r c h l.
    ap (λ (t : Bool). at m r c || (ltb r k && t))
    (any_same s (λ t. eqb (t % k) r && f t c) (λ t. eqb (t % k) r && g t c) (λ t b. ap (λ (x : Bool). eqb (t % k) r && x) (e t c l))))

-- no row changes nothing
pub merge_none : (n k : ℕ) (m : List ℕ) (f : ℕ → ℕ → Bool) (r c : ℕ) → r < n → c < 64 → at (matrix_of n (merged k 0 m f)) r c ≡ at m r c
unfolding any_below
merge_none n k m f r c h l = at_matrix n (merged k 0 m f) r c h l ∙ ap (λ (t : Bool). at m r c || t) (and_false (ltb r k)) ∙ or_false (at m r c)

-- ---- a list, pair by pair

-- the matrix, and of the first i pairs of the list those from a first column on, their rows taken mod k
abbrev pub pairs_to : ℕ → ℕ → List ℕ → List ℕ → ℕ → ℕ → ℕ → Bool
pairs_to k first m ps i r c = at m r c || any_below i (λ j. eqb (get_or ps j 0 / 64 % k) r && (leb first c && eqb c (get_or ps j 0 % 64)))

module _ (k first : ℕ) (m ps : List ℕ) where
  abbrev hit : ℕ → ℕ → ℕ → Bool
  hit r c j = eqb (get_or ps j 0 / 64 % k) r && (leb first c && eqb c (get_or ps j 0 % 64))

  -- before the first pair
  pub pairs_start : ((r : ℕ) → get_or m r 0 < 2 ^ 64) → m ≡ matrix_of (length m) (pairs_to k first m ps 0)
  unfolding any_below
  pairs_start w = matrix_is m (length m) (pairs_to k first m ps 0) refl w (λ r c h l. sym (or_false (at m r c)))

  -- one pair more: its column joins row (row mod k), and no other row is touched
  pub pairs_turn : (i row : ℕ) → get_or ps i 0 / 64 % k ≡ row → row < length m
      → (p : ℕ → Bool) → ((c : ℕ) → c < 64 → p c ≡ (at (matrix_of (length m) (pairs_to k first m ps i)) row c || (leb first c && eqb c (get_or ps i 0 % 64))))
      → set (matrix_of (length m) (pairs_to k first m ps i)) row (word_of 64 p) ≡ matrix_of (length m) (pairs_to k first m ps (i + 1))
  pairs_turn i row er h p e =
      ap (set (matrix_of n f) row) (word_of_same 64 p joined (λ c l. e c l ∙ ap (λ (t : Bool). t || new c) (at_matrix n f row c h l)))
      ∙ set_matrix n f row joined h
      ∙ matrix_same n (put f row joined) (pairs_to k first m ps (i + 1))
      (λ r c g b.
      ⊎_elim
      (λ (q : r ≡ row).
      put_same f row joined r c q ∙ ap (λ (y : ℕ). f y c || new c) (sym q)
      ∙ or_assoc (at m r c) (any_below i (hit r c)) (new c)
      ∙ ap (λ (t : Bool). at m r c || (any_below i (hit r c) || (t && new c))) (sym (eq-eqb (get_or ps i 0 / 64 % k) r (er ∙ sym q)))
      ∙ ap (λ (t : Bool). at m r c || t) (sym (any_more i (hit r c))))
      (λ (q : r ≡ row → ⊥).
      put_other f row joined r c q
      ∙ ap (λ (t : Bool). at m r c || t)
      (sym (any_more i (hit r c) ∙ ap (λ (t : Bool). any_below i (hit r c) || (t && new c)) (ne_eqb (get_or ps i 0 / 64 % k) r (λ y. q (sym y ∙ er))) ∙ or_false (any_below i (hit r c)))))
      (same_or_not r row))
    where
      n : ℕ
      n = length m

      new : ℕ → Bool
      new c = leb first c && eqb c (get_or ps i 0 % 64)

      f : ℕ → ℕ → Bool
      f = pairs_to k first m ps i

      joined : ℕ → Bool
      joined c = f row c || new c

  -- all pairs: the same as row by row
  pub pairs_end : (s : ℕ) → 0 < k → ((i : ℕ) → i < length ps → get_or ps i 0 / 64 < s)
      → matrix_of (length m) (pairs_to k first m ps (length ps)) ≡ matrix_of (length m) (merged k s m (λ r c. leb first c && in_list ps (64 * r + c)))
  unfolding in_list
  pairs_end s pos rows =
      matrix_same (length m) (pairs_to k first m ps (length ps)) (merged k s m src)
      (λ r c h l. ap (λ (t : Bool). at m r c || t) (both_true (any_below (length ps) (hit r c)) (down_to k s src r c) (fwd r c) (bwd r c l)))
    where
      listed : ℕ → ℕ → ℕ → Bool
      listed r c i = eqb (get_or ps i 0) (64 * r + c)

      src : ℕ → ℕ → Bool
      src r c = leb first c && any_below (length ps) (listed r c)

      fwd : (r c : ℕ) → any_below (length ps) (hit r c) ≡ true → down_to k s src r c ≡ true
      fwd r c e =
          let u = any_find (length ps) (hit r c) e in
          let x = get_or ps u.0 0 in
          let q : x / 64 % k ≡ r = eqb-true (x / 64 % k) r (and_left (eqb (x / 64 % k) r) (leb first c && eqb c (x % 64)) u.2) in
          let late = and_right (eqb (x / 64 % k) r) (leb first c && eqb c (x % 64)) u.2 in
          let y : c ≡ x % 64 = eqb-true c (x % 64) (and_right (leb first c) (eqb c (x % 64)) late) in
          let z : x ≡ 64 * (x / 64) + c = omega arith in
          subst (λ (t : ℕ). down_to k s src t c ≡ true) q
          (down_of k s src (x / 64) c pos (rows u.0 u.1)
          (and_both (and_left (leb first c) (eqb c (x % 64)) late) (any_of (length ps) (listed (x / 64) c) u.0 u.1 (eq-eqb x (64 * (x / 64) + c) z))))

      bwd : (r c : ℕ) → c < 64 → down_to k s src r c ≡ true → any_below (length ps) (hit r c) ≡ true
      bwd r c l e =
          let u = down_find k s src r c e in
          let t = u.0 in
          let v = any_find (length ps) (listed t c) (and_right (leb first c) (any_below (length ps) (listed t c)) u.3) in
          let x = get_or ps v.0 0 in
          let z : x ≡ 64 * t + c = eqb-true x (64 * t + c) v.2 in
          let d : x / 64 ≡ t = omega arith in
          let y : c ≡ x % 64 = omega arith in
          any_of (length ps) (hit r c) v.0 v.1
          (and_both (eq-eqb (x / 64 % k) r (ap (λ (w : ℕ). w % k) d ∙ u.2))
          (and_both (and_left (leb first c) (any_below (length ps) (listed t c)) u.3) (eq-eqb c (x % 64) y)))
