-- Pairs added to a list, and the words ORed beside it. Assumes nothing.
use mathlib.Core.Path.{◌≡◌, refl, sym, ap, ap₂, subst, ◌∙◌}
use mathlib.Core.Bool.{Bool, true, false}
use mathlib.Core.List.{List, [], ◌∷◌, ◌++◌, append-nil, append_assoc}
use Prim.Native.Nat.{ℕ, zero, suc, ◌+◌, ◌*◌, ◌%◌, ◌^◌, ◌≤◌, ◌<◌}
use native.Mathlib.Nat.{add_comm, one-mul}
use native.Mathlib.Numerals.{add-one}
use native.Mathlib.Omega.{arith}
use lib.Bits.{bit_or, or_zero_l, or_zero_r, or_shifted_r}
use lib.Count.{count_trailing_zeros}
use lib.ListN.{length, get_or, drop, length-append}
use lib.Seq.{paste}
use Rattle.laws.specs.Below.{one}
use Rattle.laws.specs.Columns.{has, word_of}
use Rattle.laws.proofs.Words.{word_of_lt, word_of_has, or_words}
use Rattle.matrices.specs.Listing.{only, list_from}
use Rattle.matrices.specs.Parts.{surprise_word, surprise_pairs, first_column}
use Rattle.matrices.specs.Shapes.{row_pairs}
use Rattle.matrices.proofs.FirstColumn.{ored_to, ored_none, ored_more, ored_end, surprise_lt}
use Rattle.matrices.proofs.SplitTurn.{listed_to, to_none, to_more, to_all, over_turn}
use Rattle.unions.specs.Steps.{SurpriseSum, columns_of, Added}
use Rattle.unions.specs.declared.splitting.Surprises.{Surprises}

-- ---- the columns of pairs

columns_none : columns_of [] ≡ 0
unfolding columns_of
columns_none = refl

columns_append : (a b : List ℕ) → columns_of (a ++ b) ≡ bit_or (columns_of a) (columns_of b)
unfolding columns_of
columns_append [] b = sym (or_zero_l (columns_of b))
columns_append (p ∷ a) b = ap (bit_or (2 ^ (p % 64))) (columns_append a b) ∙ sym (or_words (2 ^ (p % 64)) (columns_of a) (columns_of b))

columns_only : (b : Bool) (x n : ℕ) → x % 64 ≡ n → columns_of (only b x) ≡ one b * 2 ^ n
unfolding columns_of
columns_only true x n e = or_zero_r (2 ^ (x % 64)) ∙ ap (λ (j : ℕ). 2 ^ j) e ∙ sym (one-mul (2 ^ n))
columns_only false x n e = omega arith

columns_from : (r w n : ℕ) → n ≤ 64 → columns_of (list_from (64 * r) n (λ x. has w (x % 64))) ≡ word_of n (has w)
unfolding columns_of list_from word_of
columns_from r w zero h = refl
columns_from r w (suc n) h =
    let q : (64 * r + n) % 64 ≡ n = omega arith in
    let b = has w ((64 * r + n) % 64) in
    columns_append (list_from (64 * r) n (λ x. has w (x % 64))) (only b (64 * r + n))
    ∙ ap₂ bit_or (columns_from r w n (omega arith)) (columns_only b (64 * r + n) n q ∙ ap (λ (j : ℕ). one (has w j) * 2 ^ n) q)
    ∙ or_shifted_r (one (has w n)) n (word_of n (has w)) (word_of_lt n (has w)) ∙ add_comm (one (has w n) * 2 ^ n) (word_of n (has w))

-- those of a row's pairs are the columns of its word
pub columns_row : (r w : ℕ) → w < 2 ^ 64 → columns_of (row_pairs r w) ≡ w
columns_row r w h = columns_from r w 64 (omega arith) ∙ word_of_has 64 w h

module _ (wide : Bool) (o : ℕ) (m : List ℕ) (words : (t : ℕ) → get_or m t 0 < 2 ^ 64) where
  columns_to : (r : ℕ) → r ≤ length m → columns_of (listed_to wide o m r) ≡ ored_to wide o m r
  columns_to zero h = ap columns_of (to_none wide o m) ∙ columns_none ∙ sym (ored_none wide o m)
  columns_to (suc r) h =
      let s = surprise_word wide o (get_or m r 0) in
      ap (λ (n : ℕ). columns_of (listed_to wide o m n)) (sym (add-one r))
      ∙ ap columns_of (to_more wide o m r)
      ∙ columns_append (listed_to wide o m r) (row_pairs r s)
      ∙ ap₂ bit_or (columns_to r (omega arith)) (columns_row r s (surprise_lt wide o (get_or m r 0) (words r)))
      ∙ ored_more wide o m r words (omega arith)
      ∙ ap (ored_to wide o m) (add-one r)

  -- those of all surprises give the first interesting column
  pub columns_all : count_trailing_zeros 64 (columns_of (surprise_pairs wide o m)) ≡ first_column wide o m
  columns_all =
      ap (λ (l : List ℕ). count_trailing_zeros 64 (columns_of l)) (sym (to_all wide o m))
      ∙ ap (count_trailing_zeros 64) (columns_to (length m) (omega arith)) ∙ ored_end wide o m

-- ---- pairs added

-- none
pub added_none : (s : Surprises) (out : List ℕ) → Added [] s out s out
added_none s out = record {
  count = omega arith;
  ored = sym (ap (bit_or s.ored) columns_none ∙ or_zero_r s.ored);
  list = λ written lent n w. w ∙ ap (λ (l : List ℕ). l ++ drop (length l) lent) (sym (append-nil written));
}

-- those of a row
pub added_row : (r w : ℕ) (s : Surprises) (out left : List ℕ) (n : ℕ) → w < 2 ^ 64 → n ≡ s.count + length (row_pairs r w)
    → left ≡ paste out s.count (row_pairs r w) (length (row_pairs r w)) → Added (row_pairs r w) s out (record { ored = bit_or s.ored w; count = n }) left
added_row r w s out left n h en el = record {
  count = en;
  ored = ap (bit_or s.ored) (sym (columns_row r w h));
  list = λ written lent e o.
      el ∙ ap₂ (λ (l : List ℕ) (i : ℕ). paste l i (row_pairs r w) (length (row_pairs r w))) o e ∙ over_turn written (row_pairs r w) lent;
}

-- some, and then others
pub added_both : (p q : List ℕ) (a b c : Surprises) (x y z : List ℕ) → Added p a x b y → Added q b y c z → Added (p ++ q) a x c z
added_both p q a b c x y z f g = record {
  count = omega (arith, f.count, g.count, length-append p q);
  ored =
      g.ored ∙ ap (λ (w : ℕ). bit_or w (columns_of q)) f.ored ∙ or_words a.ored (columns_of p) (columns_of q)
      ∙ ap (bit_or a.ored) (sym (columns_append p q));
  list = λ written lent n w.
      g.list (written ++ p) lent (f.count ∙ ap (λ (i : ℕ). i + length p) n ∙ sym (length-append written p)) (f.list written lent n w)
      ∙ ap (λ (l : List ℕ). l ++ drop (length l) lent) (append_assoc written p q);
}

-- the surprises of all rows, added to none, are what a split lists and counts
pub whole_added : (wide : Bool) (o : ℕ) (m : List ℕ) → ((t : ℕ) → get_or m t 0 < 2 ^ 64) → (to : ℕ) → to ≡ length m → (out : List ℕ) (all : Surprises) (left : List ℕ)
    → Added (listed_to wide o m to) (record { ored = 0; count = 0 }) out all left
    → SurpriseSum wide o m all × (left ≡ surprise_pairs wide o m ++ drop (length (surprise_pairs wide o m)) out)
whole_added wide o m fits to e out all left f =
    let s = subst (λ (x : List ℕ). Added x (record { ored = 0; count = 0 }) out all left) (ap (listed_to wide o m) e ∙ to_all wide o m) f in (
      record {
        first = ap (count_trailing_zeros 64) (s.ored ∙ or_zero_l _) ∙ columns_all wide o m fits;
        count = omega (arith, s.count);
      },
      s.list [] out refl refl,
    )
