-- The loop that lists the columns of a word. Assumes nothing.
use mathlib.Core.Path.{◌≡◌, sym, ap, ◌∙◌}
use mathlib.Core.List.{List, ◌∷◌}
use Prim.Native.Nat.{ℕ, suc, ◌+◌, ◌-◌, ◌*◌, ◌^◌, ◌≤◌, ◌<◌}
use native.Mathlib.Nat.{sub_self}
use native.Mathlib.Omega.{arith}
use lib.Bits.{bit_xor, xor_lt}
use lib.Count.{count_trailing_zeros}
use lib.ListN.{length, get_or, set, drop, length-drop}
use lib.Pow.{pow-lt}
use lib.Seq.{drop-cons, paste, paste-zero, paste-suc, length-paste}
use Rattle.laws.proofs.Trailing.{trailing_lt}
use Rattle.matrices.specs.Shapes.{row_pairs}
use Rattle.matrices.proofs.Listed.{row_first, row_none}

-- the first element of what is left of a list
pub drop_head : (l : List ℕ) (j x : ℕ) (t : List ℕ) → drop j l ≡ x ∷ t → (j < length l) × (get_or l j 0 ≡ x) × (drop (suc j) l ≡ t)
drop_head l j x t e =
    let n : length (drop j l) ≡ suc (length t) = ap length e in
    let h : j < length l = omega (arith, length-drop j l) in
    let q : get_or l j 0 ∷ drop (suc j) l ≡ x ∷ t = sym (drop-cons l j 0 h) ∙ e in
    (h, cc q, cc q)

-- what holds at the loop's head: the first i - n pairs are written, and the others are those of the rest
pub record Listed (row w n : ℕ) (before out : List ℕ) (rest i : ℕ) : Type 0 where
  pub from : n ≤ i
  pub fits : rest < 2 ^ 64
  pub room : n + length (row_pairs row w) ≤ length before
  pub most : i - n ≤ length (row_pairs row w)
  pub left : drop (i - n) (row_pairs row w) ≡ row_pairs row rest
  pub done : out ≡ paste before n (row_pairs row w) (i - n)

module _ (row w n : ℕ) (before : List ℕ) where
  -- before the first turn nothing is written
  pub list_start : w < 2 ^ 64 → n + length (row_pairs row w) ≤ length before → Listed row w n before before w n
  list_start h r = record {
    from = omega arith;
    fits = h;
    room = r;
    most = omega arith;
    left = ap (λ (j : ℕ). drop j (row_pairs row w)) (sub_self n);
    done = paste-zero before n (row_pairs row w) ∙ ap (paste before n (row_pairs row w)) (sym (sub_self n));
  }

  module _ (out : List ℕ) (rest i : ℕ) (s : Listed row w n before out rest i) (p : 0 < rest) where
    first : (i - n < length (row_pairs row w)) × (get_or (row_pairs row w) (i - n) 0 ≡ 64 * row + count_trailing_zeros 64 rest)
        × (drop (suc (i - n)) (row_pairs row w) ≡ row_pairs row (bit_xor rest (2 ^ count_trailing_zeros 64 rest)))
    first = drop_head (row_pairs row w) (i - n) _ _ (s.left ∙ row_first row rest s.fits p)

    -- there is room for the next pair
    pub list_room : i < length before
    list_room = omega (arith, s.from, s.room, first.0)

    -- each turn leaves fewer pairs
    pub list_less : length (row_pairs row (bit_xor rest (2 ^ count_trailing_zeros 64 rest))) < length (row_pairs row rest)
    list_less = omega (arith, ap length (row_first row rest s.fits p))

    -- the lowest column is listed, and taken out of the word
    pub list_turn : Listed row w n before (set out i (64 * row + count_trailing_zeros 64 rest)) (bit_xor rest (2 ^ count_trailing_zeros 64 rest)) (i + 1)
    list_turn =
        let j : i ≡ n + (i - n) = omega (arith, s.from) in
        let k : i + 1 - n ≡ suc (i - n) = omega (arith, s.from) in
        record {
          from = omega (arith, s.from);
          fits = xor_lt 64 rest _ s.fits (pow-lt (trailing_lt 64 rest s.fits p));
          room = s.room;
          most = omega (arith, first.0);
          left = ap (λ (x : ℕ). drop x (row_pairs row w)) k ∙ first.2;
          done =
              ap (λ (o : List ℕ). set o i (64 * row + count_trailing_zeros 64 rest)) s.done
              ∙ ap (set (paste before n (row_pairs row w) (i - n)) i) (sym first.1)
              ∙ ap (λ (x : ℕ). set (paste before n (row_pairs row w) (i - n)) x (get_or (row_pairs row w) (i - n) 0)) j
              ∙ paste-suc before n (row_pairs row w) (i - n) 0 (omega (arith, list_room)) first.0
              ∙ ap (paste before n (row_pairs row w)) (sym k);
        }

  -- the words are used up
  pub list_end : (out : List ℕ) (i : ℕ) → Listed row w n before out 0 i → (i ≡ n + length (row_pairs row w)) × (out ≡ paste before n (row_pairs row w) (length (row_pairs row w)))
  list_end out i s =
      let z : length (drop (i - n) (row_pairs row w)) ≡ 0 = ap length (s.left ∙ row_none row) in
      let e : i - n ≡ length (row_pairs row w) = omega (arith, length-drop (i - n) (row_pairs row w), s.most) in
      (omega (arith, s.from), s.done ∙ ap (paste before n (row_pairs row w)) e)

  -- the list stays as long as it was
  pub list_length : (out : List ℕ) (rest i : ℕ) → Listed row w n before out rest i → length out ≡ length before
  list_length out rest i s = ap length s.done ∙ length-paste before n (row_pairs row w) (i - n) (omega (arith, s.most, s.room)) s.most
