-- The passes that count bits: what is counted, and what is left. Assumes nothing.
use mathlib.Core.Path.{◌≡◌, sym, ap, ◌∙◌, subst}
use mathlib.Core.Logic.{⊎_elim}
use mathlib.Core.List.{List, [], ◌∷◌}
use Prim.Native.Nat.{ℕ, ◌+◌, ◌*◌, ◌/◌, ◌%◌, ◌≤◌, ◌<◌}
use native.Mathlib.Numerals.{add-one}
use native.Mathlib.Omega.{arith}
use lib.ListN.{length, get_or, drop, drop_of_length-le, get_or-eq_default}
use lib.Seq.{drop-cons}
use Rattle.laws.proofs.Orders.{lt_or_le}
use Rattle.books.specs.Book.{length_in}
use Rattle.books.specs.Steps.{AllShaped}
use Rattle.refusals.specs.Outcome.{accepted}
use Rattle.pair_lists.specs.Lists.{pairs_judged}
use Rattle.streams.specs.Codes.{total}
use Rattle.streams.specs.Written.{pair_codes, codes_from, window_codes}
use Rattle.streams.proofs.Rising.{Follows, Rising, rising, rising_at}
use Rattle.streams.proofs.Packing.{total_append}

-- the first item of the rest
pub next_item : (items : List ℕ) (i : ℕ) → i < length items → drop i items ≡ get_or items i 0 ∷ drop (i + 1) items
next_item items i l = rw add-one (drop-cons items i 0 l)

module _ (book : List ℕ) (b k : ℕ) (pairs : List ℕ) where
  -- what holds at the head of the pass over the pairs
  pub record CountingPairs (sum row next i : ℕ) : Type 0 where
    pub within : i ≤ length pairs
    pub left : sum + total (codes_from book b row next (drop i pairs)) ≡ total (codes_from book b 0 0 pairs)
    pub rises : Rising k row next (drop i pairs)

  pub pairs_start : pairs_judged k pairs ≡ accepted [] → CountingPairs 0 0 0 0
  pairs_start a = record { within = omega arith; left = omega arith; rises = rising k pairs a }

  pub pairs_end : (sum row next i : ℕ) → CountingPairs sum row next i → length pairs ≤ i → sum ≡ total (codes_from book b 0 0 pairs)
  unfolding codes_from total
  pairs_end sum row next i c l =
      let none : total (codes_from book b row next (drop i pairs)) ≡ 0 = ap (λ (x : List ℕ). total (codes_from book b row next x)) (drop_of_length-le pairs l) in
      omega (arith, c.left)

  module _ (sum row next i : ℕ) (c : CountingPairs sum row next i) (l : i < length pairs) where
    abbrev pair : ℕ
    pair = get_or pairs i 0

    pub pair_follows : Follows k row next pair
    pair_follows = (rising_at pairs i l c.rises).0

    parts : total (codes_from book b row next (drop i pairs))
        ≡ total (pair_codes book b row next pair) + total (codes_from book b (pair / 64) (pair % 64 + 1) (drop (i + 1) pairs))
    unfolding codes_from
    parts =
        ap (λ (x : List ℕ). total (codes_from book b row next x)) (next_item pairs i l)
        ∙ total_append (pair_codes book b row next pair) (codes_from book b (pair / 64) (pair % 64 + 1) (drop (i + 1) pairs))

    module _ (p bits : ℕ) (is : p ≡ pair) (counts : bits ≡ total (pair_codes book b row next p)) where
      counted : bits ≡ total (pair_codes book b row next pair)
      counted = counts ∙ ap (λ (q : ℕ). total (pair_codes book b row next q)) is

      pub pair_below : sum + bits ≤ total (codes_from book b 0 0 pairs)
      pair_below = omega (arith, parts, counted, c.left)

      pub pairs_turn : CountingPairs (sum + bits) (p / 64) (p % 64 + 1) (i + 1)
      pairs_turn =
          rw is
          (record {
            within = omega arith;
            left = omega (arith, parts, counted, c.left);
            rises = subst (λ (j : ℕ). Rising k (pair / 64) (pair % 64 + 1) (drop j pairs)) (sym (add-one i)) (rising_at pairs i l c.rises).1;
          })

-- a code has at most twelve bits
size_most : (book : List ℕ) (x : ℕ) → AllShaped book → length_in (get_or book x 0) ≤ 12
size_most book x s =
    ⊎_elim (λ (l : x < length book). (s x l).most)
    (λ (l : length book ≤ x). rw (get_or-eq_default book 0 {n = x} l) (omega arith)) (lt_or_le x (length book))

pub window_most : (book window : List ℕ) → AllShaped book → total (window_codes book window) ≤ length window * 12
unfolding window_codes total
window_most book [] s = omega arith
window_most book (byte ∷ more) s = omega (arith, size_most book byte s, window_most book more s)

module _ (book window : List ℕ) where
  -- what holds at the head of the pass over a window
  pub record CountingWindow (sum i : ℕ) : Type 0 where
    pub within : i ≤ length window
    pub left : sum + total (window_codes book (drop i window)) ≡ total (window_codes book window)

  pub window_start : CountingWindow 0 0
  window_start = record { within = omega arith; left = omega arith }

  pub window_end : (sum i : ℕ) → CountingWindow sum i → length window ≤ i → sum ≡ total (window_codes book window)
  unfolding window_codes total
  window_end sum i c l =
      let none : total (window_codes book (drop i window)) ≡ 0 = ap (λ (x : List ℕ). total (window_codes book x)) (drop_of_length-le window l) in
      omega (arith, c.left)

  module _ (sum i : ℕ) (c : CountingWindow sum i) (l : i < length window) where
    abbrev size : ℕ
    size = length_in (get_or book (get_or window i 0) 0)

    byte_parts : total (window_codes book (drop i window)) ≡ size + total (window_codes book (drop (i + 1) window))
    unfolding window_codes total
    byte_parts = ap (λ (x : List ℕ). total (window_codes book x)) (next_item window i l)

    pub byte_below : sum + size ≤ total (window_codes book window)
    byte_below = omega (arith, byte_parts, c.left)

    pub window_turn : CountingWindow (sum + size) (i + 1)
    window_turn = record { within = omega arith; left = omega (arith, byte_parts, c.left) }
