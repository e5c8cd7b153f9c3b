-- Zeros before a one, by looks of eight bits: what one look adds. Assumes nothing.
use mathlib.Core.Path.{◌≡◌, refl, sym, ap, ap₂, ◌∙◌}
use mathlib.Core.Logic.{⊎_elim}
use mathlib.Core.List.{List}
use Prim.Native.Nat.{ℕ, suc, ◌+◌, ◌-◌, ◌/◌, ◌%◌, ◌^◌, ◌≤◌, ◌<◌}
use native.Mathlib.Nat.{add_assoc, zero-add}
use native.Mathlib.Omega.{arith}
use borrow.Author.Tests.{eq-eqb, ne_eqb}
use lib.Count.{count_trailing_zeros}
use lib.Dec.{eqb}
use Rattle.laws.specs.Choose.{choose}
use Rattle.laws.proofs.Orders.{le_or_lt}
use Rattle.streams.specs.Stream.{number, word_bits, bits_at}
use Rattle.streams.proofs.Zeros.{zeros_min, zeros_full}
use Rattle.streams.specs.Looks.{Looked, found, cut, then_look, eight_more, zeros_from, zeros_at}
use Rattle.compression.specs.Reading.{place_of, Stands}
use Rattle.compression.specs.declared.reader.Cursor.{Cursor}
use Rattle.compression.proofs.ReaderBuffer.{inside_words}
use Rattle.compression.proofs.LookingFields.{field_cut, field_found}

-- ---- eight bits in a word of 64

-- where the low eight bits are not all zeros
pub byte_zeros : (n : ℕ) → 0 < n % 256 → (count_trailing_zeros 64 n ≡ count_trailing_zeros 8 n) × (count_trailing_zeros 64 n < 8)
byte_zeros n p =
    ⊎_elim
    (λ (g : 8 ≤ count_trailing_zeros 64 n).
    let all : count_trailing_zeros 8 n ≡ 8 = omega (arith, zeros_min 8 56 n) in
    let none : n % 2 ^ 8 ≡ 0 = zeros_full 8 n all in
    absurd (omega arith)) (λ (g : count_trailing_zeros 64 n < 8). (omega (arith, zeros_min 8 56 n), g)) (le_or_lt 8 (count_trailing_zeros 64 n))

-- ---- the loop

-- so many more zeros than were found further on
abbrev more_zeros : ℕ → Looked → Looked
more_zeros z (found zeros next) = found (z + zeros) next
more_zeros z (cut bit) = cut bit

more_none : (l : Looked) → l ≡ more_zeros 0 l
more_none (found zeros next) = ap (λ (z : ℕ). found z next) (sym (zero-add zeros))
more_none (cut bit) = refl

more_eight : (z : ℕ) (l : Looked) → more_zeros z (eight_more l) ≡ more_zeros (z + 8) l
more_eight z (found zeros next) = ap (λ (x : ℕ). found x next) (sym (add_assoc z 8 zeros))
more_eight z (cut bit) = refl

module _ (n end : ℕ) where
  abbrev after_look : ℕ → ℕ → ℕ → ℕ → Looked
  after_look looks at look next =
      choose (eqb look 0) (eight_more (zeros_from looks n end next)) (found (count_trailing_zeros 8 look) (at + count_trailing_zeros 8 look + 1))

  one_cut : (looks at : ℕ) → end < at + 8 → zeros_from (suc looks) n end at ≡ cut at
  unfolding zeros_from
  one_cut looks at h = ap (λ (l : Looked). then_look l (after_look looks at)) (field_cut n end 8 at at h refl)

  module _ (looks at : ℕ) (fits : at + 8 ≤ end) (b : ℕ) (is : b ≡ bits_at n at 8) where
    seen_as : zeros_from (suc looks) n end at ≡ after_look looks at b (at + 8)
    unfolding zeros_from
    seen_as = ap (λ (l : Looked). then_look l (after_look looks at)) (field_found n end 8 at b (at + 8) fits is refl)

    one_more : b ≡ 0 → zeros_from (suc looks) n end at ≡ eight_more (zeros_from looks n end (at + 8))
    one_more z = seen_as ∙ simp (eq-eqb b 0 z)

    one_found : (b ≡ 0 → ⊥) → zeros_from (suc looks) n end at ≡ found (count_trailing_zeros 8 b) (at + count_trailing_zeros 8 b + 1)
    one_found z = seen_as ∙ simp (ne_eqb b 0 z)

-- what holds at the loop's head: zeros from a bit on, up to the cursor, in whole looks
pub record ZerosHead (s : List ℕ) (start zeros : ℕ) (at : Cursor) : Type 0 where
  pub stands : Stands s at
  pub place : place_of at ≡ start + zeros
  pub whole : zeros % 8 ≡ 0
  pub so_far : zeros_at (number s) (word_bits s) start
      ≡ more_zeros zeros (zeros_from (suc (word_bits s / 8) - zeros / 8) (number s) (word_bits s) (place_of at))

pub zeros_start : (s : List ℕ) (at : Cursor) → Stands s at → ZerosHead s (place_of at) 0 at
zeros_start s at st = record { stands = st; place = omega arith; whole = omega arith; so_far = more_none _ ∙ ap (λ (k : ℕ). more_zeros 0 (zeros_from k (number s) (word_bits s) (place_of at))) (omega arith) }

module _ (s : List ℕ) (start zeros : ℕ) (at : Cursor) (head : ZerosHead s start zeros at) where
  abbrev left : ℕ
  left = word_bits s / 8 - zeros / 8

  -- the looks are not used up
  some_left : suc (word_bits s / 8) - zeros / 8 ≡ suc left
  some_left =
      let h : place_of at + at.held ≤ word_bits s = inside_words s at head.stands in
      let p : place_of at ≡ start + zeros = head.place in
      let q : zeros / 8 ≤ word_bits s / 8 = omega arith in
      omega arith

  so_far_suc : zeros_at (number s) (word_bits s) start ≡ more_zeros zeros (zeros_from (suc left) (number s) (word_bits s) (place_of at))
  so_far_suc = head.so_far ∙ ap (λ (k : ℕ). more_zeros zeros (zeros_from k (number s) (word_bits s) (place_of at))) some_left

  pub zeros_cut : (p : ℕ) → word_bits s < place_of at + 8 → p ≡ place_of at → zeros_at (number s) (word_bits s) start ≡ cut p
  zeros_cut p h e = so_far_suc ∙ ap (more_zeros zeros) (one_cut (number s) (word_bits s) left (place_of at) h) ∙ ap cut (sym e)

  module _ (fits : place_of at + 8 ≤ word_bits s) (b : ℕ) (is : b ≡ bits_at (number s) (place_of at) 8) where
    pub zeros_found : (last z q : ℕ) → (b ≡ 0 → ⊥) → last ≡ count_trailing_zeros 8 b → z ≡ zeros + last → q ≡ place_of at + (last + 1)
        → zeros_at (number s) (word_bits s) start ≡ found z q
    zeros_found last z q ne el ez eq =
        so_far_suc ∙ ap (more_zeros zeros) (one_found (number s) (word_bits s) left (place_of at) fits b is ne)
        ∙ ap₂ found (ap (λ (x : ℕ). zeros + x) (sym el) ∙ sym ez) (omega arith)

    pub zeros_turn : (f : Cursor) → b ≡ 0 → Stands s f → place_of f ≡ place_of at + 8 → ZerosHead s start (zeros + 8) f
    zeros_turn f z st p = record {
      stands = st;
      place = omega (arith, head.place);
      whole = omega (arith, head.whole);
      so_far =
          so_far_suc ∙ ap (more_zeros zeros) (one_more (number s) (word_bits s) left (place_of at) fits b is z)
          ∙ more_eight zeros (zeros_from left (number s) (word_bits s) (place_of at + 8))
          ∙ ap₂ (λ (k x : ℕ). more_zeros (zeros + 8) (zeros_from k (number s) (word_bits s) x)) (omega (arith, head.whole)) (sym p);
    }
