-- The masks that a split cuts words with. Assumes nothing.
use mathlib.Core.Path.{◌≡◌, refl, ap, ap₂, ◌∙◌}
use mathlib.Core.Bool.{Bool, true, false, not, ◌&&◌}
use Prim.Native.Nat.{ℕ, ◌-◌, ◌^◌, ◌<◌}
use native.Mathlib.Nat.{mod-eq_of_lt}
use borrow.Author.Tests.{lt-ltb}
use lib.Bits.{bit_and, bit_xor, and_lt, xor_lt, and_mask, xor_zero_r}
use lib.Dec.{ltb}
use Rattle.laws.specs.Columns.{has, differs}
use Rattle.laws.proofs.Columns.{has_and, has_xor, has_ones, has_zero}
use Rattle.laws.proofs.Words.{has_word_of, word_is, word_of_lt}
use Rattle.matrices.specs.Matrix.{in_window}
use Rattle.matrices.specs.Parts.{surprises_at}

-- what a column of a full word has besides that of an empty word is kept of a column h, and then the empty word's is flipped
column : (i h l : Bool) → differs (h && differs (not i && differs true l) (not i && differs false l)) (not i && differs false l) ≡ (not i && differs h l)
column true true l = refl
column true false l = refl
column false true true = refl
column false true false = refl
column false false true = refl
column false false false = refl

-- with a window
module _ (o w : ℕ) (h : w < 2 ^ 64) where
  full : ℕ
  full = surprises_at o (2 ^ 64 - 1)

  empty : ℕ
  empty = surprises_at o 0

  full_at : (c : ℕ) → c < 64 → has full c ≡ (not (in_window o c) && differs true (ltb c o))
  unfolding full
  full_at c l =
      has_word_of 64 _ c l ∙ ap (λ (t : Bool). not (in_window o c) && differs t (ltb c o)) (has_ones 64 c ∙ lt-ltb c 64 l)

  empty_at : (c : ℕ) → c < 64 → has empty c ≡ (not (in_window o c) && differs false (ltb c o))
  unfolding empty
  empty_at c l = has_word_of 64 _ c l ∙ ap (λ (t : Bool). not (in_window o c) && differs t (ltb c o)) (has_zero c)

  pub cut_wide : bit_xor (bit_and w (bit_xor (surprises_at o (2 ^ 64 - 1)) (surprises_at o 0))) (surprises_at o 0) ≡ surprises_at o w
  unfolding full empty
  cut_wide =
      word_is 64 _ _ (xor_lt 64 _ _ (and_lt 64 w _ h (xor_lt 64 full empty (word_of_lt 64 _) (word_of_lt 64 _))) (word_of_lt 64 _))
      (λ c l.
      has_xor (bit_and w (bit_xor full empty)) empty c
      ∙ ap₂ differs (has_and w (bit_xor full empty) c ∙ ap (λ (t : Bool). has w c && t) (has_xor full empty c ∙ ap₂ differs (full_at c l) (empty_at c l))) (empty_at c l)
      ∙ column (in_window o c) (has w c) (ltb c o))

  -- where there is no window, all of a word is kept
  pub cut_none : bit_xor (bit_and w (2 ^ 64 - 1)) 0 ≡ w
  cut_none = xor_zero_r (bit_and w (2 ^ 64 - 1)) ∙ and_mask w 64 ∙ mod-eq_of_lt h
