-- The loop that finds the first interesting column: surprise words ORed, row after row. Assumes nothing.
use mathlib.Core.Path.{◌≡◌, refl, sym, ap, ◌∙◌}
use mathlib.Core.Bool.{Bool, true, false, ◌||◌}
use mathlib.Core.List.{List, [], ◌∷◌, ◌++◌, map, map-append}
use Prim.Native.Nat.{ℕ, zero, suc, ◌+◌, ◌^◌, ◌≤◌, ◌<◌}
use native.Mathlib.Numerals.{add-one}
use native.Mathlib.Omega.{arith}
use lib.Bits.{bit_or, or_lt}
use lib.Count.{count_trailing_zeros}
use lib.ListN.{length, get_or, take}
use lib.Pow.{pow_pos}
use lib.Seq.{take-suc, take-length}
use Rattle.laws.specs.Columns.{has}
use Rattle.laws.proofs.Columns.{has_or, has_zero, word_ext}
use Rattle.laws.proofs.Truths.{or_false, or_assoc}
use Rattle.laws.proofs.Words.{word_of_lt}
use Rattle.matrices.specs.Parts.{surprise_word, ored, first_column}

-- the surprise words of the first r rows, ORed
abbrev pub ored_to : Bool → ℕ → List ℕ → ℕ → ℕ
ored_to wide o m r = ored (map (surprise_word wide o) (take r m))

-- a surprise word is a word
pub surprise_lt : (wide : Bool) (o w : ℕ) → w < 2 ^ 64 → surprise_word wide o w < 2 ^ 64
surprise_lt true o w h = word_of_lt 64 _
surprise_lt false o w h = h

has_snoc : (l : List ℕ) (w c : ℕ) → has (ored (l ++ (w ∷ []))) c ≡ (has (ored l) c || has w c)
unfolding ored
has_snoc [] w c = has_or w 0 c ∙ ap (λ (t : Bool). has w c || t) (has_zero c) ∙ or_false (has w c) ∙ sym (ap (λ (t : Bool). t || has w c) (has_zero c))
has_snoc (v ∷ l) w c =
    has_or v (ored (l ++ (w ∷ []))) c ∙ ap (λ (t : Bool). has v c || t) (has_snoc l w c) ∙ sym (or_assoc (has v c) (has (ored l) c) (has w c))
    ∙ ap (λ (t : Bool). t || has w c) (sym (has_or v (ored l) c))

module _ (wide : Bool) (o : ℕ) (m : List ℕ) where
  -- before the first row
  pub ored_none : ored_to wide o m 0 ≡ 0
  unfolding ored
  ored_none = refl

  -- it is a word
  pub ored_lt : (r : ℕ) → ((t : ℕ) → get_or m t 0 < 2 ^ 64) → r ≤ length m → ored_to wide o m r < 2 ^ 64
  unfolding ored
  ored_lt r w h = go m r w
    where
      go : (l : List ℕ) (r : ℕ) → ((t : ℕ) → get_or l t 0 < 2 ^ 64) → ored (map (surprise_word wide o) (take r l)) < 2 ^ 64
      go l zero w = pow_pos 64
      go [] (suc r) w = pow_pos 64
      go (v ∷ l) (suc r) w = or_lt 64 (surprise_word wide o v) (ored (map (surprise_word wide o) (take r l))) (surprise_lt wide o v (w 0)) (go l r (λ t. w (suc t)))

  -- a row more
  pub ored_more : (r : ℕ) → ((t : ℕ) → get_or m t 0 < 2 ^ 64) → r < length m
      → bit_or (ored_to wide o m r) (surprise_word wide o (get_or m r 0)) ≡ ored_to wide o m (r + 1)
  ored_more r w h =
      let s = surprise_word wide o (get_or m r 0) in
      let e : map (surprise_word wide o) (take (r + 1) m) ≡ map (surprise_word wide o) (take r m) ++ (s ∷ []) =
      ap (λ (n : ℕ). map (surprise_word wide o) (take n m)) (add-one r) ∙ ap (map (surprise_word wide o)) (take-suc m r 0 h) ∙ map-append (surprise_word wide o) (take r m) (get_or m r 0 ∷ []) in
      word_ext 64 (bit_or (ored_to wide o m r) s) (ored_to wide o m (r + 1)) (or_lt 64 (ored_to wide o m r) s (ored_lt r w (omega arith)) (surprise_lt wide o (get_or m r 0) (w r))) (ored_lt (r + 1) w (omega arith))
      (λ c l. has_or (ored_to wide o m r) s c ∙ sym (ap (λ (x : List ℕ). has (ored x) c) e ∙ has_snoc (map (surprise_word wide o) (take r m)) s c))

  -- after the last row
  pub ored_end : count_trailing_zeros 64 (ored_to wide o m (length m)) ≡ first_column wide o m
  unfolding first_column
  ored_end = ap (λ (l : List ℕ). count_trailing_zeros 64 (ored (map (surprise_word wide o) l))) (take-length m)
