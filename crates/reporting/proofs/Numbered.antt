-- Laws of the numbers that a decision tells. Assumes nothing.
use mathlib.Core.Path.{◌≡◌, refl, sym, ap, ap₂, ◌∙◌}
use mathlib.Core.Bool.{Bool, true, false, not}
use mathlib.Core.List.{List, [], ◌∷◌}
use Prim.Native.Nat.{ℕ, ◌*◌, ◌^◌}
use native.Mathlib.Omega.{arith}
use lib.Dec.{ltb, eqb}
use lib.ListN.{length}
use Rattle.laws.specs.Choose.{choose}
use Rattle.refusals.specs.Outcome.{Outcome, accepted, refused, stopped, and_then}
use Rattle.refusals.specs.Units.{words_for}
use Rattle.refusals.specs.Told.{told}
use Rattle.refusals.specs.declared.Refusal.{Refusal}
use Rattle.refusals.specs.declared.units.StreamLength.{StreamLength}
use Rattle.refusals.proofs.Refusing.{stays}
use Rattle.numbers.specs.Numbers.{base_bits_at}
use Rattle.numbers.specs.Calls.{outside, base_bits_of}
use Rattle.books.specs.Calls.{check_of}
use Rattle.pair_lists.specs.Lists.{pairs_judged}
use Rattle.practice.specs.Practice.{pair_book}
use Rattle.streams.specs.Written.{pairs_bits}
use Rattle.streams.specs.Calls.{write_pairs_of, pairs_written}
use Rattle.reporting.specs.Calls.{decided_as, numbers_of, written_of}

pub not_refused : (values : List ℕ) (number place : ℕ) → accepted values ≡ refused number place → ⊥
not_refused values number place e = let z : ◌≡◌ {A = ℕ} 0 1 = cc in omega arith

pub not_stopped : (values : List ℕ) (number place bit : ℕ) → accepted values ≡ stopped number place bit → ⊥
not_stopped values number place bit e = let z : ◌≡◌ {A = ℕ} 0 1 = cc in omega arith

-- the base bits where lg_k is inside
pub base_bits_is : (lg n : ℕ) → outside lg ≡ false → base_bits_of lg n ≡ accepted (base_bits_at (2 ^ lg) n ∷ [])
unfolding base_bits_of
base_bits_is lg n e = simp e

-- what a writer that accepts tells
told_last : (a b : Bool) (check : Outcome) (d : Bool) (judge : Outcome) (f : Bool) (v w : List ℕ)
    → accepted v ≡ choose a (refused 1 0) (choose b (refused 2 0) (and_then check (choose d (refused 4 0) (and_then judge (choose f (refused 5 0) (accepted w))))))
    → (a ≡ false) × (f ≡ false) × (v ≡ w)
told_last true b check d judge f v w e = absurd (not_refused v 1 0 e)
told_last false true check d judge f v w e = absurd (not_refused v 2 0 e)
told_last false false (refused m p) d judge f v w e = absurd (not_refused v m p e)
told_last false false (stopped m p q) d judge f v w e = absurd (not_stopped v m p q e)
told_last false false (accepted u) true judge f v w e = absurd (not_refused v 4 0 e)
told_last false false (accepted u) false (refused m p) f v w e = absurd (not_refused v m p e)
told_last false false (accepted u) false (stopped m p q) f v w e = absurd (not_stopped v m p q e)
told_last false false (accepted u) false (accepted t) true v w e = absurd (not_refused v 5 0 e)
told_last false false (accepted u) false (accepted t) false v w e = let same : v ≡ w = cc in (refl, refl, same)

-- lg_k is inside, the stream has room, and the values are the bits and the words
pub write_told : (book : List ℕ) (lg : ℕ) (pairs stream v : List ℕ) → accepted v ≡ write_pairs_of book lg pairs stream
    → (outside lg ≡ false) × (ltb (length stream) (4 * words_for (pairs_bits book (2 ^ lg) pairs)) ≡ false)
    × (v ≡ pairs_bits book (2 ^ lg) pairs ∷ words_for (pairs_bits book (2 ^ lg) pairs) ∷ [])
unfolding write_pairs_of
write_told book lg pairs stream v e =
    told_last (outside lg) (not (eqb (length book) 65)) (check_of book) (ltb (2 ^ 28) (length pairs)) (pairs_judged (2 ^ lg) pairs)
    (ltb (length stream) (4 * words_for (pairs_bits book (2 ^ lg) pairs))) v (pairs_bits book (2 ^ lg) pairs ∷ words_for (pairs_bits book (2 ^ lg) pairs) ∷ []) e

module _ (book : List ℕ) (lg : ℕ) (pairs stream after : List ℕ) (is : book ≡ pair_book) (left : after ≡ pairs_written book lg pairs stream) where
  left_so : after ≡ pairs_written pair_book lg pairs stream
  left_so = left ∙ ap (λ (b : List ℕ). pairs_written b lg pairs stream) is

  pub written_refused : (why : Refusal) → told why ≡ write_pairs_of book lg pairs stream → decided_as (told why) after ≡ written_of lg pairs stream
  unfolding written_of
  written_refused why e =
      let practiced : told why ≡ write_pairs_of pair_book lg pairs stream = e ∙ ap (λ (b : List ℕ). write_pairs_of b lg pairs stream) is in
      let more = numbers_of lg (length pairs) (pairs_bits pair_book (2 ^ lg) pairs) (words_for (pairs_bits pair_book (2 ^ lg) pairs)) in
      ap₂ decided_as (sym (stays why more) ∙ ap (λ (o : Outcome). and_then o more) practiced) left_so

  pub written_told : (s : StreamLength) (x : Outcome) → accepted (s.bits.0 ∷ s.words.0 ∷ []) ≡ write_pairs_of book lg pairs stream
      → x ≡ numbers_of lg (length pairs) s.bits.0 s.words.0 → decided_as x after ≡ written_of lg pairs stream
  unfolding written_of
  written_told s x e p =
      let t : accepted (s.bits.0 ∷ s.words.0 ∷ []) ≡ write_pairs_of pair_book lg pairs stream = e ∙ ap (λ (b : List ℕ). write_pairs_of b lg pairs stream) is in
      let v : s.bits.0 ∷ s.words.0 ∷ [] ≡ pairs_bits pair_book (2 ^ lg) pairs ∷ words_for (pairs_bits pair_book (2 ^ lg) pairs) ∷ [] =
      (write_told pair_book lg pairs stream (s.bits.0 ∷ s.words.0 ∷ []) t).2 in
      let b : s.bits.0 ≡ pairs_bits pair_book (2 ^ lg) pairs = cc in
      let w : s.words.0 ≡ words_for (pairs_bits pair_book (2 ^ lg) pairs) = cc in
      ap₂ decided_as (p ∙ ap₂ (numbers_of lg (length pairs)) b w ∙ ap (λ (o : Outcome). and_then o (numbers_of lg (length pairs) (pairs_bits pair_book (2 ^ lg) pairs) (words_for (pairs_bits pair_book (2 ^ lg) pairs)))) t) left_so
