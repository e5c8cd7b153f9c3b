-- No second outcome satisfies what a public call promises. Document 01's number and values tell each answer from every other. Assumes nothing.
use mathlib.Core.Path.{◌≡◌, refl, sym, ap, ◌∙◌}
use mathlib.Core.List.{[], ◌∷◌}
use Prim.Native.Nat.{ℕ, ◌*◌}
use lib.Dec.{eqb, ltb}
use Rattle.std.specs.Prelude.{Result, Ok, Err, IfOk}
use Rattle.laws.specs.Choose.{choose}
use Rattle.refusals.proofs.Only.{told_once, never_accepted, told_by_once, number_once, length_once}
use Rattle.refusals.specs.Outcome.{accepted, refused}
use Rattle.refusals.specs.Told.{told_number, told_length}
use Rattle.refusals.specs.Units.{words_for}
use Rattle.refusals.specs.declared.Refusal.{Refusal}
use Rattle.refusals.specs.declared.units.StreamLength.{StreamLength}
use Rattle.numbers.specs.Numbers.{flavor_at, offset_at, phase_at, base_bits_at, most_bits_at}
use Rattle.numbers.specs.Calls.{rows_of, flavor_of, offset_of, phase_of, base_bits_of, most_bits_of}
use Rattle.numbers.specs.Told.{flavor_number, told_flavor, told_size}
use Rattle.numbers.specs.declared.Flavor.{Flavor}
use Rattle.numbers.specs.declared.size.SketchSize.{SketchSize}
use Rattle.numbers.specs.declared.Flavor.TheVariants.{Empty, Sparse, Hybrid, Pinned, Sliding}

-- the flavor that has this number
flavor_by : ℕ → Flavor
flavor_by n = choose (eqb n 0) Empty (choose (eqb n 1) Sparse (choose (eqb n 2) Hybrid (choose (eqb n 3) Pinned Sliding)))

flavor_back : (f : Flavor) → flavor_by (flavor_number f) ≡ f
unfolding flavor_by
flavor_back Empty = refl
flavor_back Sparse = refl
flavor_back Hybrid = refl
flavor_back Pinned = refl
flavor_back Sliding = refl

pub flavor_number_once : (f g : Flavor) → flavor_number f ≡ flavor_number g → f ≡ g
flavor_number_once f g e = sym (flavor_back f) ∙ ap flavor_by e ∙ flavor_back g

-- what an answer is told as decides the answer
pub flavor_once : (a b : Result Flavor Refusal) → told_flavor a ≡ told_flavor b → a ≡ b
flavor_once = told_by_once _ (λ f g e. flavor_number_once f g (cc))

pub one_rows : (lg : ℕ) (a b : Result ℕ Refusal) → told_number a ≡ rows_of lg → told_number b ≡ rows_of lg → a ≡ b
one_rows lg a b p q = number_once a b (p ∙ sym q)

pub one_flavor : (lg c : ℕ) (a b : Result Flavor Refusal) → told_flavor a ≡ flavor_of lg c → told_flavor b ≡ flavor_of lg c → a ≡ b
one_flavor lg c a b p q = flavor_once a b (p ∙ sym q)

pub one_offset : (lg c : ℕ) (a b : Result ℕ Refusal) → told_number a ≡ offset_of lg c → told_number b ≡ offset_of lg c → a ≡ b
one_offset lg c a b p q = number_once a b (p ∙ sym q)

pub one_phase : (lg c : ℕ) (a b : Result ℕ Refusal) → told_number a ≡ phase_of lg c → told_number b ≡ phase_of lg c → a ≡ b
one_phase lg c a b p q = number_once a b (p ∙ sym q)

pub one_base_bits : (lg n : ℕ) (a b : Result ℕ Refusal) → told_number a ≡ base_bits_of lg n → told_number b ≡ base_bits_of lg n → a ≡ b
one_base_bits lg n a b p q = number_once a b (p ∙ sym q)

pub one_most_bits : (lg n : ℕ) (a b : Result StreamLength Refusal) → told_length a ≡ most_bits_of lg n → told_length b ≡ most_bits_of lg n → a ≡ b
one_most_bits lg n a b p q = length_once a b (p ∙ sym q)

-- sizes are the same where lg_k and k are
abbrev pub SameSize : Result SketchSize Refusal → Result SketchSize Refusal → Type 0
SameSize (Ok a) (Ok b) = (a.lg ≡ b.lg) × (a.k ≡ b.k)
SameSize (Ok a) (Err why) = ⊥
SameSize (Err why) (Ok b) = ⊥
SameSize (Err why) (Err other) = why ≡ other

size_once : (lg : ℕ) (a b : Result SketchSize Refusal) → IfOk a (λ s. s.lg ≡ lg) → IfOk b (λ s. s.lg ≡ lg) → told_size a ≡ told_size b → SameSize a b
size_once lg (Ok a) (Ok b) p q e = (p ∙ sym q, cc)
size_once lg (Ok a) (Err why) p q e = absurd (never_accepted why _ e)
size_once lg (Err why) (Ok b) p q e = absurd (never_accepted why _ (sym e))
size_once lg (Err why) (Err other) p q e = told_once why other e

pub one_size : (lg : ℕ) (a b : Result SketchSize Refusal) → (told_size a ≡ rows_of lg) × IfOk a (λ s. s.lg ≡ lg)
    → (told_size b ≡ rows_of lg) × IfOk b (λ s. s.lg ≡ lg) → SameSize a b
one_size lg a b p q = size_once lg a b p.1 q.1 (p.0 ∙ sym q.0)

-- the methods of a size
pub one_flavor_at : (k c : ℕ) (a b : Flavor) → a ≡ flavor_at k c → b ≡ flavor_at k c → a ≡ b
one_flavor_at k c a b p q = p ∙ sym q

pub one_offset_at : (k c : ℕ) (a b : Result ℕ Refusal) → told_number a ≡ choose (ltb (64 * k) c) (refused 17 0) (accepted (offset_at k c ∷ []))
    → told_number b ≡ choose (ltb (64 * k) c) (refused 17 0) (accepted (offset_at k c ∷ [])) → a ≡ b
one_offset_at k c a b p q = number_once a b (p ∙ sym q)

pub one_phase_at : (lg k c a b : ℕ) → a ≡ phase_at lg k c → b ≡ phase_at lg k c → a ≡ b
one_phase_at lg k c a b p q = p ∙ sym q

pub one_base_bits_at : (k n a b : ℕ) → a ≡ base_bits_at k n → b ≡ base_bits_at k n → a ≡ b
one_base_bits_at k n a b p q = p ∙ sym q

pub one_most_bits_at : (k n : ℕ) (a b : Result StreamLength Refusal)
    → told_length a ≡ choose (ltb 268435456 n) (refused 4 0) (accepted (most_bits_at k n ∷ words_for (most_bits_at k n) ∷ []))
    → told_length b ≡ choose (ltb 268435456 n) (refused 4 0) (accepted (most_bits_at k n ∷ words_for (most_bits_at k n) ∷ [])) → a ≡ b
one_most_bits_at k n a b p q = length_once a b (p ∙ sym q)

-- the number of a flavor
pub one_flavor_number : (f : Flavor) (a b : ℕ) → a ≡ flavor_number f → b ≡ flavor_number f → a ≡ b
one_flavor_number f a b p q = p ∙ sym q
