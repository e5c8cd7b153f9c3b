-- No second outcome satisfies what a public call promises. What a refusal is told as, `refused` or `stopped` with its numbers, decides it. Assumes nothing.
use mathlib.Core.Path.{◌≡◌, refl, sym, ap, ap₂, ◌∙◌}
use mathlib.Core.List.{List, [], ◌∷◌}
use Prim.Native.Nat.{ℕ}
use native.Mathlib.Omega.{arith}
use lib.Dec.{eqb}
use Rattle.std.specs.Prelude.{Result, Ok, Err, ⊤}
use Rattle.laws.specs.Choose.{choose}
use Rattle.refusals.specs.Outcome.{Outcome, accepted, refused, stopped, numbers_in}
use Rattle.refusals.specs.Told.{told, told_reason, told_by, told_plain, told_number, told_length}
use Rattle.refusals.specs.Units.{words_for, bits_in}
use Rattle.refusals.specs.declared.Numbered.{Numbered}
use Rattle.refusals.specs.declared.Reason.{Reason}
use Rattle.refusals.specs.declared.Reason.TheVariants as reason
use Rattle.refusals.specs.declared.Refusal.{Refusal}
use Rattle.refusals.specs.declared.Refusal.TheVariants.{LgOutside, WrongLength, WrongBook, TooManyPairs, NoRoom, Reading, RowNotBelow, Reserved, NotAbove, ItemNotBelow, CannotGrow, WrongWindow, NotLawful, SeedsDiffer, WrongCoupons}
use Rattle.refusals.specs.declared.units.Bits.{Bits}
use Rattle.refusals.specs.declared.units.StreamLength.{StreamLength}
use Rattle.refusals.specs.declared.units.Words.{Words}

-- the reason that has these numbers
reason_by : ℕ → ℕ → ℕ → Reason
reason_by number place bit =
    choose (eqb number 6) (reason.StreamEnds place bit)
    (choose (eqb number 7) (reason.RowStepTooLarge place bit)
    (choose (eqb number 8) (reason.RowNotBelow place bit)
    (choose (eqb number 9) (reason.ColumnNotBelow place bit) (reason.Reserved place bit))))

-- the refusal that has this number and place
refusal_by : ℕ → ℕ → Refusal
refusal_by number place =
    choose (eqb number 1) LgOutside
    (choose (eqb number 2) WrongLength
    (choose (eqb number 3) (WrongBook place)
    (choose (eqb number 4) TooManyPairs
    (choose (eqb number 5) NoRoom
    (choose (eqb number 8) (RowNotBelow place)
    (choose (eqb number 10) (Reserved place)
    (choose (eqb number 11) (NotAbove place)
    (choose (eqb number 12) (ItemNotBelow place)
    (choose (eqb number 13) CannotGrow
    (choose (eqb number 14) (WrongWindow place)
    (choose (eqb number 15) NotLawful (choose (eqb number 16) SeedsDiffer WrongCoupons))))))))))))

untold : Outcome → Refusal
untold (accepted values) = LgOutside
untold (refused number place) = refusal_by number place
untold (stopped number place bit) = Reading (reason_by number place bit)

reason_back : (r : Reason) → untold (told_reason r) ≡ Reading r
unfolding untold reason_by
reason_back (reason.StreamEnds place bit) = refl
reason_back (reason.RowStepTooLarge place bit) = refl
reason_back (reason.RowNotBelow place bit) = refl
reason_back (reason.ColumnNotBelow place bit) = refl
reason_back (reason.Reserved place bit) = refl

back : (r : Refusal) → untold (told r) ≡ r
unfolding untold refusal_by
back LgOutside = refl
back WrongLength = refl
back (WrongBook place) = refl
back TooManyPairs = refl
back NoRoom = refl
back (Reading why) = reason_back why
back (RowNotBelow place) = refl
back (Reserved place) = refl
back (NotAbove place) = refl
back (ItemNotBelow place) = refl
back CannotGrow = refl
back (WrongWindow place) = refl
back NotLawful = refl
back SeedsDiffer = refl
back WrongCoupons = refl

-- what a refusal is told as decides the refusal
pub told_once : (a b : Refusal) → told a ≡ told b → a ≡ b
told_once a b e = sym (back a) ∙ ap untold e ∙ back b

-- and a refusal is never told as accepted
pub never_accepted : (why : Refusal) (values : List ℕ) → accepted values ≡ told why → ⊥
unfolding untold
never_accepted why values e =
    let first : accepted values ≡ told LgOutside = e ∙ ap told (sym (back why) ∙ ap untold (sym e)) in
    let z : ◌≡◌ {A = ℕ} 0 1 = cc in omega arith

-- what an answer is told as decides the answer, where its values decide what was answered
pub told_by_once : {A : Type 0} (values : A → List ℕ) → ((x y : A) → values x ≡ values y → x ≡ y)
    → (a b : Result A Refusal) → told_by values a ≡ told_by values b → a ≡ b
told_by_once values decide (Ok x) (Ok y) e = let same : values x ≡ values y = cc in ap Ok (decide x y same)
told_by_once values decide (Ok x) (Err why) e = absurd (never_accepted why (values x) e)
told_by_once values decide (Err why) (Ok y) e = absurd (never_accepted why (values y) (sym e))
told_by_once values decide (Err why) (Err other) e = ap Err (told_once why other e)

pub plain_once : (a b : Result ⊤ Refusal) → told_plain a ≡ told_plain b → a ≡ b
plain_once = told_by_once (λ _. []) (λ _ _ _. refl)

pub number_once : (a b : Result ℕ Refusal) → told_number a ≡ told_number b → a ≡ b
number_once = told_by_once (λ n. n ∷ []) (λ m n e. cc)

lengths_once : (a b : StreamLength) → ◌≡◌ {A = List ℕ} (a.bits.0 ∷ a.words.0 ∷ []) (b.bits.0 ∷ b.words.0 ∷ []) → a ≡ b
lengths_once a b e =
    let bits : a.bits.0 ≡ b.bits.0 = cc in
    let words : a.words.0 ≡ b.words.0 = cc in
    ap₂ (λ (m n : ℕ). record { bits = record { 0 = m }; words = record { 0 = n } }) bits words

pub length_once : (a b : Result StreamLength Refusal) → told_length a ≡ told_length b → a ≡ b
length_once = told_by_once _ lengths_once

pub one_reason : (r : Reason) (a b : Numbered) → a ≡ numbers_in (told_reason r) → b ≡ numbers_in (told_reason r) → a ≡ b
one_reason r a b p q = p ∙ sym q

pub one_numbers : (r : Refusal) (a b : Numbered) → a ≡ numbers_in (told r) → b ≡ numbers_in (told r) → a ≡ b
one_numbers r a b p q = p ∙ sym q

pub one_words : (bits : Bits) (a b : Words) → a.0 ≡ words_for bits.0 → b.0 ≡ words_for bits.0 → a ≡ b
one_words bits a b p q = ap (λ (n : ℕ). record { 0 = n }) (p ∙ sym q)

pub one_bits : (words : Words) (a b : Bits) → a.0 ≡ bits_in words.0 → b.0 ≡ bits_in words.0 → a ≡ b
one_bits words a b p q = ap (λ (n : ℕ). record { 0 = n }) (p ∙ sym q)
