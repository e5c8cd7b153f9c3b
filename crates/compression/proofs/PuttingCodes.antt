-- Codes put one after the other, and two that are put together. Assumes nothing.
use mathlib.Core.Path.{◌≡◌, sym, ap, ap₂, ◌∙◌, subst, subst₂}
use mathlib.Core.List.{List, [], ◌∷◌, ◌++◌}
use Prim.Native.Nat.{ℕ, ◌+◌, ◌*◌, ◌^◌, ◌<◌}
use native.Mathlib.Nat.{add_comm, mul_comm, mul_assoc, add-mul, mul-zero, add-zero}
use native.Mathlib.Omega.{arith}
use lib.Pow.{pow-add}
use Rattle.books.specs.Book.{length_in, codeword_in}
use Rattle.books.specs.Steps.{Shape}
use Rattle.streams.specs.Codes.{Code, total, pack, zeros_one}
use Rattle.streams.proofs.Packing.{total_append, pack_append, pack_fits, zeros_fit, empty, then}
use Rattle.compression.specs.Writing.{PutBy, PutsBy, entry_code, part_codes}
use Rattle.compression.specs.declared.writer.Writer.{Writer}
use Rattle.compression.proofs.PuttingValues.{put_then}

pack_one : (c : Code) → pack (c ∷ []) ≡ c.value
unfolding pack
pack_one c = ap (λ (x : ℕ). c.value + x) (mul-zero (2 ^ c.count)) ∙ add-zero c.value

total_one : (c : Code) → total (c ∷ []) ≡ c.count
unfolding total
total_one c = add-zero c.count

pub puts_one : (o o' : List ℕ) (w w' : Writer) (c : Code) → PutBy o o' w w' c.value c.count → PutsBy o o' w w' (c ∷ [])
puts_one o o' w w' c p = subst₂ (λ (v k : ℕ). PutBy o o' w w' v k) (sym (pack_one c)) (sym (total_one c)) p

pub puts_then : (o o₁ o₂ : List ℕ) (w w₁ w₂ : Writer) (a b : List Code) → PutsBy o o₁ w w₁ a → PutsBy o₁ o₂ w₁ w₂ b → PutsBy o o₂ w w₂ (a ++ b)
puts_then o o₁ o₂ w w₁ w₂ a b p q =
    subst₂ (λ (v k : ℕ). PutBy o o₂ w w₂ v k) (sym (pack_append a b)) (sym (total_append a b))
    (put_then o o₁ o₂ w w₁ w₂ (pack a) (total a) (pack b) (total b) p q)

-- two codes put as one value
pub pack_two : (c d : Code) → pack (c ∷ d ∷ []) ≡ c.value + d.value * 2 ^ c.count
unfolding pack
pack_two c d = ap (λ (x : ℕ). c.value + 2 ^ c.count * x) (pack_one d) ∙ ap (λ (x : ℕ). c.value + x) (mul_comm (2 ^ c.count) d.value)

pub total_two : (c d : Code) → total (c ∷ d ∷ []) ≡ c.count + d.count
unfolding total
total_two c d = ap (λ (x : ℕ). c.count + x) (total_one d)

pub puts_two : (o o' : List ℕ) (w w' : Writer) (c d : Code) → PutBy o o' w w' (c.value + d.value * 2 ^ c.count) (c.count + d.count) → PutsBy o o' w w' (c ∷ d ∷ [])
puts_two o o' w w' c d p = subst₂ (λ (v k : ℕ). PutBy o o' w w' v k) (sym (pack_two c d)) (sym (total_two c d)) p

-- ---- the codes of one pair

pub parts_total : (entry run b low : ℕ) → total (part_codes entry run b low) ≡ length_in entry + run + 1 + b
unfolding total
parts_total entry run b low = omega arith

-- an odd number, moved up
moved_odd : (zeros size low : ℕ) → (2 ^ zeros + low * 2 ^ (zeros + 1)) * 2 ^ size ≡ (low * 2 + 1) * 2 ^ (size + zeros)
moved_odd zeros size low =
    let e : low * 2 ^ (zeros + 1) ≡ low * 2 * 2 ^ zeros =
    ap (λ (x : ℕ). low * x) (pow-add 2 zeros 1 ∙ mul_comm (2 ^ zeros) 2) ∙ sym (mul_assoc low 2 (2 ^ zeros)) in
    let f : (low * 2 + 1) * 2 ^ zeros ≡ low * 2 * 2 ^ zeros + 1 * 2 ^ zeros = add-mul (low * 2) 1 (2 ^ zeros) in
    let odd : 2 ^ zeros + low * 2 ^ (zeros + 1) ≡ (low * 2 + 1) * 2 ^ zeros = omega arith in
    ap (λ (x : ℕ). x * 2 ^ size) odd ∙ mul_assoc (low * 2 + 1) (2 ^ zeros) (2 ^ size)
    ∙ ap (λ (x : ℕ). (low * 2 + 1) * x) (sym (pow-add 2 zeros size) ∙ ap (λ (i : ℕ). 2 ^ i) (add_comm zeros size))

module _ (entry zeros b low : ℕ) where
  abbrev row : List Code
  row = zeros_one zeros ∷ record { value = low; count = b } ∷ []

  pub parts_pack : pack (part_codes entry zeros b low) ≡ codeword_in entry + (low * 2 + 1) * 2 ^ (length_in entry + zeros)
  parts_pack =
      pack_append (entry_code entry ∷ []) row
      ∙ ap₂ (λ (x i : ℕ). x + pack row * 2 ^ i) (pack_one (entry_code entry)) (total_one (entry_code entry))
      ∙ ap (λ (x : ℕ). codeword_in entry + x * 2 ^ length_in entry) (pack_two (zeros_one zeros) (record { value = low; count = b }))
      ∙ ap (λ (x : ℕ). codeword_in entry + x) (moved_odd zeros (length_in entry) low)

  pub parts_small : Shape entry → low < 2 ^ b → pack (part_codes entry zeros b low) < 2 ^ (length_in entry + zeros + 1 + b)
  parts_small s l =
      subst (λ (n : ℕ). pack (part_codes entry zeros b low) < 2 ^ n) (parts_total entry zeros b low)
      (pack_fits (then s.fits (then (zeros_fit zeros) (then l empty))))
