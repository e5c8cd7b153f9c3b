-- Codes, one above the other: their bits, their number, and where they stand in a stream. Assumes nothing.
use mathlib.Core.Path.{◌≡◌, sym, ap, ◌∙◌}
use mathlib.Core.List.{List, [], ◌∷◌, ◌++◌}
use Prim.Native.Nat.{ℕ, suc, ◌+◌, ◌-◌, ◌*◌, ◌/◌, ◌%◌, ◌^◌, ◌≤◌, ◌<◌}
use native.Mathlib.Nat.{lt_of_lt_of_le, mod-lt, mod-eq_of_lt, div-one, add_assoc, add_comm, mul-add, mul_assoc, mul_comm, zero-add, mul-one}
use native.Mathlib.Omega.{arith}
use lib.Arith.{digits_lt}
use lib.Dec.{lit<}
use lib.ListN.{length, length-append}
use lib.Pow.{pow_pos, pow_mono, pow-lt, pow-add, low, high}
use Rattle.refusals.specs.Units.{words_for}
use Rattle.books.specs.Steps.{AllShaped}
use Rattle.streams.specs.Stream.{number, word_bits, bits_at}
use Rattle.streams.specs.Codes.{Code, total, pack, book_code, zeros_one, low_bits}
use Rattle.streams.specs.Written.{predicted, codes_from, window_codes, words_of}
use Rattle.streams.proofs.Stream.{AllBytes, front, past, append_same, number_fits, length_bytes_of}
use Rattle.streams.proofs.Rising.{Rising, none, one}

pub total_append : (a b : List Code) → total (a ++ b) ≡ total a + total b
unfolding total
total_append [] b = sym (zero-add (total b))
total_append (c ∷ cs) b = omega (arith, total_append cs b)

pub pack_append : (a b : List Code) → pack (a ++ b) ≡ pack a + pack b * 2 ^ total a
unfolding pack total
pack_append [] b = sym (zero-add (pack b * 1) ∙ mul-one (pack b))
pack_append (c ∷ cs) b =
    let p : ℕ = 2 ^ c.count in
    let e : p * (pack b * 2 ^ total cs) ≡ pack b * 2 ^ (c.count + total cs) =
    mul_comm p (pack b * 2 ^ total cs) ∙ mul_assoc (pack b) (2 ^ total cs) p
    ∙ ap (λ (x : ℕ). pack b * x) (mul_comm (2 ^ total cs) p ∙ sym (pow-add 2 c.count (total cs))) in
    ap (λ (x : ℕ). c.value + p * x) (pack_append cs b) ∙ ap (λ (x : ℕ). c.value + x) (mul-add p (pack cs) (pack b * 2 ^ total cs))
    ∙ ap (λ (x : ℕ). c.value + (p * pack cs + x)) e ∙ sym (add_assoc c.value (p * pack cs) (pack b * 2 ^ (c.count + total cs)))

-- ---- codes that each fit

pub data Fitting : List Code → Type 0 where
  empty : Fitting []
  then : {c : Code} {cs : List Code} → c.value < 2 ^ c.count → Fitting cs → Fitting (c ∷ cs)

-- they make a number of their bits
pub pack_fits : {codes : List Code} → Fitting codes → pack codes < 2 ^ total codes
unfolding pack total
pack_fits empty = lit< tt
pack_fits (then {c = c} {cs = cs} f more) =
    rw (add_comm c.count (total cs), pow-add 2 (total cs) c.count, add_comm c.value (2 ^ c.count * pack cs), mul_comm (2 ^ c.count) (pack cs))
    (digits_lt (pack_fits more) f)

-- ---- codes that stand in a stream at a bit

abbrev pub Holds : ℕ → ℕ → List Code → Type 0
Holds n at codes = bits_at n at (total codes) ≡ pack codes

module _ (n at : ℕ) (c : Code) (cs : List Code) (fits : c.value < 2 ^ c.count) (h : Holds n at (c ∷ cs)) where
  all : bits_at n at (total cs + c.count) ≡ pack cs * 2 ^ c.count + c.value
  unfolding total pack
  all =
      ap (bits_at n at) (add_comm (total cs) c.count) ∙ h ∙ add_comm c.value (2 ^ c.count * pack cs)
      ∙ ap (λ (x : ℕ). x + c.value) (mul_comm (2 ^ c.count) (pack cs))

  -- the first code is the low field, and the others stand past it
  pub holds_first : bits_at n at c.count ≡ c.value
  holds_first = sym (front n at c.count (total cs)) ∙ ap (λ (x : ℕ). x % 2 ^ c.count) all ∙ low (pack cs) c.count fits

  pub holds_rest : Holds n (at + c.count) cs
  holds_rest = sym (past n at c.count (total cs)) ∙ ap (λ (x : ℕ). x / 2 ^ c.count) all ∙ high (pack cs) c.count fits

-- ---- the words that codes and pad fill, and anything after them

module _ (codes : List Code) (bits : ℕ) (anything : List ℕ) (fits : Fitting codes) (enough : total codes ≤ bits) where
  bytes_many : total codes ≤ 8 * (4 * words_for bits)
  bytes_many = omega arith

  words_number : number (words_of codes bits) ≡ pack codes
  words_number = number_fits (4 * words_for bits) (pack codes) (lt_of_lt_of_le (pack_fits fits) (pow_mono bytes_many))

  pub words_hold : Holds (number (words_of codes bits ++ anything)) 0 codes
  words_hold =
      sym (append_same (words_of codes bits) anything (total codes) (omega (arith, bytes_many, length_bytes_of (4 * words_for bits) (pack codes))))
      ∙ ap (λ (x : ℕ). x % 2 ^ total codes) (div-one (number (words_of codes bits)) ∙ words_number) ∙ mod-eq_of_lt (pack_fits fits)

  pub words_room : bits ≤ word_bits (words_of codes bits ++ anything)
  words_room = omega (arith, length-append (words_of codes bits) anything, length_bytes_of (4 * words_for bits) (pack codes))

-- ---- the codes of pairs and of a window each fit

pub book_fits : (book : List ℕ) (symbol : ℕ) → AllShaped book → symbol < length book → (book_code book symbol).value < 2 ^ (book_code book symbol).count
book_fits book symbol s l = (s symbol l).fits

pub zeros_fit : (zeros : ℕ) → (zeros_one zeros).value < 2 ^ (zeros_one zeros).count
zeros_fit zeros = pow-lt {i = zeros} {j = zeros + 1} (omega arith)

pub low_fits : (b n : ℕ) → (low_bits b n).value < 2 ^ (low_bits b n).count
low_fits b n = mod-lt n (pow_pos b)

pub pairs_fitting : (book : List ℕ) (b k : ℕ) {row next : ℕ} {pairs : List ℕ} → AllShaped book → length book ≡ 65 → Rising k row next pairs
    → Fitting (codes_from book b row next pairs)
unfolding codes_from
pairs_fitting book b k s size none = empty
pairs_fitting book b k {row} {next} s size (one {pair = pair} f more) =
    let y : ℕ = pair / 64 - row in
    then (book_fits book (pair % 64 - predicted y next) s (omega arith))
    (then (zeros_fit (y / 2 ^ b)) (then (low_fits b y) (pairs_fitting book b k s size more)))

pub window_fitting : (book window : List ℕ) → AllShaped book → length book ≡ 256 → AllBytes window → Fitting (window_codes book window)
unfolding window_codes
window_fitting book [] s size all = empty
window_fitting book (byte ∷ more) s size all =
    let l = all 0 in
    then (book_fits book byte s (omega arith)) (window_fitting book more s size (λ i. all (suc i)))
