-- From the definitions of the parts to what code computes. Assumes nothing.
use mathlib.Core.Path.{◌≡◌, refl, sym, ap, ap₂, ◌∙◌}
use mathlib.Core.Bool.{Bool, true, false}
use Prim.Native.Nat.{ℕ, zero, suc, ◌+◌, ◌*◌, ◌/◌, ◌%◌, ◌^◌, ◌<◌}
use native.Mathlib.Nat.{zero-add, mod-lt}
use native.Mathlib.Omega.{arith}
use lib.Count.{ones}
use lib.ListN.{length, length-append}
use lib.Pow.{pow_pos}
use Rattle.laws.specs.Below.{one, sum_below, count_below}
use Rattle.laws.specs.Columns.{has}
use Rattle.laws.proofs.Columns.{has_low, has_shr}
use Rattle.laws.proofs.Ones.{count_same, ones_count}
use Rattle.laws.proofs.Sums.{sum_split}
use Rattle.laws.proofs.Words.{word_is}
use Rattle.matrices.specs.Listing.{only, list_from}
use Rattle.matrices.specs.Parts.{window_at}
use Rattle.matrices.specs.Shapes.{row_pairs}

-- the window byte is (word >> o) mod 256
pub window_shift : (o w : ℕ) → window_at o w ≡ w / 2 ^ o % 256
window_shift o w =
    sym (word_is 8 (w / 2 ^ o % 2 ^ 8) (λ i. has w (o + i)) (mod-lt (w / 2 ^ o) (pow_pos 8)) (λ i l. has_low (w / 2 ^ o) 8 i l ∙ has_shr w o i))

-- a list is as long as the numbers that pass its test are many
pub length_from : (a n : ℕ) (p : ℕ → Bool) → length (list_from a n p) ≡ count_below n (λ i. p (a + i))
unfolding list_from sum_below
length_from a zero p = refl
length_from a (suc n) p = length-append (list_from a n p) (only (p (a + n)) (a + n)) ∙ ap₂ ◌+◌ (length_from a n p) (length_only (p (a + n)) (a + n))
  where
    length_only : (b : Bool) (x : ℕ) → length (only b x) ≡ one b
    length_only true x = refl
    length_only false x = refl

-- from 0 on
pub length_list : (n : ℕ) (p : ℕ → Bool) → length (list_from 0 n p) ≡ count_below n p
length_list n p = length_from 0 n p ∙ count_same n (λ i. p (0 + i)) p (λ i h. ap p (zero-add i))

-- a row lists as many pairs as its word has columns
pub row_length : (row w : ℕ) → w < 2 ^ 64 → length (row_pairs row w) ≡ ones w
row_length row w h =
    length_from (64 * row) 64 (λ x. has w (x % 64))
    ∙ count_same 64 (λ i. has w ((64 * row + i) % 64)) (has w) (λ i l. let q : (64 * row + i) % 64 ≡ i = omega arith in ap (has w) q)
    ∙ sym (ones_count 64 w h)

-- pairs are counted row by row
pub count_rows : (k : ℕ) (f : ℕ → ℕ → Bool) → count_below (64 * k) (λ x. f (x / 64) (x % 64)) ≡ sum_below k (λ r. count_below 64 (f r))
unfolding sum_below
count_rows zero f = refl
count_rows (suc k) f =
    let e : 64 * suc k ≡ 64 * k + 64 = omega arith in
    ap (λ (n : ℕ). count_below n (λ x. f (x / 64) (x % 64))) e
    ∙ sum_split (64 * k) 64 (λ x. one (f (x / 64) (x % 64)))
    ∙ ap₂ ◌+◌ (count_rows k f)
    (count_same 64 (λ c. f ((64 * k + c) / 64) ((64 * k + c) % 64)) (f k)
    (λ c l.
    let q : (64 * k + c) / 64 ≡ k = omega arith in
    let s : (64 * k + c) % 64 ≡ c = omega arith in
    ap₂ f q s))
