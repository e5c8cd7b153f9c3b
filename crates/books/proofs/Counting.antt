-- Counting the numbers of a book's symbols in two ways. Assumes nothing.
use mathlib.Core.Path.{◌≡◌, sym, ap, ap₂, ◌∙◌}
use mathlib.Core.List.{List, [], ◌∷◌}
use Prim.Native.Nat.{ℕ, zero, suc, ◌+◌, ◌-◌, ◌*◌, ◌/◌, ◌^◌, ◌≤◌}
use native.Mathlib.Omega.{arith}
use lib.Pow.{pow-add, shl-shr}
use Rattle.laws.specs.Below.{one, sum_below}
use Rattle.laws.proofs.Sums.{sum_zero, sum_add, low_parts}
use Rattle.books.specs.Book.{length_in, codeword_in, is_low_bits, symbols_at}
use Rattle.books.specs.Steps.{Shape, AllShaped, taken}

pub share : (len : ℕ) → len ≤ 12 → 4096 / 2 ^ len * 2 ^ len ≡ 4096
share len l =
    let e : 4096 ≡ 2 ^ (12 - len) * 2 ^ len = ap (λ (m : ℕ). 2 ^ m) (let q : 12 ≡ 12 - len + len = omega arith in q) ∙ pow-add 2 (12 - len) len in
    ap (λ (m : ℕ). m / 2 ^ len * 2 ^ len) e ∙ ap (λ (m : ℕ). m * 2 ^ len) (shl-shr (2 ^ (12 - len)) len) ∙ sym e

-- a codeword of the right shape is the low bits of 2^(12 - length) numbers
pub shared : (entry : ℕ) → Shape entry → sum_below 4096 (λ n. one (is_low_bits entry n)) ≡ 4096 / 2 ^ length_in entry
shared entry s =
    ap (λ (m : ℕ). sum_below m (λ n. one (is_low_bits entry n))) (sym (share (length_in entry) s.most))
    ∙ low_parts (4096 / 2 ^ length_in entry) (2 ^ length_in entry) (codeword_in entry) s.fits

pub rest_shaped : (entry : ℕ) (book : List ℕ) → AllShaped (entry ∷ book) → AllShaped book
rest_shaped entry book s x l = s (suc x) (omega arith)

-- what the symbols take together is what the numbers have together
pub two_ways : (book : List ℕ) → AllShaped book → sum_below 4096 (symbols_at book) ≡ taken book
unfolding symbols_at taken
two_ways [] s = sum_zero 4096
two_ways (entry ∷ book) s =
    sum_add 4096 (λ n. one (is_low_bits entry n)) (symbols_at book)
    ∙ ap₂ ◌+◌ (shared entry (s zero (omega arith))) (two_ways book (rest_shaped entry book s))
