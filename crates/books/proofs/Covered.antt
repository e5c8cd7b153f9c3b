-- A book passes where every number has a symbol and the codewords take 4,096 numbers. Assumes nothing.
use mathlib.Core.Path.{◌≡◌, ap, ◌∙◌}
use mathlib.Core.Logic.{⊎_elim}
use mathlib.Core.Bool.{Bool, true, false}
use mathlib.Core.List.{List, [], ◌∷◌}
use Prim.Native.Nat.{ℕ, suc, ◌+◌, ◌*◌, ◌≤◌, ◌<◌}
use native.Mathlib.Omega.{arith}
use lib.ListN.{length}
use Rattle.laws.specs.Choose.{choose}
use Rattle.laws.specs.Below.{one}
use Rattle.laws.proofs.Truths.{true_or_false}
use Rattle.laws.proofs.Sums.{sum_tight}
use Rattle.refusals.specs.Outcome.{accepted}
use Rattle.books.specs.Book.{length_in, is_low_bits, first_misshapen, symbols_at, one_symbol_each, sized}
use Rattle.books.specs.Table.{decoded_from}
use Rattle.books.specs.Calls.{check_of}
use Rattle.books.specs.Steps.{AllShaped, taken}
use Rattle.books.proofs.Counting.{two_ways}
use Rattle.books.proofs.Shaping.{all_shaped}
use Rattle.books.proofs.Agreement.{each_of}
use Rattle.books.proofs.Verdicts.{check_sized, shaped_judged}

-- a number that is decoded has a symbol
pub decoded_some : (k : ℕ) (book : List ℕ) (n : ℕ) → 0 < decoded_from k book n → 1 ≤ symbols_at book n
unfolding decoded_from symbols_at
decoded_some k [] n l = absurd (omega arith)
decoded_some k (entry ∷ book) n l =
    ⊎_elim (λ (e : is_low_bits entry n ≡ true). omega (arith, ap one e))
    (λ (e : is_low_bits entry n ≡ false).
    let same : decoded_from k (entry ∷ book) n ≡ decoded_from (suc k) book n =
    ap (λ (b : Bool). choose b (length_in entry * 256 + k) (decoded_from (suc k) book n)) e in
    omega (arith, decoded_some (suc k) book n (omega (arith, same)))) (true_or_false (is_low_bits entry n))

pub covered_each : (book : List ℕ) → AllShaped book → taken book ≡ 4096 → ((n : ℕ) → n < 4096 → 1 ≤ symbols_at book n) → one_symbol_each book ≡ true
covered_each book s sum covered = each_of book (sum_tight 4096 (symbols_at book) covered (two_ways book s ∙ sum))

pub covered_passes : (book : List ℕ) → first_misshapen book ≡ length book → taken book ≡ 4096 → ((n : ℕ) → n < 4096 → 1 ≤ symbols_at book n)
    → sized book ≡ true → check_of book ≡ accepted []
covered_passes book shapes sum covered s =
    check_sized book true s ∙ shaped_judged book (one_symbol_each book) true shapes (covered_each book (all_shaped book shapes) sum covered)
