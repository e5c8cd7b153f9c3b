-- The bits of an accepted list are not more than are granted. Assumes nothing.
use mathlib.Core.Path.{◌≡◌, refl, ap, ◌∙◌, subst}
use mathlib.Core.Logic.{⊎_elim}
use mathlib.Core.List.{List, [], ◌∷◌}
use Prim.Native.Nat.{ℕ, zero, suc, ◌+◌, ◌-◌, ◌*◌, ◌/◌, ◌%◌, ◌^◌, ◌≤◌, ◌<◌}
use native.Mathlib.Nat.{sub-zero, add-mul, mul-add, suc-mul, mul_comm, mul_right_comm, mul-le-mul_left, pow-suc}
use native.Mathlib.Nat.{div-one, div-mul-le_self, div-lt_iff_lt-mul, le-div_iff_mul-le}
use native.Mathlib.Omega.{arith}
use borrow.Author.Tests.{le-ltb, eq-eqb, ne_eqb}
use lib.ListN.{length}
use lib.Pow.{pow_pos, pow_mono}
use Rattle.laws.proofs.Orders.{le_or_lt}
use Rattle.refusals.specs.Outcome.{accepted}
use Rattle.refusals.specs.Units.{words_for}
use Rattle.numbers.specs.Numbers.{base_bits_at, most_bits_at}
use Rattle.numbers.proofs.Logs.{base_bits_most, base_bits_reach, base_bits_none}
use Rattle.books.specs.Calls.{check_of}
use Rattle.books.specs.Steps.{AllShaped}
use Rattle.books.proofs.Accepted.{book_accepted}
use Rattle.pair_lists.specs.Lists.{pairs_judged}
use Rattle.streams.specs.Codes.{total}
use Rattle.streams.specs.Written.{predicted, codes_from, pairs_pad, pairs_bits}
use Rattle.streams.specs.Calls.{write_pairs_of}
use Rattle.streams.proofs.Rising.{Rising, none, one, rising}

-- ---- the base bits

-- all rows together take fewer than two zeros for each pair
pub few_zeros : (k n : ℕ) → 1 ≤ n → k ≤ 2 ^ 26 → k / 2 ^ base_bits_at k n < 2 * n
few_zeros k n p m = ⊎_elim within beyond (le_or_lt n k)
  where
    within : n ≤ k → k / 2 ^ base_bits_at k n < 2 * n
    within h =
        let b : ℕ = base_bits_at k n in
        let e : 2 ^ suc b * n ≡ 2 * n * 2 ^ b = ap (λ (x : ℕ). x * n) (pow-suc 2 b ∙ mul_comm (2 ^ b) 2) ∙ mul_right_comm 2 (2 ^ b) n in
        (div-lt_iff_lt-mul (pow_pos b)).1 (subst (λ (x : ℕ). k < x) e (base_bits_reach k n p h m))

    beyond : k < n → k / 2 ^ base_bits_at k n < 2 * n
    beyond h = let e : k / 2 ^ base_bits_at k n ≡ k = ap (λ (b : ℕ). k / 2 ^ b) (base_bits_none k n h) ∙ div-one k in omega arith

-- ---- the codes

-- quotients of parts
parts : (a b c : ℕ) → 0 < c → a / c + b / c ≤ (a + b) / c
parts a b c p = (le-div_iff_mul-le p).1 (rw add-mul (omega (arith, div-mul-le_self a c, div-mul-le_self b c)))

-- a code of at most 12 bits, a one, and b low bits for each pair; zeros for the rows that are left
pub codes_most : (book : List ℕ) (b k : ℕ) {row next : ℕ} {pairs : List ℕ} → AllShaped book → length book ≡ 65 → Rising k row next pairs
    → total (codes_from book b row next pairs) ≤ length pairs * (13 + b) + (k - row) / 2 ^ b
unfolding codes_from total
codes_most book b k s size none = omega arith
codes_most book b k {row} {next} s size (one {pair = pair} {more = more} f rest) =
    let y : ℕ = pair / 64 - row in
    let shape = s (pair % 64 - predicted y next) (omega arith) in
    let left = codes_most book b k s size rest in
    let e : k - row ≡ y + (k - pair / 64) = omega arith in
    let q : y / 2 ^ b + (k - pair / 64) / 2 ^ b ≤ (k - row) / 2 ^ b = rw e (parts y (k - pair / 64) (2 ^ b) (pow_pos b)) in
    omega (arith, shape.most, suc-mul (length more) (13 + b))

-- ---- the whole list

granted_some : (book : List ℕ) (k n : ℕ) (pairs : List ℕ) → AllShaped book → length book ≡ 65 → k ≤ 2 ^ 26 → Rising k 0 0 pairs → length pairs ≡ n → 1 ≤ n
    → total (codes_from book (base_bits_at k n) 0 0 pairs) + (10 - base_bits_at k n) ≤ n * (15 + base_bits_at k n) + 10
granted_some book k n pairs s size m r e l =
    let b : ℕ = base_bits_at k n in
    let most : total (codes_from book b 0 0 pairs) ≤ n * (13 + b) + k / 2 ^ b =
    subst (λ (i : ℕ). total (codes_from book b 0 0 pairs) ≤ i * (13 + b) + k / 2 ^ b) e (rw sub-zero at (codes_most book b k s size r)) in
    let few = few_zeros k n l m in
    let q : n * (2 + (13 + b)) ≡ n * 2 + n * (13 + b) = mul-add n 2 (13 + b) in
    let z : 15 + b ≡ 2 + (13 + b) = omega arith in
    rw z (omega arith)

pub granted_shaped : (book : List ℕ) (k : ℕ) (pairs : List ℕ) → AllShaped book → length book ≡ 65 → k ≤ 2 ^ 26 → pairs_judged k pairs ≡ accepted []
    → pairs_bits book k pairs ≤ most_bits_at k (length pairs)
unfolding codes_from total most_bits_at
granted_shaped book k [] shaped size m e = omega arith
granted_shaped book k (pair ∷ more) shaped size m e =
    rw (ne_eqb (suc (length more)) 0 (omega arith))
    (granted_some book k (suc (length more)) (pair ∷ more) shaped size m (rising k (pair ∷ more) e) refl (omega arith))

pub granted : (book : List ℕ) (k : ℕ) (pairs : List ℕ) → check_of book ≡ accepted [] → length book ≡ 65 → k ≤ 2 ^ 26 → pairs_judged k pairs ≡ accepted []
    → pairs_bits book k pairs ≤ most_bits_at k (length pairs)
granted book k pairs ok size m e = granted_shaped book k pairs (book_accepted book ok).1 size m e

-- what is granted is far below 2^64
pub most_small : (k n : ℕ) → n ≤ 2 ^ 28 → most_bits_at k n ≤ 2 ^ 34
unfolding most_bits_at
most_small k zero l = omega arith
most_small k (suc n) l =
    rw (ne_eqb (suc n) 0 (omega arith))
    (omega (arith, mul-le-mul_left {m = 15 + base_bits_at k (suc n)} {n = 41} (suc n) (omega (arith, base_bits_most k (suc n)))))

-- what is granted to 2^28 pairs fits the longest stream that is read, 2^30 bytes
pub most_fits : (k n : ℕ) → k ≤ 2 ^ 26 → n ≤ 2 ^ 28 → most_bits_at k n ≤ 2 ^ 33
unfolding most_bits_at
most_fits k zero m l = omega arith
most_fits k (suc n) m l = rw (ne_eqb (suc n) 0 (omega arith)) (⊎_elim within beyond (le_or_lt (suc n) k))
  where
    within : suc n ≤ k → suc n * (15 + base_bits_at k (suc n)) + 10 ≤ 2 ^ 33
    within h = omega (arith, mul-le-mul_left {m = 15 + base_bits_at k (suc n)} {n = 41} (suc n) (omega (arith, base_bits_most k (suc n))))

    beyond : k < suc n → suc n * (15 + base_bits_at k (suc n)) + 10 ≤ 2 ^ 33
    beyond h = rw (base_bits_none k (suc n) h) (omega arith)

-- the pad of a list that is not empty
pub pad_some : (k n : ℕ) → 1 ≤ n → pairs_pad k n ≡ 10 - base_bits_at k n
pad_some k n l = rw (ne_eqb n 0 (omega arith))

-- a writer that is lent room for what is granted takes every lawful list
pub granted_accepted : (book : List ℕ) (lg : ℕ) (pairs out : List ℕ) → 4 ≤ lg → lg ≤ 26 → length book ≡ 65 → check_of book ≡ accepted [] → length pairs ≤ 2 ^ 28
    → pairs_judged (2 ^ lg) pairs ≡ accepted [] → 4 * words_for (most_bits_at (2 ^ lg) (length pairs)) ≤ length out
    → write_pairs_of book lg pairs out ≡ accepted (pairs_bits book (2 ^ lg) pairs ∷ words_for (pairs_bits book (2 ^ lg) pairs) ∷ [])
unfolding write_pairs_of
granted_accepted book lg pairs out h4 h26 size ok few e room =
    let g = granted book (2 ^ lg) pairs ok size (pow_mono h26) e in
    let r : 4 * words_for (pairs_bits book (2 ^ lg) pairs) ≤ length out = omega arith in
    rw (le-ltb lg 4 h4, le-ltb 26 lg h26, eq-eqb (length book) 65 size, ok, le-ltb (2 ^ 28) (length pairs) few)
    (rw (e, le-ltb (length out) (4 * words_for (pairs_bits book (2 ^ lg) pairs)) r))
