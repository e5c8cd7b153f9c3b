-- How many symbols a number has. Assumes nothing.
use mathlib.Core.Path.{◌≡◌, refl, ap, ◌∙◌}
use mathlib.Core.Logic.{◌⊎◌, inl, inr, ⊎_elim}
use mathlib.Core.Bool.{Bool, true, false}
use mathlib.Core.List.{List, [], ◌∷◌}
use Prim.Native.Nat.{ℕ, zero, suc, ◌+◌, ◌-◌, ◌*◌, ◌%◌, ◌^◌, ◌≤◌, ◌<◌}
use native.Mathlib.Omega.{arith}
use borrow.Author.Tests.{eqb-true, eq-eqb}
use lib.ListN.{length, get_or}
use Rattle.laws.specs.Choose.{choose}
use Rattle.laws.specs.Below.{one}
use Rattle.laws.proofs.Orders.{lt_or_le}
use Rattle.laws.proofs.Truths.{true_or_false}
use Rattle.books.specs.Book.{length_in, codeword_in, is_low_bits, symbols_at}
use Rattle.books.specs.Table.{decoded_from}
use Rattle.books.specs.Steps.{Hit}

-- the first symbol has the number, or not
first : (entry n : ℕ) → (n % 2 ^ length_in entry ≡ codeword_in entry) ⊎ (is_low_bits entry n ≡ false)
first entry n =
    ⊎_elim (λ (e : is_low_bits entry n ≡ true). inl (eqb-true (n % 2 ^ length_in entry) (codeword_in entry) e)) (λ (e : is_low_bits entry n ≡ false). inr e)
    (true_or_false (is_low_bits entry n))

hit_true : (entry n : ℕ) → n % 2 ^ length_in entry ≡ codeword_in entry → is_low_bits entry n ≡ true
hit_true entry n h = eq-eqb (n % 2 ^ length_in entry) (codeword_in entry) h

-- a symbol that has the number is counted
pub some : (book : List ℕ) (x n : ℕ) → x < length book → Hit book x n → 1 ≤ symbols_at book n
unfolding symbols_at
some [] x n l h = absurd (omega arith)
some (entry ∷ book) zero n l h = omega (arith, ap one (hit_true entry n h))
some (entry ∷ book) (suc x) n l h = omega (arith, some book x n (omega arith) h)

-- two are counted twice
pub two : (book : List ℕ) (x y n : ℕ) → x < y → y < length book → Hit book x n → Hit book y n → 2 ≤ symbols_at book n
unfolding symbols_at
two [] x y n lt l hx hy = absurd (omega arith)
two (entry ∷ book) x zero n lt l hx hy = absurd (omega arith)
two (entry ∷ book) zero (suc y) n lt l hx hy = omega (arith, ap one (hit_true entry n hx), some book y n (omega arith) hy)
two (entry ∷ book) (suc x) (suc y) n lt l hx hy = omega (arith, two book x y n (omega arith) (omega arith) hx hy)

pub none : (book : List ℕ) (n : ℕ) → ((x : ℕ) → x < length book → Hit book x n → ⊥) → symbols_at book n ≡ 0
unfolding symbols_at
none [] n h = refl
none (entry ∷ book) n h =
    ⊎_elim (λ (e : n % 2 ^ length_in entry ≡ codeword_in entry). absurd (h zero (omega arith) e))
    (λ (e : is_low_bits entry n ≡ false). omega (arith, ap one e, none book n (λ x l. h (suc x) (omega arith)))) (first entry n)

-- where no symbol but w has the number, at most one is counted
pub few : (book : List ℕ) (n w : ℕ) → ((x : ℕ) → x < length book → Hit book x n → x ≡ w) → symbols_at book n ≤ 1
unfolding symbols_at
few [] n w h = omega arith
few (entry ∷ book) n w h =
    ⊎_elim
    (λ (e : n % 2 ^ length_in entry ≡ codeword_in entry).
    let zero_w : 0 ≡ w = h zero (omega arith) e in
    let others = none book n (λ (x : ℕ) (l : x < length book) (k : Hit book x n). let q : suc x ≡ w = h (suc x) (omega arith) k in omega arith) in
    omega (arith, ap one (hit_true entry n e)))
    (λ (e : is_low_bits entry n ≡ false).
    omega (arith, ap one e, few book n (w - 1) (λ (x : ℕ) (l : x < length book) (k : Hit book x n). let q : suc x ≡ w = h (suc x) (omega arith) k in omega arith)))
    (first entry n)

-- a number with one symbol has no second
pub only : (book : List ℕ) (x y n : ℕ) → symbols_at book n ≡ 1 → x < length book → y < length book → Hit book x n → Hit book y n → x ≡ y
only book x y n e lx ly hx hy =
    ⊎_elim (λ (l : x < y). absurd (let t = two book x y n l ly hx hy in omega arith))
    (λ (l : y ≤ x).
    ⊎_elim (λ (k : y < x). absurd (let t = two book y x n k lx hy hx in omega arith)) (λ (k : x ≤ y). let q : x ≡ y = omega arith in q) (lt_or_le y x))
    (lt_or_le x y)

-- a number that is counted has a symbol
pub which : (book : List ℕ) (n : ℕ) → 1 ≤ symbols_at book n → (x : ℕ) × (x < length book) × Hit book x n
unfolding symbols_at
which [] n l = absurd (omega arith)
which (entry ∷ book) n l =
    ⊎_elim (λ (e : n % 2 ^ length_in entry ≡ codeword_in entry). (zero, omega arith, e))
    (λ (e : is_low_bits entry n ≡ false).
    let w = which book n (omega (arith, ap one e)) in
    (suc w.0, omega (arith, w.1), w.2)) (first entry n)

-- the table's entry is that of the one symbol
pub decoded_as : (k : ℕ) (book : List ℕ) (x n : ℕ) → symbols_at book n ≡ 1 → x < length book → Hit book x n
    → decoded_from k book n ≡ length_in (get_or book x 0) * 256 + (k + x)
unfolding symbols_at decoded_from
decoded_as k [] x n e l h = absurd (omega arith)
decoded_as k (entry ∷ book) zero n e l h =
    ap (λ (b : Bool). choose b (length_in entry * 256 + k) (decoded_from (suc k) book n)) (hit_true entry n h) ∙ omega arith
decoded_as k (entry ∷ book) (suc x) n e l h =
    let s = some book x n (omega arith) h in
    ⊎_elim (λ (q : n % 2 ^ length_in entry ≡ codeword_in entry). absurd (omega (arith, ap one (hit_true entry n q))))
    (λ (q : is_low_bits entry n ≡ false).
    ap (λ (b : Bool). choose b (length_in entry * 256 + k) (decoded_from (suc k) book n)) q
    ∙ decoded_as (suc k) book x n (omega (arith, ap one q)) (omega arith) h ∙ omega arith) (first entry n)
