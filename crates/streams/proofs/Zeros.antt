-- The zeros before a one, counted at once: what the looks of eight bits find, one after the other. Assumes nothing.
use mathlib.Core.Path.{◌≡◌, refl, sym, ap, ap₂, ◌∙◌}
use mathlib.Core.Logic.{⊎_elim}
use Prim.Native.Nat.{ℕ, zero, suc, ◌+◌, ◌-◌, ◌*◌, ◌/◌, ◌%◌, ◌^◌, ◌≤◌, ◌<◌, min}
use native.Mathlib.Nat.{pow-suc, div-one, zero-add, suc-add, zero-min, min-zero, suc-min-suc, suc_inj}
use native.Mathlib.Numerals.{add-one, one-add}
use native.Mathlib.Omega.{arith}
use borrow.Author.Tests.{lt-ltb, le-ltb, le-leb, lt-leb, eq-eqb, ne_eqb}
use lib.Count.{count_trailing_zeros, under}
use lib.Dec.{ltb}
use lib.Pow.{mod-pow-add, shr-shr}
use Rattle.laws.specs.Choose.{choose}
use Rattle.laws.proofs.Orders.{le_or_lt, same_or_not}
use Rattle.streams.specs.Stream.{bits_at}
use Rattle.streams.specs.Looks.{Looked, found, cut, eight_more, zeros_from, zeros_at}

-- ---- `count_trailing_zeros`

-- the lowest digit and the rest, of the low digits of a number
mod_suc : (k n : ℕ) → n % 2 ^ suc k ≡ (n / 2 % 2 ^ k) * 2 + n % 2
mod_suc k n = ap (λ (x : ℕ). n % 2 ^ x) (sym (add-one k)) ∙ mod-pow-add n k 1

shr_suc : (k n : ℕ) → n / 2 / 2 ^ k ≡ n / 2 ^ suc k
shr_suc k n = shr-shr n 1 k ∙ ap (λ (x : ℕ). n / 2 ^ x) (one-add k)

-- in fewer digits
pub zeros_min : (a b n : ℕ) → count_trailing_zeros a n ≡ min a (count_trailing_zeros (a + b) n)
unfolding count_trailing_zeros
zeros_min zero b n = sym (zero-min (count_trailing_zeros (zero + b) n))
zeros_min (suc a) b n =
    ap (under (n % 2)) (zeros_min a b (n / 2)) ∙ go (n % 2)
    ∙ ap (λ (k : ℕ). min (suc a) (count_trailing_zeros k n)) (sym (suc-add a b))
  where
    t : ℕ
    t = count_trailing_zeros (a + b) (n / 2)

    go : (d : ℕ) → under d (min a t) ≡ min (suc a) (under d t)
    go zero = sym (suc-min-suc a t)
    go (suc d) = sym (min-zero (suc a))

-- past a zeros
pub zeros_past : (a b n : ℕ) → n % 2 ^ a ≡ 0 → count_trailing_zeros (a + b) n ≡ a + count_trailing_zeros b (n / 2 ^ a)
unfolding count_trailing_zeros
zeros_past zero b n h = ap (λ (k : ℕ). count_trailing_zeros k n) (zero-add b) ∙ sym (zero-add (count_trailing_zeros b n)) ∙ ap (λ (x : ℕ). zero + count_trailing_zeros b x) (sym (div-one n))
zeros_past (suc a) b n h =
    let m = mod_suc a n in
    let low : n % 2 ≡ 0 = omega arith in
    let rest : n / 2 % 2 ^ a ≡ 0 = omega arith in
    ap (λ (k : ℕ). count_trailing_zeros k n) (suc-add a b) ∙ ap (λ (d : ℕ). under d (count_trailing_zeros (a + b) (n / 2))) low
    ∙ ap suc (zeros_past a b (n / 2) rest ∙ ap (λ (x : ℕ). a + count_trailing_zeros b x) (shr_suc a n))
    ∙ sym (suc-add a (count_trailing_zeros b (n / 2 ^ suc a)))

-- of the low digits alone
pub zeros_mod : (k n : ℕ) → count_trailing_zeros k (n % 2 ^ k) ≡ count_trailing_zeros k n
unfolding count_trailing_zeros
zeros_mod zero n = refl
zeros_mod (suc k) n =
    let m = mod_suc k n in
    let low : n % 2 ^ suc k % 2 ≡ n % 2 = omega arith in
    let rest : n % 2 ^ suc k / 2 ≡ n / 2 % 2 ^ k = omega arith in
    ap₂ under low (ap (count_trailing_zeros k) rest ∙ zeros_mod k (n / 2))

-- all of them zeros
pub zeros_full : (k n : ℕ) → count_trailing_zeros k n ≡ k → n % 2 ^ k ≡ 0
unfolding count_trailing_zeros
zeros_full zero n e = omega arith
zeros_full (suc k) n e = go (n % 2) refl e (zeros_full k (n / 2))
  where
    go : (d : ℕ) → n % 2 ≡ d → under d (count_trailing_zeros k (n / 2)) ≡ suc k → (count_trailing_zeros k (n / 2) ≡ k → n / 2 % 2 ^ k ≡ 0) → n % 2 ^ suc k ≡ 0
    go zero p q ih = let r = ih (suc_inj q) in omega (arith, mod_suc k n)
    go (suc d) p q ih = omega arith

-- not all of them: a one comes after them
pub zeros_one : (k n : ℕ) → count_trailing_zeros k n < k → n % 2 ^ suc (count_trailing_zeros k n) ≡ 2 ^ count_trailing_zeros k n
unfolding count_trailing_zeros
zeros_one zero n l = absurd (omega arith)
zeros_one (suc k) n l = go (n % 2) refl l (zeros_one k (n / 2))
  where
    t : ℕ
    t = count_trailing_zeros k (n / 2)

    go : (d : ℕ) → n % 2 ≡ d → under d t < suc k → (t < k → n / 2 % 2 ^ suc t ≡ 2 ^ t) → n % 2 ^ suc (under d t) ≡ 2 ^ under d t
    go zero p q ih = let r = ih (omega arith) in omega (arith, mod_suc (suc t) n, pow-suc 2 t)
    go (suc d) p q ih = omega arith

-- so many zeros and a one, as a number
pub zeros_of : (k n z : ℕ) → z < k → n % 2 ^ suc z ≡ 2 ^ z → count_trailing_zeros k n ≡ z
unfolding count_trailing_zeros
zeros_of zero n z l e = absurd (omega arith)
zeros_of (suc k) n zero l e = let d : n % 2 ≡ 1 = e in ap (λ (d : ℕ). under d (count_trailing_zeros k (n / 2))) d
zeros_of (suc k) n (suc z) l e =
    let m = mod_suc (suc z) n in
    let low : n % 2 ≡ 0 = omega (arith, pow-suc 2 z) in
    ap (λ (d : ℕ). under d (count_trailing_zeros k (n / 2))) low ∙ ap suc (zeros_of k (n / 2) z (omega arith) (omega (arith, pow-suc 2 z)))

-- ---- the looks

-- how many zeros stand from a bit on before the next one, or the end
abbrev pub zeros_in : ℕ → ℕ → ℕ → ℕ
zeros_in n end at = count_trailing_zeros (end - at) (n / 2 ^ at)

-- there is room for (end - at) / 8 looks; the one that ends the zeros lies in look zeros / 8
abbrev pub run_at : ℕ → ℕ → ℕ → Looked
run_at n end at =
    choose (ltb (zeros_in n end at / 8) ((end - at) / 8)) (found (zeros_in n end at) (at + zeros_in n end at + 1)) (cut (at + (end - at) / 8 * 8))

pub run_found : (n end at : ℕ) → zeros_in n end at / 8 < (end - at) / 8 → run_at n end at ≡ found (zeros_in n end at) (at + zeros_in n end at + 1)
run_found n end at l = rw (lt-ltb (zeros_in n end at / 8) ((end - at) / 8) l)

pub run_cut : (n end at : ℕ) → (end - at) / 8 ≤ zeros_in n end at / 8 → run_at n end at ≡ cut (at + (end - at) / 8 * 8)
run_cut n end at l = rw (le-ltb (zeros_in n end at / 8) ((end - at) / 8) l)

module _ (n end at : ℕ) (fits : at + 8 ≤ end) where
  left : end - at ≡ 8 + (end - (at + 8))
  left = omega arith

  -- eight zeros, and what comes after them
  run_more : bits_at n at 8 ≡ 0 → eight_more (run_at n end (at + 8)) ≡ run_at n end at
  run_more e =
      let z : zeros_in n end at ≡ 8 + zeros_in n end (at + 8) =
      ap (λ (k : ℕ). count_trailing_zeros k (n / 2 ^ at)) left ∙ zeros_past 8 (end - (at + 8)) (n / 2 ^ at) e
      ∙ ap (λ (x : ℕ). 8 + count_trailing_zeros (end - (at + 8)) x) (shr-shr n at 8) in
      ⊎_elim
      (λ (l : (end - at) / 8 ≤ zeros_in n end at / 8).
      ap eight_more (run_cut n end (at + 8) (omega arith)) ∙ ap cut (omega arith) ∙ sym (run_cut n end at l))
      (λ (l : zeros_in n end at / 8 < (end - at) / 8).
      ap eight_more (run_found n end (at + 8) (omega arith)) ∙ ap₂ found (omega arith) (omega arith) ∙ sym (run_found n end at l))
      (le_or_lt ((end - at) / 8) (zeros_in n end at / 8))

  -- a one among the eight
  run_here : (bits_at n at 8 ≡ 0 → ⊥) → found (count_trailing_zeros 8 (bits_at n at 8)) (at + count_trailing_zeros 8 (bits_at n at 8) + 1) ≡ run_at n end at
  run_here h =
      let m : ℕ = n / 2 ^ at in
      let e : count_trailing_zeros 8 (bits_at n at 8) ≡ count_trailing_zeros 8 m = zeros_mod 8 m in
      let f : count_trailing_zeros 8 m ≡ 8 → ⊥ = λ (q : count_trailing_zeros 8 m ≡ 8). h (zeros_full 8 m q) in
      let z : count_trailing_zeros 8 m ≡ min 8 (zeros_in n end at) = zeros_min 8 (end - (at + 8)) m ∙ ap (λ (k : ℕ). min 8 (count_trailing_zeros k m)) (sym left) in
      let s : zeros_in n end at ≡ count_trailing_zeros 8 (bits_at n at 8) = omega arith in
      ap (λ (x : ℕ). found x (at + x + 1)) (sym s) ∙ sym (run_found n end at (omega arith))

zeros_from_is : (looks n end at : ℕ) → (end - at) / 8 < looks → zeros_from looks n end at ≡ run_at n end at
unfolding zeros_from
zeros_from_is zero n end at l = absurd (omega arith)
zeros_from_is (suc looks) n end at l =
    ⊎_elim
    (λ (fits : at + 8 ≤ end).
    ⊎_elim
    (λ (e : bits_at n at 8 ≡ 0).
    rw (le-leb (at + 8) end fits, eq-eqb (bits_at n at 8) 0 e) (ap eight_more (zeros_from_is looks n end (at + 8) (omega arith)) ∙ run_more n end at fits e))
    (λ (h : bits_at n at 8 ≡ 0 → ⊥). rw (le-leb (at + 8) end fits, ne_eqb (bits_at n at 8) 0 h) (run_here n end at fits h)) (same_or_not (bits_at n at 8) 0))
    (λ (short : end < at + 8). rw (lt-leb (at + 8) end short) (sym (run_cut n end at (omega arith) ∙ ap cut (omega arith)))) (le_or_lt (at + 8) end)

-- the looks, one after the other, find what is counted at once
pub zeros_at_is : (n end at : ℕ) → zeros_at n end at ≡ run_at n end at
zeros_at_is n end at = zeros_from_is (suc (end / 8)) n end at (omega arith)
