-- Marks of few bits go to the numbers of more bits that end in them. Assumes nothing.
use mathlib.Core.Path.{◌≡◌, refl, sym, ap, ap₂, ◌∙◌, subst}
use mathlib.Core.Logic.{⊎_elim}
use mathlib.Core.Bool.{Bool, true, false, ◌||◌}
use mathlib.Core.List.{List}
use Prim.Native.Nat.{ℕ, zero, suc, ◌+◌, ◌-◌, ◌*◌, ◌/◌, ◌%◌, ◌^◌, ◌≤◌, ◌<◌}
use native.Mathlib.Nat.{mod-eq_of_lt, mod-lt, pow-suc}
use native.Mathlib.Numerals.{add-one}
use native.Mathlib.Omega.{arith}
use borrow.Author.Tests.{lt-ltb}
use lib.Bits.{bit_or}
use lib.ListN.{length, get_or, set, drop}
use lib.Pow.{pow-add, pow_pos, pow_mono, mod-mod-pow, ones_lt}
use lib.Seq.{get_or-set_same, get_or-set_other}
use Rattle.std.proofs.Common.{◌≢◌, MatchBool}
use Rattle.std.proofs.lemmas.List.{get_or-drop, length-drop}
use Rattle.std.specs.List.{AllWithin, HoldsAt}
use Rattle.laws.specs.Columns.{has}
use Rattle.laws.proofs.Orders.{lt_or_le}
use Rattle.laws.proofs.Truths.{or_true, or_left, or_right}
use Rattle.laws.proofs.Columns.{has_or, has_ones, word_ext}
use Rattle.laws.proofs.Powers.{below_top}
use Rattle.books.specs.Book.{length_in, one_symbol_each}
use Rattle.books.specs.Steps.{Decides, AllShaped, taken, Hit, marked, mark_of, Marking, reached, Spread, Joined, Widened, Full}
use Rattle.books.proofs.Symbols.{some}
use Rattle.books.proofs.Agreement.{which_at}
use Rattle.books.proofs.Covered.{covered_each}
use Rattle.books.proofs.Marking.{marked_at}

-- ---- words into words

pub joined_start : (marks : List ℕ) (from to : ℕ) → Joined marks marks from to 0
joined_start marks from to = record { inside = λ i l. absurd (omega arith); below = λ w l. refl; above = λ w l. refl }

pub joined_turn : (marks₀ marks : List ℕ) (from to i : ℕ) → Joined marks₀ marks from to i → from + i < to → to + i < length marks
    → Joined marks₀ (set marks (to + i) (bit_or (get_or marks (to + i) 0) (get_or marks (from + i) 0))) from to (i + 1)
joined_turn marks₀ marks from to i v lf lt = record {
  inside =
      λ (k : ℕ) (h : k < i + 1).
      ⊎_elim (λ (q : k < i). get_or-set_other marks (to + i) (to + k) word 0 (λ (e : to + k ≡ to + i). omega arith) ∙ v.inside k q)
      (λ (q : i ≤ k).
      let e : i ≡ k = omega arith in
      subst (λ (j : ℕ). get_or (set marks (to + i) word) (to + j) 0 ≡ bit_or (get_or marks₀ (to + j) 0) (get_or marks₀ (from + j) 0)) e
      (get_or-set_same marks (to + i) word 0 lt ∙ ap₂ bit_or (v.above (to + i) (omega arith)) (v.below (from + i) lf))) (lt_or_le k i);
  below = λ (w : ℕ) (l : w < to). get_or-set_other marks (to + i) w word 0 (λ (e : w ≡ to + i). omega arith) ∙ v.below w l;
  above = λ (w : ℕ) (l : to + (i + 1) ≤ w). get_or-set_other marks (to + i) w word 0 (λ (e : w ≡ to + i). omega arith) ∙ v.above w (omega arith);
}
  where
    word : ℕ
    word = bit_or (get_or marks (to + i) 0) (get_or marks (from + i) 0)

-- into both halves
pub widened_of : (marks marks' marks'' : List ℕ) (half : ℕ) → Joined marks marks' half (half * 2) half → Joined marks' marks'' half (half * 3) half
    → Widened marks marks'' half
widened_of marks marks' marks'' half a b = record {
  low = λ (w : ℕ) (l : w < half * 2). b.below w (omega arith) ∙ a.below w l;
  first = λ (i : ℕ) (l : i < half). b.below (half * 2 + i) (omega arith) ∙ a.inside i l;
  second =
      λ (i : ℕ) (l : i < half).
      b.inside i l ∙ ap₂ bit_or (a.above (half * 3 + i) (omega arith)) (a.below (half + i) (omega arith));
  high = λ (w : ℕ) (l : half * 4 ≤ w). b.above w (omega arith) ∙ a.above w (omega arith);
}

-- ---- one more bit

module _ (marks marks' : List ℕ) (b : ℕ) (v : Widened marks marks' (2 ^ b)) where
  abbrev half : ℕ
  half = 2 ^ b

  twice : 2 ^ suc b ≡ half * 2
  twice = pow-suc 2 b

  size : 2 ^ (6 + b) ≡ 64 * half
  size = pow-add 2 6 b

  -- a number of one more bit has its own mark, or its low bits have one
  abbrev Gets : ℕ → Type 0
  Gets n = marked marks' (mark_of (suc b) n) ≡ (marked marks (mark_of (suc b) n) || marked marks (mark_of b (n % 2 ^ (6 + b))))

  -- that is so where the word of the low bits m went into the number's word
  gets : (n m : ℕ) → n % 2 ^ (6 + b) ≡ m → n % 64 ≡ m % 64
      → get_or marks' (2 ^ suc b + n / 64) 0 ≡ bit_or (get_or marks (2 ^ suc b + n / 64) 0) (get_or marks (half + m / 64) 0) → Gets n
  gets n m e c w =
      marked_at marks' (suc b) n ∙ ap (λ (x : ℕ). has x (n % 64)) w
      ∙ has_or (get_or marks (2 ^ suc b + n / 64) 0) (get_or marks (half + m / 64) 0) (n % 64)
      ∙ ap₂ ◌||◌ (sym (marked_at marks (suc b) n))
      (ap (λ (x : ℕ). has (get_or marks (half + m / 64) 0) x) c ∙ sym (marked_at marks b m) ∙ ap (λ (x : ℕ). marked marks (mark_of b x)) (sym e))

  widened_mark : (n : ℕ) → n < 2 ^ (6 + suc b) → Gets n
  widened_mark n l = ⊎_elim low high (lt_or_le n (2 ^ (6 + b)))
    where
      low : n < 2 ^ (6 + b) → Gets n
      low q =
          let at : half * 2 + n / 64 ≡ 2 ^ suc b + n / 64 = omega (arith, twice) in
          gets n n (mod-eq_of_lt q) refl
          (subst (λ (w : ℕ). get_or marks' w 0 ≡ bit_or (get_or marks w 0) (get_or marks (half + n / 64) 0)) at (v.first (n / 64) (omega (arith, size))))

      high : 2 ^ (6 + b) ≤ n → Gets n
      high q =
          let e : 2 ^ (6 + b) + (n - 2 ^ (6 + b)) ≡ n = omega arith in
          let few : n - 2 ^ (6 + b) < 2 ^ (6 + b) = omega (arith, pow-add 2 6 (suc b), twice, size) in
          let at : half * 3 + (n - 2 ^ (6 + b)) / 64 ≡ 2 ^ suc b + n / 64 = omega (arith, twice, size) in
          gets n (n - 2 ^ (6 + b))
          (ap (λ (k : ℕ). k % 2 ^ (6 + b)) (sym e) ∙ below_top (6 + b) (6 + b) (n - 2 ^ (6 + b)) (omega arith) ∙ mod-eq_of_lt few) (omega (arith, size))
          (subst (λ (w : ℕ). get_or marks' w 0 ≡ bit_or (get_or marks w 0) (get_or marks (half + (n - 2 ^ (6 + b)) / 64) 0)) at
          (v.second ((n - 2 ^ (6 + b)) / 64) (omega (arith, size))))

  -- the other numbers keep their marks
  same_word : (d n : ℕ) → get_or marks' (2 ^ d + n / 64) 0 ≡ get_or marks (2 ^ d + n / 64) 0 → marked marks' (mark_of d n) ≡ marked marks (mark_of d n)
  same_word d n e = marked_at marks' d n ∙ ap (λ (x : ℕ). has x (n % 64)) e ∙ sym (marked_at marks d n)

  few_kept : (d n : ℕ) → d ≤ b → n < 2 ^ (6 + d) → marked marks' (mark_of d n) ≡ marked marks (mark_of d n)
  few_kept d n l ln =
      same_word d n (v.low (2 ^ d + n / 64) (let p = pow_mono {i = d} {j = b} l in omega (arith, pow-add 2 6 d)))

  many_kept : (d n : ℕ) → suc b < d → marked marks' (mark_of d n) ≡ marked marks (mark_of d n)
  many_kept d n l =
      same_word d n (v.high (2 ^ d + n / 64) (let p = pow_mono {i = suc (suc b)} {j = d} l in omega (arith, twice, pow-suc 2 (suc b))))

-- as far as b bits more than six
pub record Spreading (marks₀ marks : List ℕ) (b : ℕ) : Type 0 where
  pub done : (d n : ℕ) → d ≤ b → n < 2 ^ (6 + d) → marked marks (mark_of d n) ≡ reached marks₀ d n
  pub left : (d n : ℕ) → b < d → marked marks (mark_of d n) ≡ marked marks₀ (mark_of d n)

pub spreading_start : (marks : List ℕ) → Spreading marks marks 0
spreading_start marks = record { done = done; left = λ d n l. refl }
  where
    done : (d n : ℕ) → d ≤ 0 → n < 2 ^ (6 + d) → marked marks (mark_of d n) ≡ reached marks d n
    done zero n l ln = refl
    done (suc d) n l ln = absurd (omega arith)

pub spreading_turn : (marks₀ marks marks' : List ℕ) (b half : ℕ) → half ≡ 2 ^ b → Widened marks marks' half → Spreading marks₀ marks b
    → Spreading marks₀ marks' (b + 1)
spreading_turn marks₀ marks marks' b half e w v =
    subst (Spreading marks₀ marks') (sym (add-one b)) record {
      done = done;
      left = λ (d n : ℕ) (l : suc b < d). many_kept marks marks' b wide d n l ∙ v.left d n (omega arith);
    }
  where
    wide : Widened marks marks' (2 ^ b)
    wide = subst (Widened marks marks') e w

    done : (d n : ℕ) → d ≤ suc b → n < 2 ^ (6 + d) → marked marks' (mark_of d n) ≡ reached marks₀ d n
    done d n l ln =
        ⊎_elim (λ (q : d < suc b). few_kept marks marks' b wide d n (omega arith) ln ∙ v.done d n (omega arith) ln)
        (λ (q : suc b ≤ d).
        let z : suc b ≡ d = omega arith in
        subst (λ (k : ℕ). marked marks' (mark_of k n) ≡ reached marks₀ k n) z
        (widened_mark marks marks' b wide n (subst (λ (k : ℕ). n < 2 ^ (6 + k)) (sym z) ln)
        ∙ ap₂ ◌||◌ (v.left (suc b) n (omega arith)) (v.done b (n % 2 ^ (6 + b)) (omega arith) (mod-lt n (pow_pos (6 + b)))))) (lt_or_le d (suc b))

pub spreading_end : (marks₀ marks : List ℕ) (b : ℕ) → 6 ≤ b → Spreading marks₀ marks b → Spread marks₀ marks
spreading_end marks₀ marks b l v d n ld ln = v.done d n (omega arith) ln

-- ---- all ones

pub full_stop : (marks : List ℕ) (w : ℕ) → 64 ≤ w → w < 128 → get_or marks w 0 < 2 ^ 64 → (get_or marks w 0 ≡ 2 ^ 64 - 1 → ⊥) → Full marks → ⊥
full_stop marks w l h small not all = not (word_ext 64 (get_or marks w 0) (2 ^ 64 - 1) small (ones_lt 64) columns)
  where
    columns : (c : ℕ) → c < 64 → has (get_or marks w 0) c ≡ has (2 ^ 64 - 1) c
    columns c lc =
        let at : 64 + ((w - 64) * 64 + c) / 64 ≡ w = omega arith in
        let bit : ((w - 64) * 64 + c) % 64 ≡ c = omega arith in
        sym (ap₂ (λ (k b : ℕ). has (get_or marks k 0) b) at bit) ∙ sym (marked_at marks 6 ((w - 64) * 64 + c)) ∙ all ((w - 64) * 64 + c) (omega arith)
        ∙ sym (has_ones 64 c ∙ lt-ltb c 64 lc)

-- the words from 64 up say whether all are marked
pub all_full : (marks : List ℕ) → length marks ≡ 128 → ((w : ℕ) → get_or marks w 0 < 2 ^ 64) → (r : Bool)
    → MatchBool r (AllWithin (λ x. x ≡ 2 ^ 64 - 1) (drop 64 marks) 0 (length (drop 64 marks)))
    ((k : ℕ) × (k < length (drop 64 marks)) × HoldsAt (λ x. x ≢ 2 ^ 64 - 1) (drop 64 marks) k)
    → Decides (Full marks) r
all_full marks size small true all = λ n l.
    let ones : get_or marks (64 + n / 64) 0 ≡ 2 ^ 64 - 1 =
    sym (get_or-drop 64 marks (n / 64) 0) ∙ all (n / 64) 0 (omega arith) (omega (arith, length-drop 64 marks)) in
    marked_at marks 6 n ∙ ap (λ (k : ℕ). has k (n % 64)) ones ∙ has_ones 64 (n % 64) ∙ lt-ltb (n % 64) 64 (omega arith)
all_full marks size small false d = λ full.
    full_stop marks (64 + d.0) (omega arith) (omega (arith, d.1, length-drop 64 marks)) (small (64 + d.0)) (λ e. d.2 0 (get_or-drop 64 marks d.0 0 ∙ e)) full

-- ---- what is reached has a symbol, and the other way round

module _ (book marks : List ℕ) (x : ℕ) (v : Marking book marks x) where
  abbrev len : ℕ → ℕ
  len y = length_in (get_or book y 0)

  -- the low bits that a symbol does not see past
  same_low : (y d n : ℕ) → len y ≤ 6 + d → n % 2 ^ (6 + d) % 2 ^ len y ≡ n % 2 ^ len y
  same_low y d n l =
      let e : 6 + d - len y + len y ≡ 6 + d = omega arith in
      subst (λ (k : ℕ). n % 2 ^ k % 2 ^ len y ≡ n % 2 ^ len y) e (mod-mod-pow n (6 + d - len y) (len y))

  reached_own : (y d n : ℕ) → y < x → len y - 6 ≡ d → n < 2 ^ (6 + d) → Hit book y n → marked marks (mark_of d n) ≡ true
  reached_own y d n l e ln h =
      subst (λ (k : ℕ). marked marks (mark_of k n) ≡ true) e (v.given y n l (subst (λ (k : ℕ). n < 2 ^ (6 + k)) (sym e) ln) h)

  pub reached_of : (d y n : ℕ) → y < x → len y ≤ 6 + d → n < 2 ^ (6 + d) → Hit book y n → reached marks d n ≡ true
  reached_of zero y n l few ln h = reached_own y 0 n l (omega arith) ln h
  reached_of (suc d) y n l few ln h =
      ⊎_elim
      (λ (q : len y < 6 + suc d).
      let few' : len y ≤ 6 + d = omega arith in
      or_right (marked marks (mark_of (suc d) n)) (reached marks d (n % 2 ^ (6 + d)))
      (reached_of d y (n % 2 ^ (6 + d)) l few' (mod-lt n (pow_pos (6 + d))) (same_low y d n few' ∙ h)))
      (λ (q : 6 + suc d ≤ len y).
      or_left (marked marks (mark_of (suc d) n)) (reached marks d (n % 2 ^ (6 + d))) (reached_own y (suc d) n l (omega arith) ln h)) (lt_or_le (len y) (6 + suc d))

  pub reached_by : (d n : ℕ) → d ≤ 6 → n < 2 ^ (6 + d) → reached marks d n ≡ true → (y : ℕ) × (y < x) × (len y ≤ 6 + d) × Hit book y n
  reached_by zero n ld ln e = v.owned zero n ld ln e
  reached_by (suc d) n ld ln e =
      ⊎_elim (λ (q : marked marks (mark_of (suc d) n) ≡ true). v.owned (suc d) n ld ln q)
      (λ (q : reached marks d (n % 2 ^ (6 + d)) ≡ true).
      let w = reached_by d (n % 2 ^ (6 + d)) (omega arith) (mod-lt n (pow_pos (6 + d))) q in
      (w.0, w.1, (let k : len w.0 ≤ 6 + suc d = omega (arith, w.2) in k), sym (same_low w.0 d n w.2) ∙ w.3))
      (or_true (marked marks (mark_of (suc d) n)) (reached marks d (n % 2 ^ (6 + d))) e)

module _ (book marks marks' : List ℕ) (s : AllShaped book) (v : Marking book marks (length book)) (w : Spread marks marks') where
  pub full_passes : taken book ≡ 4096 → Full marks' → one_symbol_each book ≡ true
  full_passes sum all =
      covered_each book s sum
      (λ n l.
      let y = reached_by book marks (length book) v 6 n (omega arith) l (sym (w 6 n (omega arith) l) ∙ all n l) in
      some book y.0 n y.1 y.3)

  pub passes_full : one_symbol_each book ≡ true → Full marks'
  passes_full e n l =
      let y = which_at book e n l in
      w 6 n (omega arith) l ∙ reached_of book marks (length book) v 6 y.0 n y.1 (s y.0 y.1).most l y.2
