-- Marks of symbols: a symbol's numbers, among the numbers of as many bits. Assumes nothing.
use mathlib.Core.Path.{◌≡◌, sym, ap, ap₂, ◌∙◌, subst}
use mathlib.Core.Logic.{⊎_elim}
use mathlib.Core.Bool.{Bool, true, false, ◌&&◌, ◌||◌, false≢true}
use mathlib.Core.List.{List}
use Prim.Native.Nat.{ℕ, ◌+◌, ◌-◌, ◌/◌, ◌%◌, ◌^◌, ◌≤◌, ◌<◌}
use native.Mathlib.Nat.{mod-eq_of_lt}
use native.Mathlib.Omega.{arith}
use borrow.Author.Tests.{eqb-true, eq-eqb, ne_eqb}
use lib.Bits.{bit_or}
use lib.Dec.{eqb}
use lib.ListN.{length, get_or, set, replicate, length-replicate, get_or-replicate, get_or-eq_default}
use lib.Pow.{pow-add, pow_mono}
use lib.Seq.{get_or-set_same, get_or-set_other}
use Rattle.laws.specs.Columns.{has}
use Rattle.laws.proofs.Orders.{lt_or_le, same_or_not}
use Rattle.laws.proofs.Truths.{and_left, and_right, and_both, or_true, or_false, or_left, or_right}
use Rattle.laws.proofs.Columns.{has_or, has_one, has_zero}
use Rattle.books.specs.Book.{length_in, codeword_in}
use Rattle.books.specs.Steps.{Hit, marked, mark_of, is_mark, Marked, Marking}

-- where the mark of a number stands
pub word_at : (d n : ℕ) → mark_of d n / 64 ≡ 2 ^ d + n / 64
word_at d n = omega (arith, pow-add 2 6 d)

pub bit_at : (d n : ℕ) → mark_of d n % 64 ≡ n % 64
bit_at d n = omega (arith, pow-add 2 6 d)

pub marked_at : (marks : List ℕ) (d n : ℕ) → marked marks (mark_of d n) ≡ has (get_or marks (2 ^ d + n / 64) 0) (n % 64)
marked_at marks d n = ap₂ (λ (w c : ℕ). has (get_or marks w 0) c) (word_at d n) (bit_at d n)

-- an array of zeros has no marks
pub unmarked : (at : ℕ) → marked (replicate 128 0) at ≡ false
unmarked at =
    ap (λ (w : ℕ). has w (at % 64))
    (⊎_elim (λ (l : at / 64 < 128). get_or-replicate {A = ℕ} 128 (at / 64) 0 0 l)
    (λ (l : 128 ≤ at / 64).
    get_or-eq_default (replicate 128 0) 0 (let q : length (replicate {A = ℕ} 128 0) ≤ at / 64 = omega (arith, length-replicate {A = ℕ} 128 0) in q))
    (lt_or_le (at / 64) 128)) ∙ has_zero (at % 64)

module _ (marks : List ℕ) (len codeword : ℕ) where
  -- a short codeword: the pattern goes into the word of the numbers of six bits
  pub mark_short : (pattern : ℕ) → len ≤ 6 → 1 < length marks → ((c : ℕ) → c < 64 → has pattern c ≡ eqb (c % 2 ^ len) codeword)
      → Marked marks (set marks 1 (bit_or (get_or marks 1 0) pattern)) len codeword
  mark_short pattern l size h d n ld ln = ⊎_elim first later (lt_or_le 0 d)
    where
      after : List ℕ
      after = set marks 1 (bit_or (get_or marks 1 0) pattern)

      later : d ≤ 0 → marked after (mark_of d n) ≡ (marked marks (mark_of d n) || is_mark len codeword d n)
      later q =
          let z : d ≡ 0 = omega arith in
          let small : n < 64 = subst (λ (k : ℕ). n < 2 ^ (6 + k)) z ln in
          let at : 2 ^ d + n / 64 ≡ 1 = omega (arith, ap (λ (k : ℕ). 2 ^ k) z) in
          let here : n % 64 ≡ n = mod-eq_of_lt small in
          marked_at after d n
          ∙ ap₂ (λ (w c : ℕ). has (get_or after w 0) c) at here
          ∙ ap (λ (w : ℕ). has w n) (get_or-set_same marks 1 (bit_or (get_or marks 1 0) pattern) 0 size)
          ∙ has_or (get_or marks 1 0) pattern n
          ∙ ap₂ ◌||◌ (sym (marked_at marks d n ∙ ap₂ (λ (w c : ℕ). has (get_or marks w 0) c) at here))
          (h n small ∙ sym (ap (λ (b : Bool). b && eqb (n % 2 ^ len) codeword) (eq-eqb d (len - 6) (omega arith))))

      first : 0 < d → marked after (mark_of d n) ≡ (marked marks (mark_of d n) || is_mark len codeword d n)
      first q =
          let two : 2 ≤ 2 ^ d = pow_mono {i = 1} {j = d} q in
          marked_at after d n
          ∙ ap (λ (w : ℕ). has w (n % 64)) (get_or-set_other marks 1 (2 ^ d + n / 64) (bit_or (get_or marks 1 0) pattern) 0 (λ (e : 2 ^ d + n / 64 ≡ 1). omega arith))
          ∙ sym (marked_at marks d n) ∙ sym (or_false (marked marks (mark_of d n)))
          ∙ ap (λ (b : Bool). marked marks (mark_of d n) || b)
          (sym (ap (λ (b : Bool). b && eqb (n % 2 ^ len) codeword) (ne_eqb d (len - 6) (λ (e : d ≡ len - 6). omega arith))))

-- one mark more
pub one_more : (marks : List ℕ) (k at : ℕ) → k / 64 < length marks
    → marked (set marks (k / 64) (bit_or (get_or marks (k / 64) 0) (2 ^ (k % 64)))) at ≡ (marked marks at || eqb at k)
one_more marks k at l =
    ⊎_elim
    (λ (q : at / 64 ≡ k / 64).
    ap (λ (w : ℕ). has (get_or after w 0) (at % 64)) q
    ∙ ap (λ (w : ℕ). has w (at % 64)) (get_or-set_same marks (k / 64) (bit_or (get_or marks (k / 64) 0) (2 ^ (k % 64))) 0 l)
    ∙ has_or (get_or marks (k / 64) 0) (2 ^ (k % 64)) (at % 64)
    ∙ ap₂ ◌||◌ (ap (λ (w : ℕ). has (get_or marks w 0) (at % 64)) (sym q)) (has_one (k % 64) (at % 64) ∙ same q))
    (λ (q : at / 64 ≡ k / 64 → ⊥).
    ap (λ (w : ℕ). has w (at % 64)) (get_or-set_other marks (k / 64) (at / 64) (bit_or (get_or marks (k / 64) 0) (2 ^ (k % 64))) 0 q)
    ∙ sym (or_false (marked marks at)) ∙ ap (λ (b : Bool). marked marks at || b) (sym (ne_eqb at k (λ (e : at ≡ k). q (ap (λ (m : ℕ). m / 64) e)))))
    (same_or_not (at / 64) (k / 64))
  where
    after : List ℕ
    after = set marks (k / 64) (bit_or (get_or marks (k / 64) 0) (2 ^ (k % 64)))

    same : at / 64 ≡ k / 64 → eqb (at % 64) (k % 64) ≡ eqb at k
    same q =
        ⊎_elim (λ (e : at % 64 ≡ k % 64). eq-eqb (at % 64) (k % 64) e ∙ sym (eq-eqb at k (let z : at ≡ k = omega arith in z)))
        (λ (e : at % 64 ≡ k % 64 → ⊥). ne_eqb (at % 64) (k % 64) e ∙ sym (ne_eqb at k (λ (z : at ≡ k). e (ap (λ (m : ℕ). m % 64) z))))
        (same_or_not (at % 64) (k % 64))

-- numbers of different bits have different marks
apart : (i j n m : ℕ) → i < j → n < 2 ^ i → 2 ^ i + n ≡ 2 ^ j + m → ⊥
apart i j n m l h e = let p = pow_mono {i = i + 1} {j = j} (omega arith) in omega (arith, pow-add 2 i 1)

-- a long codeword is its own number of as many bits
long_only : (len codeword d n : ℕ) → 6 < len → codeword < 2 ^ len → n < 2 ^ (6 + d)
    → eqb (mark_of d n) (2 ^ len + codeword) ≡ is_mark len codeword d n
long_only len codeword d n l h ln =
    ⊎_elim
    (λ (q : d ≡ len - 6).
    let e : 6 + d ≡ len = omega arith in
    ap (λ (k : ℕ). eqb (2 ^ k + n) (2 ^ len + codeword)) e
    ∙ shifted (2 ^ len)
    ∙ sym (ap₂ ◌&&◌ (eq-eqb d (len - 6) q) (ap (λ (m : ℕ). eqb m codeword) (mod-eq_of_lt (subst (λ (k : ℕ). n < 2 ^ k) e ln)))))
    (λ (q : d ≡ len - 6 → ⊥).
    ne_eqb (mark_of d n) (2 ^ len + codeword) (other q) ∙ sym (ap (λ (b : Bool). b && eqb (n % 2 ^ len) codeword) (ne_eqb d (len - 6) q)))
    (same_or_not d (len - 6))
  where
    shifted : (p : ℕ) → eqb (p + n) (p + codeword) ≡ eqb n codeword
    shifted p =
        ⊎_elim (λ (e : n ≡ codeword). eq-eqb (p + n) (p + codeword) (omega arith) ∙ sym (eq-eqb n codeword e))
        (λ (e : n ≡ codeword → ⊥). ne_eqb (p + n) (p + codeword) (λ (z : p + n ≡ p + codeword). e (omega arith)) ∙ sym (ne_eqb n codeword e))
        (same_or_not n codeword)

    other : (d ≡ len - 6 → ⊥) → mark_of d n ≡ 2 ^ len + codeword → ⊥
    other q e =
        ⊎_elim (λ (k : 6 + d < len). apart (6 + d) len n codeword k ln e)
        (λ (k : len ≤ 6 + d).
        ⊎_elim (λ (m : len < 6 + d). apart len (6 + d) codeword n m h (sym e)) (λ (m : 6 + d ≤ len). q (omega arith)) (lt_or_le len (6 + d)))
        (lt_or_le (6 + d) len)

pub mark_long : (marks : List ℕ) (len codeword k : ℕ) → k ≡ 2 ^ len + codeword → length marks ≡ 128 → 6 < len → len ≤ 12 → codeword < 2 ^ len
    → Marked marks (set marks (k / 64) (bit_or (get_or marks (k / 64) 0) (2 ^ (k % 64)))) len codeword
mark_long marks len codeword k e size l most h d n ld ln =
    one_more marks k (mark_of d n) (omega (arith, pow_mono {i = len} {j = 12} most))
    ∙ ap (λ (b : Bool). marked marks (mark_of d n) || b) (ap (λ (m : ℕ). eqb (mark_of d n) m) e ∙ long_only len codeword d n l h ln)

-- ---- one symbol after the other

pub marking_start : (book marks : List ℕ) → ((at : ℕ) → marked marks at ≡ false) → Marking book marks 0
marking_start book marks none = record {
  given = λ y n l. absurd (omega arith);
  owned = λ d n ld ln e. absurd (false≢true (sym (none (mark_of d n)) ∙ e));
}

pub marking_turn : (book marks marks' : List ℕ) (x entry : ℕ) → entry ≡ get_or book x 0 → Marked marks marks' (length_in entry) (codeword_in entry)
    → ((y : ℕ) → y < x + 1 → length_in (get_or book y 0) ≤ 12) → Marking book marks x → Marking book marks' (x + 1)
marking_turn book marks marks' x entry e m most v = record { given = given; owned = owned }
  where
    len : ℕ
    len = length_in (get_or book x 0)

    code : ℕ
    code = codeword_in (get_or book x 0)

    now : Marked marks marks' len code
    now = subst (λ (z : ℕ). Marked marks marks' (length_in z) (codeword_in z)) e m

    given : (y n : ℕ) → y < x + 1 → n < 2 ^ (6 + (length_in (get_or book y 0) - 6)) → Hit book y n
        → marked marks' (mark_of (length_in (get_or book y 0) - 6) n) ≡ true
    given y n ly ln h =
        let d : ℕ = length_in (get_or book y 0) - 6 in
        now d n (omega (arith, most y ly)) ln
        ∙ ⊎_elim (λ (q : y < x). or_left (marked marks (mark_of d n)) (is_mark len code d n) (v.given y n q ln h))
        (λ (q : x ≤ y).
        let z : y ≡ x = omega arith in
        or_right (marked marks (mark_of d n)) (is_mark len code d n)
        (and_both (eq-eqb d (len - 6) (ap (λ (w : ℕ). length_in (get_or book w 0) - 6) z)) (eq-eqb (n % 2 ^ len) code (subst (λ (w : ℕ). Hit book w n) z h))))
        (lt_or_le y x)

    owned : (d n : ℕ) → d ≤ 6 → n < 2 ^ (6 + d) → marked marks' (mark_of d n) ≡ true
        → (y : ℕ) × (y < x + 1) × (length_in (get_or book y 0) ≤ 6 + d) × Hit book y n
    owned d n ld ln t =
        ⊎_elim
        (λ (q : marked marks (mark_of d n) ≡ true).
        let w = v.owned d n ld ln q in
        (w.0, (let k : w.0 < x + 1 = omega (arith, w.1) in k), w.2, w.3))
        (λ (q : is_mark len code d n ≡ true).
        let same = eqb-true d (len - 6) (and_left (eqb d (len - 6)) (eqb (n % 2 ^ len) code) q) in (
          x,
          (let k : x < x + 1 = omega arith in k),
          (let k : len ≤ 6 + d = omega arith in k),
          eqb-true (n % 2 ^ len) code (and_right (eqb d (len - 6)) (eqb (n % 2 ^ len) code) q),
        ))
        (or_true (marked marks (mark_of d n)) (is_mark len code d n) (sym (now d n ld ln) ∙ t))
