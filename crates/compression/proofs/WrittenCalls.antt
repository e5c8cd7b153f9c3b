-- The judgements of the two calls that write, one after the other, and what they leave. Assumes nothing.
use mathlib.Core.Path.{◌≡◌, refl, sym, ap, ap₂, ◌∙◌}
use mathlib.Core.Bool.{Bool, true, false, not, ◌&&◌}
use mathlib.Core.List.{List, [], ◌∷◌}
use Prim.Native.Nat.{ℕ, ◌+◌, ◌-◌, ◌*◌, ◌%◌, ◌^◌, ◌≤◌}
use native.Mathlib.Nat.{mul-mod_left}
use native.Mathlib.Omega.{arith}
use borrow.Author.Tests.{le-ltb, eq-eqb, ne_eqb}
use lib.Dec.{eqb, ltb}
use lib.ListN.{length}
use lib.Pow.{pow-add}
use Rattle.std.specs.Prelude.{Result, Ok}
use Rattle.laws.specs.Choose.{choose}
use Rattle.refusals.specs.Outcome.{Outcome, accepted, refused, stopped, if_accepted, and_then}
use Rattle.refusals.specs.Units.{words_for}
use Rattle.refusals.specs.Told.{told, told_length}
use Rattle.refusals.specs.declared.Refusal.{Refusal}
use Rattle.refusals.specs.declared.Refusal.TheVariants.{WrongLength}
use Rattle.refusals.specs.declared.units.StreamLength.{StreamLength}
use Rattle.refusals.proofs.Refusing.{kept, stays}
use Rattle.numbers.specs.Numbers.{base_bits_at}
use Rattle.numbers.specs.Calls.{outside, base_bits_of}
use Rattle.numbers.proofs.RowsTold.{RowsAt}
use Rattle.books.specs.Calls.{check_of}
use Rattle.pair_lists.specs.Lists.{pairs_judged, judge_pairs_of}
use Rattle.streams.specs.Codes.{Code}
use Rattle.streams.specs.Written.{pairs_codes, pairs_bits, window_codes, window_bits}
use Rattle.streams.specs.Calls.{written_if, words_into, write_pairs_of, pairs_written, write_window_of, window_written}
use Rattle.compression.specs.Writing.{LastBy}

-- ---- what is judged first

pub base_bits_is : (lg n : ℕ) → outside lg ≡ false → base_bits_of lg n ≡ accepted (base_bits_at (2 ^ lg) n ∷ [])
unfolding base_bits_of
base_bits_is lg n e = simp e

pub judge_pairs_is : (lg : ℕ) (pairs : List ℕ) → outside lg ≡ false → judge_pairs_of lg pairs ≡ pairs_judged (2 ^ lg) pairs
unfolding judge_pairs_of
judge_pairs_is lg pairs e = simp e

-- a refusal ends both judgements
pub judged_refused : (why : Refusal) (first more : Outcome) → told why ≡ first → told why ≡ and_then first more
judged_refused why first more e = sym (ap (λ (o : Outcome). and_then o more) (sym e) ∙ stays why more)

-- 2, 3
abbrev pub book_judged : ℕ → List ℕ → Outcome
book_judged symbols book = choose (not (eqb (length book) symbols)) (refused 2 0) (check_of book)

-- 4, then the first faulty pair
abbrev pub list_judged : ℕ → List ℕ → Outcome
list_judged k pairs = choose (ltb (2 ^ 28) (length pairs)) (refused 4 0) (pairs_judged k pairs)

-- a window has an even number of bytes
pub even_rows : {lg k : ℕ} → RowsAt lg k → k % 2 ≡ 0
even_rows {lg} at =
    let e : lg ≡ lg - 1 + 1 = omega (arith, at.low) in
    ap (λ (x : ℕ). x % 2) at.power ∙ ap (λ (i : ℕ). 2 ^ i % 2) e ∙ ap (λ (x : ℕ). x % 2) (pow-add 2 (lg - 1) 1) ∙ mul-mod_left (2 ^ (lg - 1)) 2

-- ---- the last judgement

module _ (codes : List Code) (bits : ℕ) (out : List ℕ) where
  pub last_written : (out' : List ℕ) (long : StreamLength) → 4 * words_for bits ≤ length out → long.bits.0 ≡ bits → long.words.0 ≡ words_for bits
      → out' ≡ words_into codes bits out → LastBy codes bits out out' (Ok long)
  last_written out' long l eb ew stands =
      let e : written_if bits out ≡ accepted (bits ∷ words_for bits ∷ []) = simp (le-ltb (length out) (4 * words_for bits) l) in
      record {
        says = ap₂ (λ (x y : ℕ). accepted (x ∷ y ∷ [])) eb ew ∙ sym e;
        leaves = stands ∙ sym (ap (λ (o : Outcome). if_accepted o (words_into codes bits out) out) e);
      }

-- ---- the whole calls

-- a call that is a judgement and then the last one
module _ (whole judged : Outcome) (codes : List Code) (bits : ℕ) (out : List ℕ) (chain : whole ≡ and_then judged (written_if bits out)) where
  call_refused : (why : Refusal) → told why ≡ judged → (told why ≡ whole) × (out ≡ if_accepted whole (words_into codes bits out) out)
  call_refused why e =
      let is : told why ≡ whole = sym (chain ∙ ap (λ (o : Outcome). and_then o (written_if bits out)) (sym e) ∙ stays why (written_if bits out)) in
      (is, sym (kept why (words_into codes bits out) out) ∙ ap (λ (o : Outcome). if_accepted o (words_into codes bits out) out) is)

  call_judged : (out' : List ℕ) (answer : Result StreamLength Refusal) → accepted [] ≡ judged → LastBy codes bits out out' answer
      → (told_length answer ≡ whole) × (out' ≡ if_accepted whole (words_into codes bits out) out)
  call_judged out' answer e last =
      let is : whole ≡ written_if bits out = chain ∙ ap (λ (o : Outcome). and_then o (written_if bits out)) (sym e) in
      (last.says ∙ sym is, last.leaves ∙ sym (ap (λ (o : Outcome). if_accepted o (words_into codes bits out) out) is))

pairs_chain : (wrong : Bool) (check : Outcome) (many : Bool) (judged last : Outcome)
    → choose wrong (refused 2 0) (and_then check (choose many (refused 4 0) (and_then judged last)))
    ≡ and_then (and_then (choose wrong (refused 2 0) check) (choose many (refused 4 0) judged)) last
pairs_chain true check many judged last = refl
pairs_chain false (accepted values) true judged last = refl
pairs_chain false (accepted values) false judged last = refl
pairs_chain false (refused number place) many judged last = refl
pairs_chain false (stopped number place bit) many judged last = refl

module _ (book : List ℕ) (lg : ℕ) (pairs out : List ℕ) where
  abbrev whole : Outcome
  whole = write_pairs_of book lg pairs out

  abbrev codes : List Code
  codes = pairs_codes book (2 ^ lg) pairs

  abbrev bits : ℕ
  bits = pairs_bits book (2 ^ lg) pairs

  abbrev pub PairsCalled : Outcome → List ℕ → Type 0
  PairsCalled outcome out' = (outcome ≡ whole) × (out' ≡ pairs_written book lg pairs out)

  pairs_first : outside lg ≡ true → whole ≡ refused 1 0
  unfolding write_pairs_of
  pairs_first o = simp o

  pub pairs_outside : (why : Refusal) → outside lg ≡ true → told why ≡ refused 1 0 → PairsCalled (told why) out
  pairs_outside why o e = call_refused whole (refused 1 0) codes bits out (pairs_first o) why e

  module _ (k : ℕ) (at : RowsAt lg k) where
    abbrev judged : Outcome
    judged = and_then (book_judged 65 book) (list_judged k pairs)

    chain : whole ≡ and_then judged (written_if bits out)
    unfolding write_pairs_of
    chain =
        simp at.inside
        (pairs_chain (not (eqb (length book) 65)) (check_of book) (ltb (2 ^ 28) (length pairs)) (pairs_judged (2 ^ lg) pairs) (written_if bits out)
        ∙ ap (λ (x : ℕ). and_then (and_then (book_judged 65 book) (list_judged x pairs)) (written_if bits out)) (sym at.power))

    pub pairs_wrong : (why : Refusal) → told why ≡ book_judged 65 book → PairsCalled (told why) out
    pairs_wrong why e =
        call_refused whole judged codes bits out chain why (judged_refused why (book_judged 65 book) (list_judged k pairs) e)

    module _ (passes : accepted [] ≡ book_judged 65 book) where
      past : list_judged k pairs ≡ judged
      past = ap (λ (o : Outcome). and_then o (list_judged k pairs)) passes

      pub pairs_faulty : (why : Refusal) → told why ≡ list_judged k pairs → PairsCalled (told why) out
      pairs_faulty why e = call_refused whole judged codes bits out chain why (e ∙ past)

      pub pairs_called : (b p : List ℕ) (j : ℕ) (out' : List ℕ) (answer : Result StreamLength Refusal) → b ≡ book → p ≡ pairs → j ≡ k
          → accepted [] ≡ list_judged k pairs
          → LastBy (pairs_codes b j p) (pairs_bits b j p) out out' answer → PairsCalled (told_length answer) out'
      pairs_called b p j out' answer eb ep ej e last =
          call_judged whole judged codes bits out chain out' answer (e ∙ past) (rw (← eb, ← ep, ← at.power, ← ej) last)

window_chain : (wrong : Bool) (check last : Outcome) → choose wrong (refused 2 0) (and_then check last) ≡ and_then (choose wrong (refused 2 0) check) last
window_chain true check last = refl
window_chain false check last = refl

and_false : (b : Bool) → (b && false) ≡ false
and_false true = refl
and_false false = refl

and_true : (b : Bool) → (b && true) ≡ b
and_true true = refl
and_true false = refl

module _ (book : List ℕ) (lg : ℕ) (window out : List ℕ) where
  abbrev whole_window : Outcome
  whole_window = write_window_of book lg window out

  abbrev all : List Code
  all = window_codes book window

  abbrev size : ℕ
  size = window_bits book window

  abbrev pub WindowCalled : Outcome → List ℕ → Type 0
  WindowCalled outcome out' = (outcome ≡ whole_window) × (out' ≡ window_written book lg window out)

  window_first : outside lg ≡ true → whole_window ≡ refused 1 0
  unfolding write_window_of
  window_first o = simp o

  pub window_outside : (why : Refusal) → outside lg ≡ true → told why ≡ refused 1 0 → WindowCalled (told why) out
  window_outside why o e = call_refused whole_window (refused 1 0) all size out (window_first o) why e

  module _ (k : ℕ) (at : RowsAt lg k) where
    sized : (t : Bool) → eqb (length window) k ≡ t
        → whole_window ≡ and_then (choose (not (eqb (length book) 256 && t)) (refused 2 0) (check_of book)) (written_if size out)
    unfolding write_window_of
    sized t e =
        simp at.inside
        (ap (λ (b : Bool). choose (not (eqb (length book) 256 && b)) (refused 2 0) (and_then (check_of book) (written_if size out)))
        (ap (eqb (length window)) (sym at.power) ∙ e)
        ∙ window_chain (not (eqb (length book) 256 && t)) (check_of book) (written_if size out))

    pub window_other : (length window ≡ k → ⊥) → WindowCalled (refused 2 0) out
    window_other other =
        call_refused whole_window (refused 2 0) all size out
        (sized false (ne_eqb (length window) k other)
        ∙ ap (λ (b : Bool). and_then (choose (not b) (refused 2 0) (check_of book)) (written_if size out)) (and_false (eqb (length book) 256))) WrongLength refl

    module _ (exact : length window ≡ k) where
      window_next : whole_window ≡ and_then (book_judged 256 book) (written_if size out)
      window_next =
          sized true (eq-eqb (length window) k exact)
          ∙ ap (λ (b : Bool). and_then (choose (not b) (refused 2 0) (check_of book)) (written_if size out)) (and_true (eqb (length book) 256))

      pub window_wrong : (why : Refusal) → told why ≡ book_judged 256 book → WindowCalled (told why) out
      window_wrong why e = call_refused whole_window (book_judged 256 book) all size out window_next why e

      pub window_called : (b : List ℕ) (out' : List ℕ) (answer : Result StreamLength Refusal) → b ≡ book → accepted [] ≡ book_judged 256 book
          → LastBy (window_codes b window) (window_bits b window) out out' answer → WindowCalled (told_length answer) out'
      window_called b out' answer eb e last =
          call_judged whole_window (book_judged 256 book) all size out window_next out' answer e (rw (← eb) last)
