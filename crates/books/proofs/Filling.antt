-- The fill of a decoding table: each symbol's entry at each of its numbers, one symbol after the other. Assumes nothing.
use mathlib.Core.Path.{◌≡◌, refl, sym, ◌∙◌, subst}
use mathlib.Core.Logic.{⊎_elim}
use mathlib.Core.Bool.{true}
use mathlib.Core.List.{List}
use Prim.Native.Nat.{ℕ, ◌+◌, ◌*◌, ◌%◌, ◌^◌, ◌≤◌, ◌<◌}
use native.Mathlib.Nat.{mod-eq_of_lt, add-mod_right}
use native.Mathlib.Omega.{arith}
use lib.ListN.{length, get_or, set, length-set}
use lib.Pow.{pow_pos, pow_mono}
use lib.Seq.{get_or-set_same, get_or-set_other}
use Rattle.laws.proofs.Orders.{lt_or_le}
use Rattle.laws.proofs.Powers.{same_part}
use Rattle.books.specs.Book.{length_in, codeword_in, one_symbol_each}
use Rattle.books.specs.Steps.{Shape, Hit, entry_of, Agreed, Entered}
use Rattle.books.proofs.Symbols.{only}
use Rattle.books.proofs.Agreement.{one_at}

-- a symbol's entry, as far as it has come
pub record Entering (table₀ table : List ℕ) (entry value step n : ℕ) : Type 0 where
  pub size : length table ≡ length table₀
  pub least : 1 ≤ step
  pub most : step ≤ 4096
  pub at : n % step ≡ codeword_in entry
  pub mine : (m : ℕ) → m < n → m < 4096 → m % step ≡ codeword_in entry → get_or table m 0 ≡ value
  pub others : (m : ℕ) → (m % step ≡ codeword_in entry → ⊥) → get_or table m 0 ≡ get_or table₀ m 0

pub entering_start : (table : List ℕ) (entry value step : ℕ) → Shape entry → step ≡ 2 ^ length_in entry
    → Entering table table entry value step (codeword_in entry)
entering_start table entry value step s e = record {
  size = refl;
  least = omega (arith, pow_pos (length_in entry));
  most = omega (arith, pow_mono {i = length_in entry} {j = 12} s.most);
  at = mod-eq_of_lt fits;
  mine =
      λ (m : ℕ) (l : m < codeword_in entry) l' (h : m % step ≡ codeword_in entry).
      let q : m % step ≡ m = mod-eq_of_lt (let k : m < step = omega (arith, fits) in k) in
      absurd (omega arith);
  others = λ m h. refl;
}
  where
    fits : codeword_in entry < step
    fits = subst (λ (p : ℕ). codeword_in entry < p) (sym e) s.fits

pub entering_turn : (table₀ table : List ℕ) (entry value step n : ℕ) → Entering table₀ table entry value step n → n < length table
    → Entering table₀ (set table n value) entry value step (n + step)
entering_turn table₀ table entry value step n v ln = record {
  size = length-set table n value ∙ v.size;
  least = v.least;
  most = v.most;
  at = add-mod_right n step ∙ v.at;
  mine =
      λ (m : ℕ) (l : m < n + step) l' (h : m % step ≡ codeword_in entry).
      ⊎_elim (λ (q : m < n). get_or-set_other table n m value 0 (λ (e : m ≡ n). omega arith) ∙ v.mine m q l' h)
      (λ (q : n ≤ m).
      subst (λ (k : ℕ). get_or (set table n value) k 0 ≡ value) (sym (same_part step n m q l (h ∙ sym v.at))) (get_or-set_same table n value 0 ln)) (lt_or_le m n);
  others =
      λ (m : ℕ) (h : m % step ≡ codeword_in entry → ⊥).
      get_or-set_other table n m value 0 (λ (e : m ≡ n). h (subst (λ (k : ℕ). k % step ≡ codeword_in entry) (sym e) v.at)) ∙ v.others m h;
}

pub entering_end : (table₀ table : List ℕ) (entry x value step n : ℕ) → Entering table₀ table entry value step n → 4096 ≤ n → step ≡ 2 ^ length_in entry
    → value ≡ length_in entry * 256 + x → Entered table₀ table entry x
entering_end table₀ table entry x value step n v l es ev = record {
  mine = λ (m : ℕ) (lm : m < 4096) h. v.mine m (omega arith) lm (subst (λ (p : ℕ). m % p ≡ codeword_in entry) (sym es) h) ∙ ev;
  others = λ m lm h. v.others m (λ k. h (subst (λ (p : ℕ). m % p ≡ codeword_in entry) es k));
}

-- the symbols below x are entered
pub record Filling (book table : List ℕ) (x : ℕ) : Type 0 where
  pub within : x ≤ length book
  pub size : length table ≡ 4096
  pub filled : (y n : ℕ) → y < x → n < 4096 → Hit book y n → get_or table n 0 ≡ entry_of book y

pub filling_start : (book table : List ℕ) → length table ≡ 4096 → Filling book table 0
filling_start book table size = record { within = omega arith; size = size; filled = λ y n l. absurd (omega arith) }

-- the next symbol takes no other's number
pub filling_turn : (book table table' : List ℕ) (x entry : ℕ) → one_symbol_each book ≡ true → x < length book → entry ≡ get_or book x 0
    → length table' ≡ length table → Entered table table' entry x → Filling book table x → Filling book table' (x + 1)
filling_turn book table table' x entry one l e size d v = record {
  within = omega arith;
  size = size ∙ v.size;
  filled =
      λ (y n : ℕ) (ly : y < x + 1) (ln : n < 4096) (h : Hit book y n).
      ⊎_elim
      (λ (q : y < x).
      now.others n ln (λ (k : Hit book x n). let z : x ≡ y = only book x y n (one_at book one n ln) l (omega arith) k h in omega arith)
      ∙ v.filled y n q ln h)
      (λ (q : x ≤ y).
      let z : x ≡ y = omega arith in
      subst (λ (w : ℕ). Hit book w n → get_or table' n 0 ≡ entry_of book w) z (now.mine n ln) h) (lt_or_le y x);
}
  where
    now : Entered table table' (get_or book x 0) x
    now = subst (λ (w : ℕ). Entered table table' w x) e d

pub filling_end : (book table : List ℕ) (x : ℕ) → Filling book table x → length book ≤ x → Agreed book table
filling_end book table x v l y n ly ln h = v.filled y n (omega arith) ln h
