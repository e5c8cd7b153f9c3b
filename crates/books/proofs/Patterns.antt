-- The numbers below 64 with given low bits, as a word that is doubled. Assumes nothing.
use mathlib.Core.Path.{◌≡◌, refl, sym, ap, ap₂, ◌∙◌}
use mathlib.Core.Logic.{⊎_elim}
use mathlib.Core.Bool.{Bool, ◌&&◌, ◌||◌}
use Prim.Native.Nat.{ℕ, ◌+◌, ◌-◌, ◌*◌, ◌%◌, ◌^◌, ◌≤◌, ◌<◌}
use native.Mathlib.Nat.{mod-eq_of_lt}
use native.Mathlib.Omega.{arith}
use borrow.Author.Tests.{lt-ltb, le-ltb, le-leb, ne_eqb}
use lib.Bits.{bit_or}
use lib.Dec.{eqb, ltb}
use lib.Pow.{pow_mono}
use Rattle.laws.specs.Columns.{has}
use Rattle.laws.proofs.Orders.{lt_or_le}
use Rattle.laws.proofs.Columns.{has_or, has_one, has_low, has_shl, has_shl_below}
use Rattle.laws.proofs.Powers.{below_top, twice_half}
use Rattle.laws.proofs.Truths.{or_false}

-- the low bits of c
abbrev low : ℕ → ℕ → ℕ → Bool
low len codeword c = eqb (c % 2 ^ len) codeword

pub record Pattern (len codeword word bits : ℕ) : Type 0 where
  pub from : len ≤ bits
  pub to : bits ≤ 6
  pub columns : (c : ℕ) → c < 64 → has word c ≡ (ltb c (2 ^ bits) && eqb (c % 2 ^ len) codeword)

pub pattern_start : (len codeword : ℕ) → len ≤ 6 → codeword < 2 ^ len → Pattern len codeword (2 ^ codeword) len
pattern_start len codeword l h = record {
  from = omega arith;
  to = l;
  columns =
      λ (c : ℕ) (lc : c < 64).
      has_one codeword c
      ∙ ⊎_elim
      (λ (q : c < 2 ^ len). sym (ap₂ ◌&&◌ (lt-ltb c (2 ^ len) q) (ap (λ (m : ℕ). eqb m codeword) (mod-eq_of_lt q))))
      (λ (q : 2 ^ len ≤ c).
      ne_eqb c codeword (λ (e : c ≡ codeword). omega arith) ∙ sym (ap (λ (b : Bool). b && low len codeword c) (le-ltb c (2 ^ len) q))) (lt_or_le c (2 ^ len));
}

module _ (len codeword word bits : ℕ) (p : Pattern len codeword word bits) (more : bits < 6) where
  abbrev step : ℕ
  step = 2 ^ bits

  abbrev next : ℕ
  next = bit_or word (word * 2 ^ step % 2 ^ 64)

  columns_of : (c : ℕ) → c < 64 → has next c ≡ (has word c || has (word * 2 ^ step) c)
  columns_of c l = has_or word (word * 2 ^ step % 2 ^ 64) c ∙ ap (λ (b : Bool). has word c || b) (has_low (word * 2 ^ step) 64 c l)

  twice : 2 ^ (bits + 1) ≡ step * 2
  twice = sym (twice_half bits step refl)

  first : (c : ℕ) → c < 64 → c < step → has next c ≡ (ltb c (2 ^ (bits + 1)) && low len codeword c)
  first c l q =
      columns_of c l
      ∙ ap₂ ◌||◌ (p.columns c l ∙ ap (λ (b : Bool). b && low len codeword c) (lt-ltb c step q)) (has_shl_below word step c q)
      ∙ or_false (low len codeword c)
      ∙ sym (ap (λ (b : Bool). b && low len codeword c) (lt-ltb c (2 ^ (bits + 1)) (let k : c < 2 ^ (bits + 1) = omega (arith, twice) in k)))

  second : (c : ℕ) → c < 64 → step ≤ c → has next c ≡ (ltb c (2 ^ (bits + 1)) && low len codeword c)
  second c l q =
      columns_of c l
      ∙ ap₂ ◌||◌ (p.columns c l ∙ ap (λ (b : Bool). b && low len codeword c) (le-ltb c step q))
      (has_shl word step c ∙ ap (λ (b : Bool). b && has word (c - step)) (le-leb step c q) ∙ p.columns (c - step) (omega arith))
      ∙ ap₂ ◌&&◌ bound (ap (λ (m : ℕ). eqb m codeword) same)
    where
      same : (c - step) % 2 ^ len ≡ c % 2 ^ len
      same = sym (below_top len bits (c - step) p.from) ∙ ap (λ (m : ℕ). m % 2 ^ len) (let e : step + (c - step) ≡ c = omega arith in e)

      bound : ltb (c - step) step ≡ ltb c (2 ^ (bits + 1))
      bound =
          ⊎_elim
          (λ (k : c < 2 ^ (bits + 1)). lt-ltb (c - step) step (omega (arith, twice)) ∙ sym (lt-ltb c (2 ^ (bits + 1)) k))
          (λ (k : 2 ^ (bits + 1) ≤ c). le-ltb (c - step) step (omega (arith, twice)) ∙ sym (le-ltb c (2 ^ (bits + 1)) k)) (lt_or_le c (2 ^ (bits + 1)))

  pub pattern_turn : Pattern len codeword next (bits + 1)
  pattern_turn = record {
    from = omega (arith, p.from);
    to = omega arith;
    columns = λ (c : ℕ) (l : c < 64). ⊎_elim (first c l) (second c l) (lt_or_le c step);
  }

pub pattern_end : (len codeword word bits : ℕ) → Pattern len codeword word bits → 6 ≤ bits → (c : ℕ) → c < 64 → has word c ≡ eqb (c % 2 ^ len) codeword
pattern_end len codeword word bits p l c lc =
    p.columns c lc
    ∙ ap (λ (b : Bool). b && low len codeword c) (lt-ltb c (2 ^ bits) (let k : c < 2 ^ bits = omega (arith, pow_mono {i = 6} {j = bits} l) in k))
