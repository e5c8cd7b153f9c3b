-- What a look finds, by cases: a field of bits, a code, a row step. Assumes nothing.
use mathlib.Core.Path.{◌≡◌, refl, sym, ap, ap₂, ◌∙◌, subst}
use mathlib.Core.List.{List}
use Prim.Native.Nat.{ℕ, ◌+◌, ◌*◌, ◌/◌, ◌%◌, ◌^◌, ◌≤◌, ◌<◌}
use native.Mathlib.Nat.{lt_of_lt_of_le}
use native.Mathlib.Omega.{arith}
use borrow.Author.Tests.{le-leb, lt-leb}
use lib.ListN.{get_or}
use lib.Pow.{shl_lt, shl_exact, pow_mono}
use Rattle.books.specs.Table.{decoded}
use Rattle.streams.specs.Stream.{bits_at}
use Rattle.streams.specs.Looks.{Looked, found, cut, then_look, field_at, code_at, zeros_at, row_step_at}
use Rattle.compression.specs.Reading.{Holds}
use Rattle.streams.proofs.Stream.{bits_at_lt}

pub field_cut : (n end count at p : ℕ) → end < at + count → p ≡ at → field_at n end count at ≡ cut p
field_cut n end count at p h e = rw (lt-leb (at + count) end h) (ap cut (sym e))

pub field_found : (n end count at v q : ℕ) → at + count ≤ end → v ≡ bits_at n at count → q ≡ at + count → field_at n end count at ≡ found v q
field_found n end count at v q h ev eq = rw (le-leb (at + count) end h) (ap₂ found (sym ev) (sym eq))

module _ (n end : ℕ) (book : List ℕ) (at : ℕ) where
  abbrev symbol_of : ℕ → ℕ → Looked
  symbol_of look next = found (decoded book look % 256) (at + decoded book look / 256)

  -- by an entry of the table
  pub code_found : (table : List ℕ) → Holds book table → (x entry v q : ℕ) → at + 12 ≤ end → x ≡ bits_at n at 12 → entry ≡ get_or table x 0 → v ≡ entry % 256
      → q ≡ at + entry / 256 → code_at n end book at ≡ found v q
  code_found table holds x entry v q h ex ee ev eq =
      let l : x < 4096 = subst (λ (y : ℕ). y < 4096) (sym ex) (bits_at_lt n at 12) in
      let e : decoded book x ≡ entry = sym (ee ∙ holds x l) in
      ap (λ (l : Looked). then_look l symbol_of) (field_found n end 12 at x (at + 12) h ex refl)
      ∙ ap₂ found (ap (λ (y : ℕ). y % 256) e ∙ sym ev) (ap (λ (y : ℕ). at + y / 256) e ∙ sym eq)

-- the row step at 64 bits
pub row_exact : (z b : ℕ) → z < 2 ^ 34 → b ≤ 26 → (z * 2 ^ b) % 2 ^ 64 ≡ z * 2 ^ b
row_exact z b h l = shl_exact 34 b 64 h (omega arith)

pub row_fits : (z b low : ℕ) → z < 2 ^ 34 → b ≤ 26 → low < 2 ^ b → z * 2 ^ b + low < 2 ^ 64
row_fits z b low h l hl =
    let p : z * 2 ^ b < 2 ^ 60 = lt_of_lt_of_le (shl_lt 34 b h) (pow_mono {i = 34 + b} {j = 60} (omega arith)) in
    let q : low < 2 ^ 26 = lt_of_lt_of_le hl (pow_mono {i = b} {j = 26} l) in
    omega arith

module _ (n end b at : ℕ) where
  abbrev lows_after : ℕ → ℕ → Looked
  lows_after z q = then_look (field_at n end b q) (λ low p. found (z * 2 ^ b + low) p)

  pub row_found : (z q low p v : ℕ) → zeros_at n end at ≡ found z q → field_at n end b q ≡ found low p → v ≡ z * 2 ^ b + low → row_step_at n end b at ≡ found v p
  row_found z q low p v e f ev =
      ap (λ (l : Looked). then_look l lows_after) e ∙ ap (λ (l : Looked). then_look l (λ low p. found (z * 2 ^ b + low) p)) f ∙ ap (λ (x : ℕ). found x p) (sym ev)
