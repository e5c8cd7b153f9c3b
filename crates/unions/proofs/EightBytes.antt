-- The ones of bytes, counted eight at a time. Assumes nothing.
use mathlib.Core.Path.{◌≡◌, ap, ◌∙◌}
use mathlib.Core.List.{List}
use Prim.Native.Nat.{ℕ, ◌+◌, ◌-◌, ◌*◌, ◌%◌, ◌^◌, ◌≤◌, ◌<◌}
use native.Mathlib.Nat.{mul-mod_left}
use native.Mathlib.Omega.{arith}
use lib.Count.{ones, ones_cat}
use lib.ListN.{get_or}
use lib.Pow.{pow-add}
use Rattle.laws.specs.Below.{sum_below}

ones_four : (a b c d : ℕ) → a < 2 ^ 8 → b < 2 ^ 8 → c < 2 ^ 8 → ones (a + b * 256 + c * 65536 + d * 16777216) ≡ ones a + ones b + ones c + ones d
ones_four a b c d ha hb hc =
    let e : a + b * 256 + c * 65536 + d * 16777216 ≡ ((d * 2 ^ 8 + c) * 2 ^ 8 + b) * 2 ^ 8 + a = omega arith in
    ap ones e ∙ ones_cat 8 ((d * 2 ^ 8 + c) * 2 ^ 8 + b) a ha
    ∙ omega (arith, ones_cat 8 (d * 2 ^ 8 + c) b hb, ones_cat 8 d c hc)

-- eight bytes as one number, lowest first
module _ (w : List ℕ) (byte : (i : ℕ) → get_or w i 0 < 2 ^ 8) (i : ℕ) where
  abbrev at : ℕ → ℕ
  at j = get_or w (i + j) 0

  abbrev f : ℕ → ℕ
  f j = ones (get_or w (i + j) 0)

  eight : sum_below 8 f ≡ f 0 + f 1 + f 2 + f 3 + f 4 + f 5 + f 6 + f 7
  unfolding sum_below
  eight = omega arith

  pub ones_of_eight : ones (get_or w i 0 + at 1 * 256 + at 2 * 65536 + at 3 * 16777216 + at 4 * 4294967296 + at 5 * 1099511627776 + at 6 * 281474976710656 + at 7 * 72057594037927936) ≡ sum_below 8 f
  ones_of_eight =
      let low = get_or w i 0 + at 1 * 256 + at 2 * 65536 + at 3 * 16777216 in
      let high = at 4 + at 5 * 256 + at 6 * 65536 + at 7 * 16777216 in
      let z : i + 0 ≡ i = omega arith in
      let e : get_or w i 0 + at 1 * 256 + at 2 * 65536 + at 3 * 16777216 + at 4 * 4294967296 + at 5 * 1099511627776 + at 6 * 281474976710656 + at 7 * 72057594037927936 ≡ high * 2 ^ 32 + low = omega arith in
      let h : low < 2 ^ 32 = omega (arith, byte i, byte (i + 1), byte (i + 2), byte (i + 3)) in
      ap ones e ∙ ones_cat 32 high low h
      ∙ omega (
        arith,
        eight,
        ap (λ (j : ℕ). ones (get_or w j 0)) z,
        ones_four (get_or w i 0) (at 1) (at 2) (at 3) (byte i) (byte (i + 1)) (byte (i + 2)),
        ones_four (at 4) (at 5) (at 6) (at 7) (byte (i + 4)) (byte (i + 5)) (byte (i + 6)),
      )

-- a k of 16 or more is a multiple of eight
pub eights : (lg : ℕ) → 4 ≤ lg → 2 ^ lg % 8 ≡ 0
eights lg h =
    let e : lg ≡ lg - 3 + 3 = omega arith in
    ap (λ (x : ℕ). 2 ^ x % 8) e ∙ ap (λ (x : ℕ). x % 8) (pow-add 2 (lg - 3) 3) ∙ mul-mod_left (2 ^ (lg - 3)) 8
