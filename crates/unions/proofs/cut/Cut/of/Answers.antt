-- `unions::cut::Cut::of` meets its contract. Assumes nothing.
use mathlib.Core.Path.{sym, ap, ap₂, ◌∙◌}
use mathlib.Core.Bool.{Bool}
use Prim.Native.Nat.{ℕ, ◌%◌}
use lib.Bits.{bit_and, bit_xor}
use Rattle.matrices.specs.Parts.{surprise_word}
use Rattle.unions.proofs.Cutting.{cut_wide, cut_none}
use Rattle.unions.proofs.EightBytes.{eights}
use Rattle.unions.proofs.cut.Cut.of.Goals as goal

pub invariant_of-result : goal.invariant_of-result
invariant_of-result c = let s = c.args.shape in
    record {
      rows = c.requires;
      eights = ap (λ (n : ℕ). n % 8) (c.requires ∙ s.size.power) ∙ eights s.size.lg s.size.low;
      fits = λ r. (c.type_inv.matrix r).fits;
      word = λ w h.
          ap₂ (λ (full empty : ℕ). bit_xor (bit_and w (bit_xor full empty)) empty) c.surprises_of-full.ensures c.surprises_of-flipped.ensures
          ∙ cut_wide s.offset.column w h
          ∙ sym (ap (λ (b : Bool). surprise_word b s.offset.column w) (sym c.is_wide.ensures ∙ c.if-is_wide.true));
    }

pub invariant_of-result-2 : goal.invariant_of-result-2
invariant_of-result-2 c = let s = c.args.shape in
    record {
      rows = c.requires;
      eights = ap (λ (n : ℕ). n % 8) (c.requires ∙ s.size.power) ∙ eights s.size.lg s.size.low;
      fits = λ r. (c.type_inv.matrix r).fits;
      word = λ w h. cut_none s.offset.column w h ∙ sym (ap (λ (b : Bool). surprise_word b s.offset.column w) (sym c.is_wide.ensures ∙ c.if-is_wide.false));
    }
