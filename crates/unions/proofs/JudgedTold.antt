-- A source that is judged, and the plan of a merge: what is said of the numbers and lists that they were made of. Assumes nothing.
use mathlib.Core.Path.{◌≡◌, sym, ap, ap₂, ◌∙◌, subst}
use mathlib.Core.Bool.{Bool, true}
use mathlib.Core.List.{List, []}
use Prim.Native.Nat.{ℕ, ◌/◌, ◌^◌, ◌≤◌, ◌<◌, min}
use native.Mathlib.Omega.{arith}
use lib.ListN.{length, get_or}
use lib.Pow.{pow_mono}
use Rattle.refusals.specs.Outcome.{Outcome, accepted, if_accepted}
use Rattle.matrices.specs.Calls.{union_of, expand_of, expanded_matrix, merge_judged, merge_of, merged_matrix}
use Rattle.matrices.specs.Matrix.{matrix_of}
use Rattle.matrices.specs.Parts.{windowed}
use Rattle.matrices.specs.Shapes.{Sorted}
use Rattle.matrices.specs.Source.{source_set, held, columns_judged, source_judged}
use Rattle.matrices.proofs.Accepting.{Accepted, source_accepted}
use Rattle.matrices.proofs.Answered.{Expanded, expand_accepted, Merged, merge_accepted}
use Rattle.matrices.proofs.Judged.{judged_sorted, judged_row}
use Rattle.matrices.proofs.Lawful.{Lawful, lawful_is}
use Rattle.unions.specs.Steps.{JudgedOf, source_merged, lowered}
use Rattle.unions.specs.declared.judged.Judged.{Judged}
use Rattle.unions.specs.declared.parts.Parts.{Parts}
use Rattle.unions.specs.declared.planning.Plan.{Plan}
use Rattle.unions.proofs.MergeTold.{merge_taken}
use Rattle.unions.proofs.ShapeTold.{window_is, offset_is}
use Rattle.unions.proofs.SourceTaken.{source_taken, window_short}

-- ---- parts that are judged

module _ (p : Parts) (e : source_judged p.shape.size.lg p.shape.coupons p.window.now p.pairs.now ≡ accepted []) where
  passed : Accepted p.shape.size.lg p.shape.coupons p.window.now p.pairs.now
  passed = source_accepted p.shape.size.lg p.shape.coupons p.window.now p.pairs.now [] e

  pub rises : Sorted p.pairs.now
  rises = judged_sorted (2 ^ p.shape.size.lg) p.pairs.now passed.pairs

  pub rows_below : (i : ℕ) → i < length p.pairs.now → get_or p.pairs.now i 0 / 64 < p.shape.size.k
  rows_below i h = omega (arith, judged_row (2 ^ p.shape.size.lg) p.pairs.now passed.pairs i h, p.shape.size.power)

  pub stands_apart : windowed p.shape.flavor ≡ true → columns_judged p.shape.offset.column 0 p.pairs.now ≡ accepted []
  stands_apart w = ap (λ (o : ℕ). columns_judged o 0 p.pairs.now) (offset_is p.shape) ∙ (passed.places (sym (window_is p.shape) ∙ w)).1

-- what holds of a source's lg_k, coupons, window and pairs holds of the judged source made of them, and the other way round
module _ (lg c : ℕ) (window ps : List ℕ) (p : Judged) (g : JudgedOf lg c window ps p) (F : ℕ → ℕ → List ℕ → List ℕ → Type 0) where
  pub to_judged : F lg c window ps → F p.shape.size.lg p.shape.coupons p.window.now p.pairs.now
  to_judged x =
      subst (λ (l : List ℕ). F p.shape.size.lg p.shape.coupons p.window.now l) (sym g.2)
      (subst (λ (l : List ℕ). F p.shape.size.lg p.shape.coupons l ps) (sym g.1)
      (subst (λ (n : ℕ). F p.shape.size.lg n window ps) (sym g.0.1) (subst (λ (n : ℕ). F n c window ps) (sym g.0.0) x)))

  pub of_judged : F p.shape.size.lg p.shape.coupons p.window.now p.pairs.now → F lg c window ps
  of_judged x =
      subst (λ (l : List ℕ). F lg c window l) g.2
      (subst (λ (l : List ℕ). F lg c l p.pairs.now) g.1
      (subst (λ (n : ℕ). F lg n p.window.now p.pairs.now) g.0.1 (subst (λ (n : ℕ). F n p.shape.coupons p.window.now p.pairs.now) g.0.0 x)))

-- a window is no longer than the largest k
pub short_window : (p : Judged) → length p.window.now ≤ 67108864
short_window p = window_short (length p.window.now) p.shape.size.k (windowed p.shape.flavor) p.long p.shape.size.most

-- ---- an expansion

module _ (p : Judged) (m : List ℕ) (e : accepted [] ≡ expand_of p.shape.size.lg p.shape.coupons p.window.now p.pairs.now m) where
  found : Expanded p.shape.size.lg p.shape.coupons p.window.now p.pairs.now m
  found = expand_accepted p.shape.size.lg p.shape.coupons p.window.now p.pairs.now m [] (sym e)

  pub fitting : length m ≡ p.shape.size.k
  fitting = found.rows ∙ sym p.shape.size.power

  pub filled : (out : List ℕ) → out ≡ matrix_of (length m) (source_set (windowed p.shape.flavor) p.shape.offset.column p.window.now p.pairs.now)
      → (accepted [] ≡ expand_of p.shape.size.lg p.shape.coupons p.window.now p.pairs.now m) × (out ≡ expanded_matrix p.shape.size.lg p.shape.coupons p.window.now p.pairs.now m)
  unfolding held
  filled out is =
      let k = 2 ^ p.shape.size.lg in
      let set = matrix_of k (held k p.shape.coupons p.window.now p.pairs.now) in (
        e,
        is
            ∙ ap₂ (λ (n : ℕ) (f : ℕ → ℕ → Bool). matrix_of n f) found.rows (ap₂ (λ (b : Bool) (o : ℕ). source_set b o p.window.now p.pairs.now) (window_is p.shape) (offset_is p.shape))
            ∙ ap (λ (o : Outcome). if_accepted o set m) e,
      )

-- ---- a merge

module _ (lg seed other : ℕ) (m : List ℕ) (q : Plan) (e : accepted [] ≡ merge_judged lg q.present.lg seed m q.source.shape.size.lg other q.source.shape.coupons q.source.window.now q.source.pairs.now) where
  abbrev p : Judged
  p = q.source

  joined : Merged lg q.present.lg seed m p.shape.size.lg other p.shape.coupons p.window.now p.pairs.now
  joined = merge_accepted lg q.present.lg seed m p.shape.size.lg other p.shape.coupons p.window.now p.pairs.now [] (sym e)

  lawful : Lawful lg q.present.lg m
  lawful = lawful_is lg q.present.lg m joined.lawful

  pub joining : (q.present.k ≤ length m) × ((r : ℕ) → q.present.k ≤ r → get_or m r 0 ≡ 0)
  joining = (
    omega (arith, joined.rows, q.present.power, pow_mono lawful.most),
    λ r h. lawful.rest r (omega (arith, h, q.present.power)),
  )

  pub taken : (p.shape.coupons ≡ 0 → ⊥) → (k : ℕ) (out : List ℕ) → k ≡ min q.present.lg p.shape.size.lg
      → out ≡ source_merged k (windowed p.shape.flavor) p.shape.offset.column (lowered q.present.lg p.shape.size.lg m) p.window.now p.pairs.now
      → (union_of lg k seed ≡ merge_of lg q.present.lg seed m p.shape.size.lg other p.shape.coupons p.window.now p.pairs.now)
      × (out ≡ merged_matrix lg q.present.lg seed m p.shape.size.lg other p.shape.coupons p.window.now p.pairs.now)
  taken some k out ek eo =
      let s = p.shape in
      merge_taken lg q.present.lg seed m s.size.lg other s.coupons p.window.now p.pairs.now (sym e) some k out ek
      (eo
      ∙ ap₂ (λ (n : ℕ) (b : Bool). source_merged n b s.offset.column (lowered q.present.lg s.size.lg m) p.window.now p.pairs.now) ek (window_is s)
      ∙ source_taken s.size.lg s.coupons p.window.now p.pairs.now s.offset.column (offset_is s) joined.source.pairs joined.bytes q.present.lg m lawful.rest)
