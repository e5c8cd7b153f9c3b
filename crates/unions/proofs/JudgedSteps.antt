-- The judgement of a source, step by step. Assumes nothing.
use mathlib.Core.Path.{◌≡◌, refl, sym, ap, ap₂, ◌∙◌}
use mathlib.Core.Bool.{Bool, true, false, not}
use mathlib.Core.List.{List, []}
use Prim.Native.Nat.{ℕ, ◌^◌}
use borrow.Author.Tests.{eq-eqb, ne_eqb}
use lib.Dec.{eqb}
use Rattle.laws.specs.Choose.{choose}
use Rattle.refusals.specs.Outcome.{Outcome, accepted, refused, and_then}
use Rattle.refusals.specs.Told.{told}
use Rattle.refusals.specs.declared.Refusal.{Refusal}
use Rattle.numbers.specs.Calls.{outside}
use Rattle.numbers.specs.Numbers.{offset_at}
use Rattle.pair_lists.specs.Lists.{pairs_judged, judge_pairs_of}
use Rattle.matrices.specs.Matrix.{matrix_of, coupons, reserved}
use Rattle.matrices.specs.Source.{has_window, held, places_judged, source_judged}
use Rattle.unions.specs.Steps.{held_judged}
use Rattle.unions.proofs.Answered.{through}

-- the late 10, then 17
module _ (lg c : ℕ) (window ps : List ℕ) where
  abbrev m : List ℕ
  m = matrix_of (2 ^ lg) (held (2 ^ lg) c window ps)

  abbrev chain : Bool → Bool → Outcome
  chain a b = choose a (refused 10 67108863) (choose (not b) (refused 17 0) (accepted []))

  pub held_late : reserved lg m ≡ true → refused 10 67108863 ≡ held_judged lg c window ps
  unfolding held_judged
  held_late e = sym (ap (λ (a : Bool). chain a (eqb (coupons m) c)) e)

  pub held_wrong : reserved lg m ≡ false → (coupons m ≡ c → ⊥) → refused 17 0 ≡ held_judged lg c window ps
  unfolding held_judged
  held_wrong e n = sym (ap₂ chain e (ne_eqb (coupons m) c n))

  pub held_right : reserved lg m ≡ false → coupons m ≡ c → accepted [] ≡ held_judged lg c window ps
  unfolding held_judged
  held_right e q = sym (ap₂ chain e (eq-eqb (coupons m) c q))

  -- all of it
  pub source_chain : source_judged lg c window ps
      ≡ and_then (pairs_judged (2 ^ lg) ps) (and_then (places_judged (has_window (2 ^ lg) c) (offset_at (2 ^ lg) c) window ps) (held_judged lg c window ps))
  unfolding source_judged held_judged
  source_chain = refl

  -- the pairs are judged
  pub pairs_told : outside lg ≡ false → judge_pairs_of lg ps ≡ pairs_judged (2 ^ lg) ps
  unfolding judge_pairs_of
  pairs_told e = ap (λ (b : Bool). choose b (refused 1 0) (pairs_judged (2 ^ lg) ps)) e

  pub source_refused : (why : Refusal) → told why ≡ pairs_judged (2 ^ lg) ps → told why ≡ source_judged lg c window ps
  source_refused why e = through why _ e ∙ sym source_chain

  -- and what follows is left
  module _ (o : ℕ) (e : pairs_judged (2 ^ lg) ps ≡ accepted []) where
    pub source_wide : (x : Outcome) → has_window (2 ^ lg) c ≡ true → o ≡ offset_at (2 ^ lg) c → x ≡ and_then (places_judged true o window ps) (held_judged lg c window ps)
        → x ≡ source_judged lg c window ps
    source_wide x w q h =
        h
        ∙ sym
        (source_chain ∙ ap (λ (p : Outcome). and_then p (and_then (places_judged (has_window (2 ^ lg) c) (offset_at (2 ^ lg) c) window ps) (held_judged lg c window ps))) e
        ∙ ap₂ (λ (b : Bool) (n : ℕ). and_then (places_judged b n window ps) (held_judged lg c window ps)) w (sym q))

    pub source_listed : (x : Outcome) → has_window (2 ^ lg) c ≡ false → x ≡ held_judged lg c window ps → x ≡ source_judged lg c window ps
    source_listed x w h =
        h
        ∙ sym
        (source_chain ∙ ap (λ (p : Outcome). and_then p (and_then (places_judged (has_window (2 ^ lg) c) (offset_at (2 ^ lg) c) window ps) (held_judged lg c window ps))) e
        ∙ ap (λ (b : Bool). and_then (places_judged b (offset_at (2 ^ lg) c) window ps) (held_judged lg c window ps)) w)
