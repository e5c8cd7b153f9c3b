-- What an accepted split, expansion, merge or new union found. Assumes nothing.
use mathlib.Core.Path.{◌≡◌, refl, sym, ap, ap₂, ◌∙◌}
use mathlib.Core.Bool.{Bool, true, false, not, ◌||◌}
use mathlib.Core.List.{List, [], ◌∷◌}
use Prim.Native.Nat.{ℕ, ◌*◌, ◌^◌, ◌≤◌}
use borrow.Author.Tests.{le-ltb, ltb-false, eq-eqb, eqb-true, not-false}
use lib.Dec.{eqb, ltb}
use lib.ListN.{length}
use Rattle.laws.specs.Choose.{choose}
use Rattle.laws.proofs.Truths.{neither}
use Rattle.refusals.specs.Outcome.{Outcome, accepted, refused, and_then}
use Rattle.refusals.proofs.Refusing.{took, both_accepted}
use Rattle.numbers.specs.Calls.{outside}
use Rattle.numbers.specs.Numbers.{flavor_at}
use Rattle.numbers.specs.Told.{flavor_number}
use Rattle.matrices.specs.Calls.{wrong_rows, offset_in, window_in, listed, split_of, expand_of, lawful_union, new_union_of, merge_judged}
use Rattle.matrices.specs.Matrix.{coupons, reserved}
use Rattle.matrices.specs.Parts.{first_column}
use Rattle.matrices.specs.Source.{has_window, wrong_window, source_judged}
use Rattle.matrices.proofs.Accepting.{Accepted, source_accepted, source_given}

-- ---- what an accepted split found

pub record Split (lg : ℕ) (m window out : List ℕ) : Type 0 where
  pub inside : outside lg ≡ false
  pub rows : length m ≡ 2 ^ lg
  pub bytes : length window ≡ 2 ^ lg
  pub clear : reserved lg m ≡ false
  pub room : length (listed lg m) ≤ length out

module _ (lg : ℕ) where
  -- a lent part that is not of wrong length
  right : (l : List ℕ) → wrong_rows lg l ≡ false → length l ≡ 2 ^ lg
  right l e = eqb-true (length l) (2 ^ lg) (not-false (eqb (length l) (2 ^ lg)) e)

  -- and one of the right length
  pub right_rows : (l : List ℕ) → length l ≡ 2 ^ lg → wrong_rows lg l ≡ false
  right_rows l e = ap not (eq-eqb (length l) (2 ^ lg) e)

  -- an lg_k in 4..26
  pub inside_least : outside lg ≡ false → 4 ≤ lg
  inside_least e = ltb-false lg 4 (neither (ltb lg 4) (ltb 26 lg) e).0

  pub inside_most : outside lg ≡ false → lg ≤ 26
  inside_most e = ltb-false 26 lg (neither (ltb lg 4) (ltb 26 lg) e).1

module _ (lg : ℕ) (m window out : List ℕ) where
  -- an accepted split passed every test
  pub split_accepted : (values : List ℕ) → split_of lg m window out ≡ accepted values → Split lg m window out
  unfolding split_of
  split_accepted values e =
      let a = took (outside lg) _ 1 0 values e in
      let b = took (wrong_rows lg m || wrong_rows lg window) _ 2 0 values a.1 in
      let d = took (reserved lg m) _ 10 67108863 values b.1 in
      let f = took (ltb (length out) (length (listed lg m))) _ 5 0 values d.1 in
      let g = neither (wrong_rows lg m) (wrong_rows lg window) b.0 in
      record { inside = a.0; rows = right lg m g.0; bytes = right lg window g.1; clear = d.0; room = ltb-false (length out) (length (listed lg m)) f.0 }

  -- and where every test passes, this is its answer
  pub split_given : Split lg m window out
      → split_of lg m window out
      ≡ accepted (coupons m ∷ flavor_number (flavor_at (2 ^ lg) (coupons m)) ∷ offset_in lg m ∷ first_column (window_in lg m) (offset_in lg m) m ∷ length (listed lg m) ∷ [])
  unfolding split_of
  split_given s =
      rw (s.inside, right_rows lg m s.rows, right_rows lg window s.bytes, s.clear, le-ltb (length out) (length (listed lg m)) s.room) refl

-- ---- what an accepted expansion found

pub record Expanded (lg c : ℕ) (window ps m : List ℕ) : Type 0 where
  pub inside : outside lg ≡ false
  pub most : c ≤ 64 * 2 ^ lg
  pub rows : length m ≡ 2 ^ lg
  pub bytes : length window ≡ choose (has_window (2 ^ lg) c) (2 ^ lg) 0
  pub source : Accepted lg c window ps

module _ (lg c : ℕ) (window ps m : List ℕ) where
  -- an accepted expansion passed every test
  pub expand_accepted : (values : List ℕ) → expand_of lg c window ps m ≡ accepted values → Expanded lg c window ps m
  unfolding expand_of
  expand_accepted values e =
      let n = choose (has_window (2 ^ lg) c) (2 ^ lg) 0 in
      let a = took (outside lg) _ 1 0 values e in
      let b = took (ltb (64 * 2 ^ lg) c) _ 17 0 values a.1 in
      let d = took (wrong_rows lg m || wrong_window (2 ^ lg) c window) _ 2 0 values b.1 in
      let g = neither (wrong_rows lg m) (wrong_window (2 ^ lg) c window) d.0 in
      record {
        inside = a.0;
        most = ltb-false (64 * 2 ^ lg) c b.0;
        rows = right lg m g.0;
        bytes = eqb-true (length window) n (not-false (eqb (length window) n) g.1);
        source = source_accepted lg c window ps values d.1;
      }

  -- and where every test passes it is accepted
  pub expand_given : Expanded lg c window ps m → expand_of lg c window ps m ≡ accepted []
  unfolding expand_of
  expand_given x =
      let n = choose (has_window (2 ^ lg) c) (2 ^ lg) 0 in
      let w : wrong_window (2 ^ lg) c window ≡ false = ap not (eq-eqb (length window) n x.bytes) in
      ap (λ (t : Bool). choose t (refused 1 0) rest) x.inside
      ∙ ap (λ (t : Bool). choose t (refused 17 0) (choose (wrong_rows lg m || wrong_window (2 ^ lg) c window) (refused 2 0) (source_judged lg c window ps))) (le-ltb (64 * 2 ^ lg) c x.most)
      ∙ ap₂ (λ (t u : Bool). choose (t || u) (refused 2 0) (source_judged lg c window ps)) (right_rows lg m x.rows) w
      ∙ source_given lg c window ps x.source
    where
      rest : Outcome
      rest = choose (ltb (64 * 2 ^ lg) c) (refused 17 0) (choose (wrong_rows lg m || wrong_window (2 ^ lg) c window) (refused 2 0) (source_judged lg c window ps))

-- ---- what an accepted merge found

pub record Merged (lg present seed : ℕ) (m : List ℕ) (from other c : ℕ) (window ps : List ℕ) : Type 0 where
  pub inside : outside from ≡ false
  pub configured : outside lg ≡ false
  pub most : c ≤ 64 * 2 ^ from
  pub rows : length m ≡ 2 ^ lg
  pub bytes : length window ≡ choose (has_window (2 ^ from) c) (2 ^ from) 0
  pub lawful : lawful_union lg present m ≡ true
  pub source : Accepted from c window ps
  pub seeds : seed ≡ other

-- an accepted merge passed every test
pub merge_accepted : (lg present seed : ℕ) (m : List ℕ) (from other c : ℕ) (window ps values : List ℕ)
    → merge_judged lg present seed m from other c window ps ≡ accepted values → Merged lg present seed m from other c window ps
unfolding merge_judged
merge_accepted lg present seed m from other c window ps values e =
    let n = choose (has_window (2 ^ from) c) (2 ^ from) 0 in
    let a = took (outside from || outside lg) _ 1 0 values e in
    let b = took (ltb (64 * 2 ^ from) c) _ 17 0 values a.1 in
    let d = took (wrong_rows lg m || wrong_window (2 ^ from) c window) _ 2 0 values b.1 in
    let f = took (not (lawful_union lg present m)) _ 15 0 values d.1 in
    let g = both_accepted (source_judged from c window ps) _ values f.1 in
    let h = took (not (eqb seed other)) _ 16 0 values g.1 in
    let s = neither (outside from) (outside lg) a.0 in
    let t = neither (wrong_rows lg m) (wrong_window (2 ^ from) c window) d.0 in
    record {
      inside = s.0;
      configured = s.1;
      most = ltb-false (64 * 2 ^ from) c b.0;
      rows = right lg m t.0;
      bytes = eqb-true (length window) n (not-false (eqb (length window) n) t.1);
      lawful = not-false (lawful_union lg present m) f.0;
      source = source_accepted from c window ps g.0.0 g.0.1;
      seeds = eqb-true seed other (not-false (eqb seed other) h.0);
    }

-- a merge judges its source alike, whatever a lawful union holds
pub merge_same : (lg present seed : ℕ) (m : List ℕ) (present' : ℕ) (m' : List ℕ) (from other c : ℕ) (window ps : List ℕ) → length m ≡ 2 ^ lg → length m' ≡ 2 ^ lg
    → lawful_union lg present m ≡ true → lawful_union lg present' m' ≡ true
    → merge_judged lg present seed m from other c window ps ≡ merge_judged lg present' seed m' from other c window ps
unfolding merge_judged
merge_same lg present seed m present' m' from other c window ps n n' l l' =
    ap₂
    (λ (t u : Bool).
    choose (outside from || outside lg) (refused 1 0)
    (choose (ltb (64 * 2 ^ from) c) (refused 17 0)
    (choose (t || wrong_window (2 ^ from) c window) (refused 2 0)
    (choose (not u) (refused 15 0) (and_then (source_judged from c window ps) (choose (not (eqb seed other)) (refused 16 0) (accepted [])))))))
    (right_rows lg m n ∙ sym (right_rows lg m' n')) (l ∙ sym l')

-- ---- and an accepted new union

-- it passed both tests
pub new_accepted : (lg seed : ℕ) (m values : List ℕ) → new_union_of lg seed m ≡ accepted values → (outside lg ≡ false) × (length m ≡ 2 ^ lg)
unfolding new_union_of
new_accepted lg seed m values e =
    let a = took (outside lg) _ 1 0 values e in
    let b = took (wrong_rows lg m) _ 2 0 values a.1 in
    (a.0, right lg m b.0)
