-- The answers of a pick, from its tests. Assumes nothing.
use mathlib.Core.Path.{◌≡◌, sym, ap, ap₂, ◌∙◌}
use mathlib.Core.Bool.{not}
use mathlib.Core.List.{List, [], ◌∷◌}
use Prim.Native.Nat.{ℕ, ◌+◌, ◌-◌, ◌*◌, ◌≤◌, ◌<◌}
use native.Mathlib.Omega.{arith}
use borrow.Author.Tests.{lt-ltb, le-ltb, eq-eqb, ne_eqb, eqb-true, ltb-false, not-false}
use lib.Dec.{eqb, ltb}
use lib.ListN.{length, take, drop}
use Rattle.laws.specs.Choose.{choose}
use Rattle.refusals.specs.Outcome.{Outcome, accepted, refused, if_accepted}
use Rattle.refusals.specs.Told.{told}
use Rattle.refusals.specs.declared.Refusal.{Refusal}
use Rattle.refusals.proofs.Refusing.{kept, took}
use Rattle.books.specs.Calls.{pick_of, picked}

module _ (set : List ℕ) (phase : ℕ) where
  pub wrong_length : (length set ≡ 5632 → ⊥) → pick_of set phase ≡ refused 2 0
  unfolding pick_of
  wrong_length h = simp (ne_eqb (length set) 5632 h)

  pub no_phase : length set ≡ 5632 → 21 < phase → pick_of set phase ≡ refused 3 0
  unfolding pick_of
  no_phase e l = simp (eq-eqb (length set) 5632 e, lt-ltb 21 phase l)

  pub picks : length set ≡ 5632 → phase ≤ 21 → pick_of set phase ≡ accepted (phase * 256 ∷ 256 ∷ [])
  unfolding pick_of
  picks e l = simp (eq-eqb (length set) 5632 e, le-ltb 21 phase l)

  -- what an accepted pick says
  pub picked_at : (start : ℕ) → accepted (start ∷ 256 ∷ []) ≡ pick_of set phase → (length set ≡ 5632) × (phase ≤ 21) × (start ≡ phase * 256)
  unfolding pick_of
  picked_at start e =
      let t = took (not (eqb (length set) 5632)) (choose (ltb 21 phase) (refused 3 0) (accepted (phase * 256 ∷ 256 ∷ []))) 2 0 (start ∷ 256 ∷ []) (sym e) in
      let u = took (ltb 21 phase) (accepted (phase * 256 ∷ 256 ∷ [])) 3 0 (start ∷ 256 ∷ []) t.1 in
      (eqb-true (length set) 5632 (not-false (eqb (length set) 5632) t.0), ltb-false 21 phase u.0, cc u.1)

  -- the part that is handed back
  pub handed : (start : ℕ) → accepted (start ∷ 256 ∷ []) ≡ pick_of set phase → take (start + 256 - start) (drop start set) ≡ picked set phase
  handed start e =
      ap₂ (λ (n m : ℕ). take n (drop m set)) (let q : start + 256 - start ≡ 256 = omega arith in q) (picked_at start e).2
      ∙ ap (λ (o : Outcome). if_accepted o (take 256 (drop (phase * 256) set)) []) e

  pub nothing : (why : Refusal) → told why ≡ pick_of set phase → [] ≡ picked set phase
  nothing why e =
      sym (kept why (take 256 (drop (phase * 256) set)) []) ∙ ap (λ (o : Outcome). if_accepted o (take 256 (drop (phase * 256) set)) []) e
