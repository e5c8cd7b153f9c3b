-- What the loops over the slots use, step by step. Assumes nothing.
use mathlib.Core.Path.{◌≡◌, refl, sym, ap, ◌∙◌}
use mathlib.Core.List.{List}
use Prim.Native.Nat.{ℕ, ◌+◌, ◌-◌, ◌≤◌, ◌<◌}
use native.Mathlib.Omega.{arith}
use lib.ListN.{get_or}
use Rattle.tables.specs.Slots.{empty, next, probe, items, total}
use Rattle.tables.proofs.Laws.{stops_same, stops_empty, stops_not, probe_stop, probe_go, probe_out, next_wrap, next_inner, items_full, items_empty}

-- ---- counting

pub items_none : (s : List ℕ) → 0 ≡ items s 0
unfolding total
items_none s = refl

pub items_here : (s : List ℕ) (i c : ℕ) → c ≡ items s i → (get_or s i 0 ≡ empty → ⊥) → c + 1 ≡ items s (i + 1)
items_here s i c e d = ap (λ (n : ℕ). n + 1) e ∙ sym (items_full s i d)

pub items_not_here : (s : List ℕ) (i c : ℕ) → c ≡ items s i → get_or s i 0 ≡ empty → c ≡ items s (i + 1)
items_not_here s i c e d = e ∙ sym (items_empty s i d)

pub ruleset countings = (items_none, items_here, items_not_here)

-- ---- a search that has passed so many slots

module _ (s : List ℕ) (n x from passed p : ℕ) (so_far : probe s n x n from ≡ probe s n x (n - passed) p) where
  pub found_same : passed < n → get_or s p 0 ≡ x → p ≡ probe s n x n from
  found_same h e = sym (so_far ∙ probe_stop s n x (n - passed) p (omega arith) (stops_same s x p e))

  pub found_empty : passed < n → get_or s p 0 ≡ empty → p ≡ probe s n x n from
  found_empty h e = sym (so_far ∙ probe_stop s n x (n - passed) p (omega arith) (stops_empty s x p e))

  pub goes_past : passed < n → (get_or s p 0 ≡ x → ⊥) → (get_or s p 0 ≡ empty → ⊥) → (q : ℕ) → q ≡ next n p → probe s n x n from ≡ probe s n x (n - (passed + 1)) q
  goes_past h d e q is =
      let less : n - passed - 1 ≡ n - (passed + 1) = omega arith in
      so_far ∙ probe_go s n x (n - passed) p (omega arith) (stops_not s x p d e) ∙ ap (λ (left : ℕ). probe s n x left (next n p)) less ∙ ap (probe s n x (n - (passed + 1))) (sym is)

  pub passed_all : n ≤ passed → p ≡ probe s n x n from
  passed_all h = sym (so_far ∙ probe_out s n x (n - passed) p (omega arith))

pub ruleset searches = (found_same, found_empty, goes_past, passed_all)

pub ruleset steppings = (next_wrap, next_inner)
