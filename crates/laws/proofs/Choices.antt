-- A choice by a test of numbers whose outcome is known: what the search needs to follow a chain of choices down a branch of the code. Assumes nothing.
use mathlib.Core.Path.{◌≡◌, refl, ap}
use mathlib.Core.Bool.{Bool, true, false, not, ◌||◌}
use Prim.Native.Nat.{ℕ, ◌≤◌, ◌<◌}
use borrow.Author.Tests.{lt-ltb, le-ltb, eq-eqb, ne_eqb}
use Rattle.std.specs.Prelude.{◌≢◌, ltb, eqb}
use Rattle.laws.specs.Choose.{choose}

module _ {A : Type 0} (x y : A) where
  pub choose_lt : (a b : ℕ) → a < b → choose (ltb a b) x y ≡ x
  choose_lt a b below = ap (λ (t : Bool). choose t x y) (lt-ltb a b below)

  pub choose_ge : (a b : ℕ) → b ≤ a → choose (ltb a b) x y ≡ y
  choose_ge a b above = ap (λ (t : Bool). choose t x y) (le-ltb a b above)

  pub choose_eq : (a b : ℕ) → a ≡ b → choose (eqb a b) x y ≡ x
  choose_eq a b same = ap (λ (t : Bool). choose t x y) (eq-eqb a b same)

  pub choose_ne : (a b : ℕ) → a ≢ b → choose (eqb a b) x y ≡ y
  choose_ne a b other = ap (λ (t : Bool). choose t x y) (ne_eqb a b other)

  pub choose_true : (t : Bool) → t ≡ true → choose t x y ≡ x
  choose_true t holds = ap (λ (u : Bool). choose u x y) holds

  pub choose_or : (p q : Bool) → choose (p || q) x y ≡ choose p x (choose q x y)
  choose_or true q = refl
  choose_or false q = refl

  pub choose_not : (p : Bool) → choose (not p) x y ≡ choose p y x
  choose_not true = refl
  choose_not false = refl

pub ruleset choices = (choose_lt, choose_ge, choose_eq, choose_ne, choose_true, choose_or, choose_not)
