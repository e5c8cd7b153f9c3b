-- Laws of one byte more, and of byte after byte. Assumes nothing.
use mathlib.Core.Path.{◌≡◌, sym, ap, ◌∙◌}
use mathlib.Core.Bool.{false, ◌&&◌}
use mathlib.Core.List.{List, []}
use Prim.Native.Nat.{ℕ, ◌+◌, ◌-◌, ◌≤◌, ◌<◌}
use native.Mathlib.Numerals.{add-one}
use native.Mathlib.Omega.{arith}
use lib.Dec.{leb}
use lib.ListN.{length, get_or, take, drop, length-take}
use lib.Seq.{drop-cons}
use borrow.Author.Tests.{leb-false, le-leb}
use Rattle.reporting.specs.Machine.{Progress, Held, held, step_of, taken_of}

-- where the lines are not all read, the pair's place is below their number
pub undone : (lines count : ℕ) → (leb 2 lines && leb count (lines - 2)) ≡ false → 2 ≤ lines → lines - 2 < count
undone lines count e h = leb-false count (lines - 2) (rw (le-leb 2 lines h) at e)

-- what is held after some bytes, and what the rest makes of it
pub taken_turn : (part : List ℕ) (i : ℕ) (p q : Progress) (pairs after : List ℕ) (whole : Held) → i < length part
    → taken_of p (drop i part) pairs ≡ whole → held q after ≡ step_of p (get_or part i 0) pairs → taken_of q (drop (i + 1) part) after ≡ whole
unfolding taken_of
taken_turn part i p q pairs after whole l so_far e =
    ap (λ (h : Held). taken_of h.progress (drop (i + 1) part) h.pairs) e
    ∙ ap (λ (n : ℕ). taken_of (step_of p (get_or part i 0) pairs).progress (drop n part) (step_of p (get_or part i 0) pairs).pairs) (add-one i)
    ∙ sym (ap (λ (s : List ℕ). taken_of p s pairs) (drop-cons part i 0 l)) ∙ so_far

pub taken_end : (part : List ℕ) (i : ℕ) (p : Progress) (pairs : List ℕ) (whole : Held) → drop i part ≡ [] → taken_of p (drop i part) pairs ≡ whole → held p pairs ≡ whole
unfolding taken_of
taken_end part i p pairs whole none so_far = sym (ap (λ (s : List ℕ). taken_of p s pairs) none) ∙ so_far

pub front_length : (n : ℕ) (l : List ℕ) → n ≤ length l → n ≡ length (take n l)
front_length n l h = omega (arith, length-take n l)
