-- A loop that reads item after item to the front of an output: what holds at its head, that an item keeps it, and what it says at the end. Assumes nothing.
use mathlib.Core.Path.{◌≡◌, refl, sym, ap, ◌∙◌}
use mathlib.Core.List.{List, [], ◌∷◌, ◌++◌, append-nil, append_assoc}
use Prim.Native.Nat.{ℕ, ◌+◌, ◌≤◌, ◌<◌}
use native.Mathlib.Numerals.{add-one}
use native.Mathlib.Omega.{arith}
use lib.ListN.{length, take, drop, set, length-set, take-append-drop}
use lib.Seq.{length-take-le, take-suc-set, drop-set-lt, drop-drop}
use Rattle.streams.specs.Read.{Ending, Reading, item_then}
use Rattle.streams.specs.Calls.{ended_by, read_outcome, read_into}

-- items in front of a reading
abbrev after : List ℕ → Reading → Reading
after items rest = record { items = items ++ rest.items; ending = rest.ending }

-- the first i items stand in the output, past them it is as it was, and the rest is still to be read
pub record Front (all rest : Reading) (out₀ out : List ℕ) (i : ℕ) : Type 0 where
  pub size : length out ≡ length out₀
  pub within : i ≤ length out₀
  pub kept : drop i out ≡ drop i out₀
  pub so_far : all ≡ after (take i out) rest

pub front_start : (all : Reading) (out : List ℕ) → Front all all out out 0
front_start all out = record { size = refl; within = omega arith; kept = refl; so_far = refl }

module _ (all rest : Reading) (out₀ out : List ℕ) (i : ℕ) (head : Front all rest out₀ out i) where
  pub front_turn : (item : ℕ) (rest' : Reading) → i < length out₀ → rest ≡ item_then item rest' → Front all rest' out₀ (set out i item) (i + 1)
  front_turn item rest' h e =
      let lt : i < length out = omega (arith, head.size) in
      let taken : take (i + 1) (set out i item) ≡ take i out ++ (item ∷ []) = rw add-one (take-suc-set out i item lt) in
      record {
        size = length-set out i item ∙ head.size;
        within = omega arith;
        kept = drop-set-lt (i + 1) out i item (omega arith) ∙ sym (drop-drop 1 i out) ∙ ap (drop 1) head.kept ∙ drop-drop 1 i out₀;
        so_far =
            head.so_far ∙ ap (after (take i out)) e
            ∙ ap (λ (l : List ℕ). record { items = l; ending = rest'.ending }) (sym (append_assoc (take i out) (item ∷ []) rest'.items))
            ∙ ap (λ (l : List ℕ). after l rest') (sym taken);
      }

  -- nothing more was read
  module _ (ending : Ending) (e : rest ≡ record { items = []; ending = ending }) where
    ended : all ≡ record { items = take i out; ending = ending }
    ended = head.so_far ∙ ap (after (take i out)) e ∙ ap (λ (l : List ℕ). record { items = l; ending = ending }) (append-nil (take i out))

    size_at : length (take i out) ≡ i
    size_at = length-take-le i out (omega (arith, head.size, head.within))

    pub front_outcome : read_outcome all ≡ ended_by i ending
    front_outcome = ap read_outcome ended ∙ ap (λ (j : ℕ). ended_by j ending) size_at

    pub front_output : out ≡ read_into all out₀
    front_output =
        sym (ap (λ (r : Reading). read_into r out₀) ended ∙ ap (λ (j : ℕ). take i out ++ drop j out₀) size_at
        ∙ ap (λ (l : List ℕ). take i out ++ l) (sym head.kept) ∙ take-append-drop i out)
