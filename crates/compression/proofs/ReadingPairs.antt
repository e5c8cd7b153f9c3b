-- The loop over pairs: what holds at its head, that a pair keeps it, and what it says at the end. Assumes nothing.
use mathlib.Core.Path.{◌≡◌, refl, sym, ap, ap₂, ◌∙◌, subst}
use mathlib.Core.List.{List, []}
use Prim.Native.Nat.{ℕ, suc, ◌+◌, ◌-◌, ◌≤◌, ◌<◌}
use native.Mathlib.Omega.{arith}
use lib.ListN.{length, set, length-set}
use Rattle.std.specs.Prelude.{Ok, Err}
use Rattle.refusals.specs.declared.Reason.{Reason}
use Rattle.refusals.specs.declared.Refusal.TheVariants as refusal
use Rattle.streams.specs.Stream.{number, word_bits}
use Rattle.streams.specs.Read.{Step, pair_at, whole, Reading, item_then, on_pair, pairs_from}
use Rattle.compression.specs.Reading.{Stands, place_of, Holds, Paired, Faulted, pair_is, ReadBy}
use Rattle.compression.specs.declared.pair_reader.State.{State}
use Rattle.compression.proofs.ReadingFront.{Front, front_start, front_turn, front_outcome, front_output}

module _ (n end : ℕ) (book : List ℕ) (b k : ℕ) where
  abbrev from : ℕ → ℕ → ℕ → ℕ → Reading
  from = pairs_from n end book b k

  none_left : (m row next at : ℕ) → m ≡ 0 → from m row next at ≡ record { items = []; ending = whole at }
  unfolding pairs_from
  none_left m row next at e = ap (λ (x : ℕ). from x row next at) e

  -- so many pairs, by what the first of them is
  by_first : (m row next at : ℕ) (step : Step) → 0 < m → pair_at n end book b k row next at ≡ step
      → from m row next at ≡ on_pair step (λ row' column after. from (m - 1) row' (column + 1) after)
  unfolding pairs_from
  by_first m row next at step h e =
      let some : m ≡ suc (m - 1) = omega arith in
      ap (λ (x : ℕ). from x row next at) some ∙ ap (λ (x : Step). on_pair x (λ row' column after. from (m - 1) row' (column + 1) after)) e

-- what holds at the loop's head
pub record PairsHead (s table : List ℕ) (b k count : ℕ) (out₀ out : List ℕ) (state : State) (i : ℕ) : Type 0 where
  pub stands : Stands s state.cursor
  pub size : length out ≡ length out₀
  pub within : i ≤ count
  pub reads : (book : List ℕ) → Holds book table
      → Front (pairs_from (number s) (word_bits s) book b k count 0 0 0)
      (pairs_from (number s) (word_bits s) book b k (count - i) state.before.row state.before.column (place_of state.cursor)) out₀ out i

pub pairs_start : (s table : List ℕ) (b k count : ℕ) (out : List ℕ) (state : State) → Stands s state.cursor → state.before.row ≡ 0 → state.before.column ≡ 0
    → place_of state.cursor ≡ 0 → PairsHead s table b k count out out state 0
pairs_start s table b k count out state st er ec ep = record {
  stands = st;
  size = refl;
  within = omega arith;
  reads = λ book holds. subst (λ (rest : Reading). Front (from book count 0 0 0) rest out out 0) (same book) (front_start (from book count 0 0 0) out);
}
  where
    from : List ℕ → ℕ → ℕ → ℕ → ℕ → Reading
    from book = pairs_from (number s) (word_bits s) book b k

    same : (book : List ℕ) → from book count 0 0 0 ≡ from book (count - 0) state.before.row state.before.column (place_of state.cursor)
    same book =
        ap₂ (λ (m row : ℕ). from book m row 0 0) (omega arith) (sym er)
        ∙ ap₂ (λ (next at : ℕ). from book (count - 0) state.before.row next at) (sym ec) (sym ep)

module _ (s table : List ℕ) (b k count : ℕ) (out₀ out : List ℕ) (state : State) (i : ℕ) (room : count ≤ length out₀)
    (head : PairsHead s table b k count out₀ out state i) where
  abbrev left : List ℕ → Reading
  left book = pairs_from (number s) (word_bits s) book b k (count - i) state.before.row state.before.column (place_of state.cursor)

  pub pairs_turn : (item : ℕ) (state' : State) → i < count → Stands s state'.cursor → Paired k (pair_is s table b k state) item state'
      → PairsHead s table b k count out₀ (set out i item) state' (i + 1)
  pairs_turn item state' h st p = record {
    stands = st;
    size = length-set out i item ∙ head.size;
    within = omega arith;
    reads = λ book holds.
        front_turn _ (left book) out₀ out i (head.reads book holds) item
        (pairs_from (number s) (word_bits s) book b k (count - (i + 1)) state'.before.row state'.before.column (place_of state'.cursor)) (omega arith)
        (by_first (number s) (word_bits s) book b k (count - i) state.before.row state.before.column (place_of state.cursor) _ (omega arith) (p.is book holds)
        ∙ ap₂ item_then (sym p.item_is)
        (ap₂ (λ (m next : ℕ). pairs_from (number s) (word_bits s) book b k m state'.before.row next (place_of state'.cursor)) (omega arith) (sym p.next_is)));
  }

  pub pairs_fault : (reason : Reason) → i < count → Faulted i (pair_is s table b k state) reason → (book : List ℕ) → Holds book table
      → ReadBy (pairs_from (number s) (word_bits s) book b k count 0 0 0) out₀ out (Err (refusal.Reading reason))
  pairs_fault reason h f book holds =
      let e = by_first (number s) (word_bits s) book b k (count - i) state.before.row state.before.column (place_of state.cursor) _ (omega arith) (f.is book holds) in
      let front = head.reads book holds in
      (f.told_as ∙ sym (front_outcome _ _ out₀ out i front _ e), front_output _ _ out₀ out i front _ e)

  pub pairs_end : count ≤ i → (book : List ℕ) → Holds book table → ReadBy (pairs_from (number s) (word_bits s) book b k count 0 0 0) out₀ out (Ok tt)
  pairs_end h book holds =
      let e = none_left (number s) (word_bits s) book b k (count - i) state.before.row state.before.column (place_of state.cursor) (omega arith) in
      let front = head.reads book holds in
      (sym (front_outcome _ _ out₀ out i front _ e), front_output _ _ out₀ out i front _ e)
