-- The pass over the shapes: what it has found, and what is left. Assumes nothing.
use mathlib.Core.Path.{◌≡◌, sym, ap, ◌∙◌}
use mathlib.Core.Logic.{⊎_elim}
use mathlib.Core.Bool.{Bool, true, false, ◌&&◌}
use mathlib.Core.List.{List, [], ◌∷◌}
use Prim.Native.Nat.{ℕ, zero, suc, ◌+◌, ◌*◌, ◌/◌, ◌^◌, ◌≤◌, ◌<◌}
use native.Mathlib.Numerals.{add-one}
use native.Mathlib.Omega.{arith}
use borrow.Author.Tests.{ltb-true, leb-true}
use lib.Dec.{leb, ltb}
use lib.ListN.{length, get_or, drop, drop_of_length-le}
use lib.Seq.{drop-cons}
use lib.Pow.{shr_le}
use Rattle.laws.specs.Choose.{choose}
use Rattle.laws.proofs.Truths.{and_left, and_right, true_or_false}
use Rattle.books.specs.Book.{length_in, codeword_in, shaped, first_misshapen}
use Rattle.books.specs.Steps.{Shape, AllShaped, taken}

pub shape_of : (entry : ℕ) → shaped entry ≡ true → Shape entry
shape_of entry e =
    let more = and_right (leb 1 (length_in entry)) (leb (length_in entry) 12 && ltb (codeword_in entry) (2 ^ length_in entry)) e in
    record {
      least = leb-true 1 (length_in entry) (and_left (leb 1 (length_in entry)) (leb (length_in entry) 12 && ltb (codeword_in entry) (2 ^ length_in entry)) e);
      most = leb-true (length_in entry) 12 (and_left (leb (length_in entry) 12) (ltb (codeword_in entry) (2 ^ length_in entry)) more);
      fits = ltb-true (codeword_in entry) (2 ^ length_in entry) (and_right (leb (length_in entry) 12) (ltb (codeword_in entry) (2 ^ length_in entry)) more);
    }

-- a book with no first symbol of wrong shape has none
pub all_shaped : (book : List ℕ) → first_misshapen book ≡ length book → AllShaped book
unfolding first_misshapen
all_shaped [] e x l = absurd (omega arith)
all_shaped (entry ∷ book) e x l =
    ⊎_elim
    (λ (q : shaped entry ≡ true).
    let same : suc (first_misshapen book) ≡ suc (length book) = sym (ap (λ (b : Bool). choose b (suc (first_misshapen book)) 0) q) ∙ e in
    at q (all_shaped book (omega arith)) x l)
    (λ (q : shaped entry ≡ false).
    let none : 0 ≡ suc (length book) = sym (ap (λ (b : Bool). choose b (suc (first_misshapen book)) 0) q) ∙ e in
    absurd (omega arith)) (true_or_false (shaped entry))
  where
    at : shaped entry ≡ true → AllShaped book → AllShaped (entry ∷ book)
    at q more zero l = shape_of entry q
    at q more (suc y) l = more y (omega arith)

-- what holds at the head of the pass
pub record Passing (book : List ℕ) (sum x : ℕ) : Type 0 where
  pub within : x ≤ length book
  pub low : sum ≤ 4096 * x
  pub shapes : x + first_misshapen (drop x book) ≡ first_misshapen book
  pub sums : sum + taken (drop x book) ≡ taken book

pub passing_start : (book : List ℕ) → Passing book 0 0
passing_start book = record { within = omega arith; low = omega arith; shapes = omega arith; sums = omega arith }

module _ (book : List ℕ) (sum x : ℕ) (p : Passing book sum x) where
  next : x < length book → drop x book ≡ get_or book x 0 ∷ drop (x + 1) book
  next l = drop-cons book x 0 l ∙ ap (λ (i : ℕ). get_or book x 0 ∷ drop i book) (sym (add-one x))

  pub passing_turn : x < length book → shaped (get_or book x 0) ≡ true → Passing book (sum + 4096 / 2 ^ length_in (get_or book x 0)) (x + 1)
  unfolding first_misshapen taken
  passing_turn l e =
      let entry : ℕ = get_or book x 0 in
      let shapes' : first_misshapen (drop x book) ≡ suc (first_misshapen (drop (x + 1) book)) =
      ap first_misshapen (next l) ∙ ap (λ (b : Bool). choose b (suc (first_misshapen (drop (x + 1) book))) 0) e in
      let sums' : taken (drop x book) ≡ 4096 / 2 ^ length_in entry + taken (drop (x + 1) book) = ap taken (next l) in
      record {
        within = omega arith;
        low = omega (arith, p.low, shr_le 4096 (length_in entry));
        shapes = omega (arith, p.shapes);
        sums = omega (arith, p.sums);
      }

  pub passing_stop : x < length book → shaped (get_or book x 0) ≡ false → first_misshapen book ≡ x
  unfolding first_misshapen
  passing_stop l e =
      let none : first_misshapen (drop x book) ≡ 0 =
      ap first_misshapen (next l) ∙ ap (λ (b : Bool). choose b (suc (first_misshapen (drop (x + 1) book))) 0) e in
      omega (arith, p.shapes)

  pub passing_end : length book ≤ x → (first_misshapen book ≡ length book) × (sum ≡ taken book)
  unfolding first_misshapen taken
  passing_end l =
      let e : drop x book ≡ [] = drop_of_length-le book l in
      let m : first_misshapen (drop x book) ≡ 0 = ap first_misshapen e in
      let t : taken (drop x book) ≡ 0 = ap taken e in
      (omega (arith, p.shapes, p.within), omega (arith, p.sums))
