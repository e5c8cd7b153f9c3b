-- The definition's reading of a text, taken up again inside it, and one byte more of it. Assumes nothing.
use mathlib.Core.Path.{◌≡◌, refl, sym, ap, ◌∙◌}
use mathlib.Core.Bool.{Bool, true, false, ◌&&◌}
use mathlib.Core.List.{List, [], ◌∷◌}
use mathlib.Core.Logic.{⊎_elim}
use Prim.Native.Nat.{ℕ, suc, ◌+◌, ◌-◌, ◌*◌, ◌≤◌, ◌<◌}
use native.Mathlib.Numerals.{add-one}
use native.Mathlib.Omega.{arith}
use lib.Dec.{ltb, leb, eqb}
use lib.ListN.{length, get_or, drop, drop_of_length-le}
use lib.Seq.{drop-cons}
use borrow.Author.Tests.{lt-ltb, le-ltb, eq-eqb, ne_eqb}
use Rattle.std.specs.Prelude.{Option, Some, None}
use Rattle.laws.specs.Choose.{choose}
use Rattle.laws.proofs.Orders.{lt_or_le, same_or_not}
use Rattle.reporting.specs.Lines.{newline, equals}
use Rattle.reporting.specs.Asked.{Found, found, wrong, digit_follows, digits_to, decimal_to, after}
use Rattle.reporting.specs.Machine.{none, name_of, named, after_name, letter_move, digits_move, move_of}
use Rattle.reporting.specs.declared.Field.{Field}
use Rattle.reporting.specs.declared.Field.TheVariants as field
use Rattle.reporting.specs.declared.matching.Move.{Move}
use Rattle.reporting.specs.declared.matching.Move.TheVariants as move
use Rattle.reporting.specs.declared.matching.Letter.TheVariants.{Last, Inside}

-- an index that is not that of the line's pair
abbrev pub indexed_at : ℕ → Found → Found
indexed_at line (found value rest) = choose (leb 2 line && eqb value (line - 2)) (decimal_to newline rest) wrong
indexed_at line wrong = wrong

abbrev pub digits_rest : ℕ → Field → List ℕ → Found
digits_rest line (field.Name place) text = wrong
digits_rest line (field.Index d) text = indexed_at line (digits_to equals d.begun d.sofar text)
digits_rest line (field.Number d) text = digits_to newline d.begun d.sofar text

abbrev pub name_rest : List ℕ → (List ℕ → Found) → ℕ → List ℕ → Found
name_rest name more place text = choose (ltb place (length name)) (after (drop place name) more text) wrong

-- what the rest of a line says, from a field on
abbrev pub field_rest : ℕ → Field → List ℕ → Found
field_rest line (field.Name place) text = name_rest (name_of line) (digits_rest line (after_name line)) place text
field_rest line (field.Index d) text = digits_rest line (field.Index d) text
field_rest line (field.Number d) text = digits_rest line (field.Number d) text

abbrev pub after_move : ℕ → Option Move → List ℕ → Found
after_move line (Some (move.To f)) text = field_rest line f text
after_move line (Some (move.Ends n)) text = found n text
after_move line None text = wrong

-- one byte more of a number, of an index, of a name
number_rest : (line : ℕ) (a f : Bool) (n next : ℕ) (text : List ℕ)
    → after_move line (choose a (Some (move.Ends n)) (digits_move field.Number (choose f (Some (record { begun = true; sofar = next })) None))) text
    ≡ choose a (found n text) (choose f (digits_to newline true next text) wrong)
number_rest line true f n next text = refl
number_rest line false true n next text = refl
number_rest line false false n next text = refl

index_chosen : (line : ℕ) (c : Bool) (text : List ℕ) → after_move line (choose c (Some (move.To (field.Number none))) None) text ≡ choose c (decimal_to newline text) wrong
index_chosen line true text = refl
index_chosen line false text = refl

index_rest : (line : ℕ) (a f : Bool) (n next : ℕ) (text : List ℕ)
    → after_move line
    (choose a (choose (leb 2 line && eqb n (line - 2)) (Some (move.To (field.Number none))) None)
    (digits_move field.Index (choose f (Some (record { begun = true; sofar = next })) None))) text
    ≡ indexed_at line (choose a (found n text) (choose f (digits_to equals true next text) wrong))
index_rest line true f n next text = index_chosen line (leb 2 line && eqb n (line - 2)) text
index_rest line false true n next text = refl
index_rest line false false n next text = refl

after_name_rest : (line : ℕ) (t : Bool) (text : List ℕ)
    → field_rest line (choose t (field.Number none) (field.Index none)) text ≡ digits_rest line (choose t (field.Number none) (field.Index none)) text
after_name_rest line true text = refl
after_name_rest line false text = refl

module _ (line place byte : ℕ) (text : List ℕ) where
  -- the letter fits
  letter_rest : place < length (name_of line)
      → after_move line (letter_move line (choose (eqb (place + 1) (length (name_of line))) (Some Last) (Some (Inside (place + 1))))) text
      ≡ after (drop (suc place) (name_of line)) (digits_rest line (after_name line)) text
  unfolding after
  letter_rest l =
      ⊎_elim
      (λ (e : place + 1 ≡ length (name_of line)).
      let past : length (name_of line) ≤ suc place = omega arith in
      ap (λ (t : Bool). after_move line (letter_move line (choose t (Some Last) (Some (Inside (place + 1))))) text) (eq-eqb (place + 1) (length (name_of line)) e)
      ∙ after_name_rest line (ltb line 2) text
      ∙ sym (ap (λ (n : List ℕ). after n (digits_rest line (after_name line)) text) (drop_of_length-le (name_of line) past)))
      (λ (e : place + 1 ≡ length (name_of line) → ⊥).
      let inside : place + 1 < length (name_of line) = omega arith in
      ap (λ (t : Bool). after_move line (letter_move line (choose t (Some Last) (Some (Inside (place + 1))))) text) (ne_eqb (place + 1) (length (name_of line)) e)
      ∙ ap (λ (t : Bool). choose t (after (drop (place + 1) (name_of line)) (digits_rest line (after_name line)) text) wrong) (lt-ltb (place + 1) (length (name_of line)) inside)
      ∙ ap (λ (p : ℕ). after (drop p (name_of line)) (digits_rest line (after_name line)) text) (add-one place))
      (same_or_not (place + 1) (length (name_of line)))

  letter_chosen : place < length (name_of line) → (b : Bool)
      → after_move line (letter_move line (choose b (choose (eqb (place + 1) (length (name_of line))) (Some Last) (Some (Inside (place + 1)))) None)) text
      ≡ choose b (after (drop (suc place) (name_of line)) (digits_rest line (after_name line)) text) wrong
  letter_chosen l true = letter_rest l
  letter_chosen l false = refl

  name_rest_is : after_move line (letter_move line (named line place byte)) text ≡ field_rest line (field.Name place) (byte ∷ text)
  unfolding after
  name_rest_is =
      ⊎_elim
      (λ (l : place < length (name_of line)).
      ap (λ (t : Bool). after_move line (letter_move line (choose (t && eqb byte (get_or (name_of line) place 0)) (choose (eqb (place + 1) (length (name_of line))) (Some Last) (Some (Inside (place + 1)))) None)) text) (lt-ltb place (length (name_of line)) l)
      ∙ letter_chosen l (eqb byte (get_or (name_of line) place 0))
      ∙ sym (ap (λ (n : List ℕ). after n (digits_rest line (after_name line)) (byte ∷ text)) (drop-cons (name_of line) place 0 l))
      ∙ sym (ap (λ (t : Bool). choose t (after (drop place (name_of line)) (digits_rest line (after_name line)) (byte ∷ text)) wrong) (lt-ltb place (length (name_of line)) l)))
      (λ (h : length (name_of line) ≤ place).
      ap (λ (t : Bool). after_move line (letter_move line (choose (t && eqb byte (get_or (name_of line) place 0)) (choose (eqb (place + 1) (length (name_of line))) (Some Last) (Some (Inside (place + 1)))) None)) text) (le-ltb place (length (name_of line)) h)
      ∙ sym (ap (λ (t : Bool). choose t (after (drop place (name_of line)) (digits_rest line (after_name line)) (byte ∷ text)) wrong) (le-ltb place (length (name_of line)) h)))
      (lt_or_le place (length (name_of line)))

pub move_rest : (line : ℕ) (f : Field) (byte : ℕ) (text : List ℕ) → after_move line (move_of line f byte) text ≡ field_rest line f (byte ∷ text)
unfolding move_of digits_to
move_rest line (field.Name place) byte text = name_rest_is line place byte text
move_rest line (field.Index d) byte text =
    index_rest line (d.begun && eqb byte equals) (digit_follows d.begun d.sofar byte) d.sofar (10 * d.sofar + (byte - 48)) text
move_rest line (field.Number d) byte text =
    number_rest line (d.begun && eqb byte newline) (digit_follows d.begun d.sofar byte) d.sofar (10 * d.sofar + (byte - 48)) text

-- nothing more: the line is not whole
pub none_rest : (line : ℕ) (f : Field) → field_rest line f [] ≡ wrong
unfolding after digits_to
none_rest line (field.Name place) =
    ⊎_elim
    (λ (l : place < length (name_of line)).
    ap (λ (t : Bool). choose t (after (drop place (name_of line)) (digits_rest line (after_name line)) []) wrong) (lt-ltb place (length (name_of line)) l)
    ∙ ap (λ (n : List ℕ). after n (digits_rest line (after_name line)) []) (drop-cons (name_of line) place 0 l))
    (λ (h : length (name_of line) ≤ place).
    ap (λ (t : Bool). choose t (after (drop place (name_of line)) (digits_rest line (after_name line)) []) wrong) (le-ltb place (length (name_of line)) h))
    (lt_or_le place (length (name_of line)))
none_rest line (field.Index d) = refl
none_rest line (field.Number d) = refl
