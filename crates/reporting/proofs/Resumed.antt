-- What a text asks for, taken up again at any byte: a part that was fed leaves the definition's answer as it is. Assumes nothing.
use mathlib.Core.Path.{◌≡◌, refl, sym, ap, ap₂, ◌∙◌}
use mathlib.Core.Bool.{Bool, true, false, ◌&&◌, ◌||◌}
use mathlib.Core.List.{List, [], ◌∷◌, ◌++◌, append_assoc}
use mathlib.Core.Logic.{⊎_elim}
use Prim.Native.Nat.{ℕ, zero, suc, ◌+◌, ◌-◌, ◌≤◌, ◌<◌}
use native.Mathlib.Omega.{arith}
use lib.Dec.{ltb, leb, eqb}
use lib.ListN.{length, take, set, length-set}
use lib.Seq.{take-suc-set}
use borrow.Author.Tests.{lt-ltb, le-ltb, le-leb, lt-leb, ne_eqb, ltb-false}
use Rattle.std.specs.Prelude.{Option, Some, None, Ok, Err}
use Rattle.laws.specs.Choose.{choose}
use Rattle.laws.proofs.Orders.{lt_or_le}
use Rattle.laws.proofs.Truths.{true_or_false}
use Rattle.refusals.specs.Outcome.{numbers_in}
use Rattle.refusals.specs.Told.{told}
use Rattle.refusals.specs.declared.Refusal.TheVariants.{LgOutside, NoRoom, NotLawful}
use Rattle.reporting.specs.Lines.{newline, equals, lg_name, pairs_name, pair_name}
use Rattle.reporting.specs.Asked.{Found, found, wrong, decimal_to, after, number_line, indexed, pair_line, Asked, asked, unasked, with_pair, no_more, pair_then, pair_lines, count_then, lg_then, asked_by}
use Rattle.reporting.specs.Machine.{Progress, none, name_of, after_name, move_of, done, Held, held, next_line, lg_read, count_read, line_read, moved, reading_step, step_of, taken_of, begun}
use Rattle.reporting.specs.declared.Field.{Field}
use Rattle.reporting.specs.declared.Field.TheVariants as field
use Rattle.reporting.specs.declared.Reading.{Reading}
use Rattle.reporting.specs.declared.matching.Move.{Move}
use Rattle.reporting.specs.declared.matching.Move.TheVariants as move
use Rattle.reporting.proofs.Stepping.{undone}
use Rattle.reporting.proofs.Resuming.{indexed_at, digits_rest, name_rest, field_rest, after_move, move_rest}

abbrev pub with_pairs : List ℕ → Asked → Asked
with_pairs front (asked lg pairs) = asked lg (front ++ pairs)
with_pairs front (unasked number) = unasked number

-- what follows from what a line says
abbrev pub line_then : List ℕ → Reading → Found → Asked
line_then pairs r f =
    choose (eqb r.lines 0) (lg_then (length pairs) f)
    (choose (eqb r.lines 1) (count_then (length pairs) r.lg f)
    (with_pairs (take (r.lines - 2) pairs) (pair_then f (pair_lines r.lg (r.count - (r.lines - 1)) (r.lines - 1)))))

-- what a text asks for, from a byte on, where the machine stands so
abbrev pub resumed : Progress → List ℕ → List ℕ → Asked
resumed (Ok r) pairs text =
    choose (ltb (length pairs) r.count) (unasked 5)
    (choose (done r) (with_pairs (take r.count pairs) (no_more r.lg text)) (line_then pairs r (field_rest r.lines r.field text)))
resumed (Err why) pairs text = unasked (numbers_in (told why)).number

with_none : (a : Asked) → with_pairs [] a ≡ a
with_none (asked lg pairs) = refl
with_none (unasked number) = refl

with_pair_is : (front : List ℕ) (n : ℕ) (a : Asked) → with_pairs front (with_pair n a) ≡ with_pairs (front ++ (n ∷ [])) a
with_pair_is front n (asked lg pairs) = ap (asked lg) (sym (append_assoc front (n ∷ []) pairs))
with_pair_is front n (unasked number) = refl

-- inside the text
pub resumed_open : (r : Reading) (pairs text : List ℕ) → r.count ≤ length pairs → done r ≡ false
    → resumed (Ok r) pairs text ≡ line_then pairs r (field_rest r.lines r.field text)
resumed_open r pairs text fits undone' =
    ap (λ (t : Bool). choose t (unasked 5) (choose (done r) (with_pairs (take r.count pairs) (no_more r.lg text)) (line_then pairs r (field_rest r.lines r.field text))))
    (le-ltb (length pairs) r.count fits)
    ∙ ap (λ (t : Bool). choose t (with_pairs (take r.count pairs) (no_more r.lg text)) (line_then pairs r (field_rest r.lines r.field text))) undone'

pub resumed_done : (r : Reading) (pairs text : List ℕ) → r.count ≤ length pairs → done r ≡ true
    → resumed (Ok r) pairs text ≡ with_pairs (take r.count pairs) (no_more r.lg text)
resumed_done r pairs text fits done' =
    ap (λ (t : Bool). choose t (unasked 5) (choose (done r) (with_pairs (take r.count pairs) (no_more r.lg text)) (line_then pairs r (field_rest r.lines r.field text))))
    (le-ltb (length pairs) r.count fits)
    ∙ ap (λ (t : Bool). choose t (with_pairs (take r.count pairs) (no_more r.lg text)) (line_then pairs r (field_rest r.lines r.field text))) done'

three_ways : (a b : Bool) (x : Asked) → choose a x (choose b x x) ≡ x
three_ways true b x = refl
three_ways false true x = refl
three_ways false false x = refl

pub wrong_line : (pairs : List ℕ) (r : Reading) → line_then pairs r wrong ≡ unasked 15
wrong_line pairs r = three_ways (eqb r.lines 0) (eqb r.lines 1) (unasked 15)

-- the line of pair j
indexed_same : (j : ℕ) (f : Found) → indexed_at (suc (suc j)) f ≡ indexed j f
indexed_same j wrong = refl
indexed_same j (found value rest) =
    let less : suc (suc j) - 2 ≡ j = omega arith in
    ap (λ (t : Bool). choose (t && eqb value (suc (suc j) - 2)) (decimal_to newline rest) wrong) (le-leb 2 (suc (suc j)) (omega arith))
    ∙ ap (λ (i : ℕ). choose (eqb value i) (decimal_to newline rest) wrong) less

letter_p : (j : ℕ) (text : List ℕ) → after pair_name (digits_rest (suc (suc j)) (field.Index none)) text ≡ pair_line j text
unfolding after
letter_p j [] = refl
letter_p j (byte ∷ text) = ap (λ (f : Found). choose (eqb byte 112) f wrong) (indexed_same j (decimal_to equals text))

pair_start : (j : ℕ) (text : List ℕ) → field_rest (suc (suc j)) (field.Name 0) text ≡ pair_line j text
pair_start j text =
    let line = suc (suc j) in
    let name : name_of line ≡ pair_name =
    ap (λ (t : Bool). choose t (lg_name ++ (equals ∷ [])) (choose (eqb line 1) (pairs_name ++ (equals ∷ [])) pair_name)) (ne_eqb line 0 (λ (e : line ≡ 0). omega arith))
    ∙ ap (λ (t : Bool). choose t (pairs_name ++ (equals ∷ [])) pair_name) (ne_eqb line 1 (λ (e : line ≡ 1). omega arith)) in
    let next : after_name line ≡ field.Index none = ap (λ (t : Bool). choose t (field.Number none) (field.Index none)) (le-ltb line 2 (omega arith)) in
    ap₂ (λ (n : List ℕ) (f : Field). name_rest n (digits_rest line f) 0 text) name next ∙ letter_p j text

module _ (lg count j : ℕ) (pairs text : List ℕ) (fits : count ≤ length pairs) where
  less : suc (suc j) - 2 ≡ j
  less = omega arith

  two : leb 2 (suc (suc j)) ≡ true
  two = le-leb 2 (suc (suc j)) (omega arith)

  at_last : count ≡ j → resumed (Ok (record { lines = suc (suc j); lg = lg; count = count; field = field.Name 0 })) pairs text
      ≡ with_pairs (take j pairs) (pair_lines lg (count - j) j text)
  unfolding pair_lines
  at_last e =
      let none_left : count - j ≡ 0 = omega arith in
      let all : done (record { lines = suc (suc j); lg = lg; count = count; field = field.Name 0 }) ≡ true =
      ap (λ (t : Bool). t && leb count (suc (suc j) - 2)) two ∙ le-leb count (suc (suc j) - 2) (omega arith) in
      resumed_done (record { lines = suc (suc j); lg = lg; count = count; field = field.Name 0 }) pairs text fits all
      ∙ ap (λ (n : ℕ). with_pairs (take n pairs) (no_more lg text)) e
      ∙ sym (ap (λ (n : ℕ). with_pairs (take j pairs) (pair_lines lg n j text)) none_left)

  before_last : j < count → resumed (Ok (record { lines = suc (suc j); lg = lg; count = count; field = field.Name 0 })) pairs text
      ≡ with_pairs (take j pairs) (pair_lines lg (count - j) j text)
  unfolding pair_lines
  before_last l =
      let more_left : count - j ≡ suc (count - suc j) = omega arith in
      let one_less : suc (suc j) - 1 ≡ suc j = omega arith in
      let open' : done (record { lines = suc (suc j); lg = lg; count = count; field = field.Name 0 }) ≡ false =
      ap (λ (t : Bool). t && leb count (suc (suc j) - 2)) two ∙ lt-leb count (suc (suc j) - 2) (omega arith) in
      resumed_open (record { lines = suc (suc j); lg = lg; count = count; field = field.Name 0 }) pairs text fits open'
      ∙ ap (λ (t : Bool). choose t (lg_then (length pairs) (field_rest (suc (suc j)) (field.Name 0) text)) (choose (eqb (suc (suc j)) 1) (count_then (length pairs) lg (field_rest (suc (suc j)) (field.Name 0) text)) (with_pairs (take (suc (suc j) - 2) pairs) (pair_then (field_rest (suc (suc j)) (field.Name 0) text) (pair_lines lg (count - (suc (suc j) - 1)) (suc (suc j) - 1))))))
      (ne_eqb (suc (suc j)) 0 (λ (e : suc (suc j) ≡ 0). omega arith))
      ∙ ap (λ (t : Bool). choose t (count_then (length pairs) lg (field_rest (suc (suc j)) (field.Name 0) text)) (with_pairs (take (suc (suc j) - 2) pairs) (pair_then (field_rest (suc (suc j)) (field.Name 0) text) (pair_lines lg (count - (suc (suc j) - 1)) (suc (suc j) - 1)))))
      (ne_eqb (suc (suc j)) 1 (λ (e : suc (suc j) ≡ 1). omega arith))
      ∙ ap₂ (λ (n m : ℕ). with_pairs (take n pairs) (pair_then (field_rest (suc (suc j)) (field.Name 0) text) (pair_lines lg (count - m) m))) less one_less
      ∙ ap (λ (f : Found). with_pairs (take j pairs) (pair_then f (pair_lines lg (count - suc j) (suc j)))) (pair_start j text)
      ∙ sym (ap (λ (n : ℕ). with_pairs (take j pairs) (pair_lines lg n j text)) more_left)

  -- at the start of a pair's line, or past the last
  pub at_pair : (line : ℕ) → line ≡ suc (suc j) → j ≤ count → resumed (Ok (record { lines = line; lg = lg; count = count; field = field.Name 0 })) pairs text
      ≡ with_pairs (take j pairs) (pair_lines lg (count - j) j text)
  at_pair line e within =
      ap (λ (n : ℕ). resumed (Ok (record { lines = n; lg = lg; count = count; field = field.Name 0 })) pairs text) e
      ∙ ⊎_elim (λ (l : j < count). before_last l) (λ (h : count ≤ j). at_last (omega arith)) (lt_or_le j count)

or_last : (a b : Bool) → (a || b) ≡ false → b ≡ false
or_last true b e = absurd (let z : ◌≡◌ {A = ℕ} 0 1 = cc in omega arith)
or_last false b e = e

-- lg_k's line is whole
lg_ended : (t : Bool) (lg count n : ℕ) (f : Field) (pairs text : List ℕ) → count ≤ length pairs
    → resumed (choose t (Err LgOutside) (next_line (record { lines = 0; lg = lg; count = count; field = f }) n count)) pairs text
    ≡ choose t (unasked 1) (count_then (length pairs) n (number_line pairs_name text))
lg_ended true lg count n f pairs text fits = refl
lg_ended false lg count n f pairs text fits = resumed_open (record { lines = 1; lg = n; count = count; field = field.Name 0 }) pairs text fits refl

-- the line of the number of pairs is whole
count_ended : (lg count n : ℕ) (f : Field) (pairs text : List ℕ)
    → resumed (count_read (length pairs) (record { lines = 1; lg = lg; count = count; field = f }) n) pairs text ≡ count_then (length pairs) lg (found n text)
count_ended lg count n f pairs text =
    let r : Reading = record { lines = 1; lg = lg; count = count; field = f } in
    ⊎_elim
    (λ (e : (ltb 4096 n || ltb (length pairs) n) ≡ true).
    ap (λ (t : Bool). resumed (choose t (Err NoRoom) (next_line r lg n)) pairs text) e
    ∙ sym (ap (λ (t : Bool). choose t (unasked 5) (pair_lines lg n 0 text)) e))
    (λ (e : (ltb 4096 n || ltb (length pairs) n) ≡ false).
    let fits : n ≤ length pairs = ltb-false (length pairs) n (or_last (ltb 4096 n) (ltb (length pairs) n) e) in
    let whole : n - 0 ≡ n = omega arith in
    ap (λ (t : Bool). resumed (choose t (Err NoRoom) (next_line r lg n)) pairs text) e
    ∙ at_pair lg n 0 pairs text fits 2 refl (omega arith)
    ∙ with_none (pair_lines lg (n - 0) 0 text)
    ∙ ap (λ (m : ℕ). pair_lines lg m 0 text) whole
    ∙ sym (ap (λ (t : Bool). choose t (unasked 5) (pair_lines lg n 0 text)) e))
    (true_or_false (ltb 4096 n || ltb (length pairs) n))

-- a pair's line is whole
module _ (i lg count n : ℕ) (f : Field) (pairs text : List ℕ) (fits : count ≤ length pairs) (below : i < count) where
  pair_read : line_read (record { lines = suc (suc i); lg = lg; count = count; field = f }) n pairs
      ≡ held (next_line (record { lines = suc (suc i); lg = lg; count = count; field = f }) lg count) (set pairs i n)
  unfolding line_read
  pair_read =
      let r : Reading = record { lines = suc (suc i); lg = lg; count = count; field = f } in
      let last : ℕ → Held = λ (j : ℕ). held (next_line r lg count) (set pairs j n) in
      let less' : suc (suc i) - 2 ≡ i = omega arith in
      ap (λ (t : Bool). choose t (held (lg_read r n) pairs) (choose (eqb (suc (suc i)) 1) (held (count_read (length pairs) r n) pairs) (last (suc (suc i) - 2)))) (ne_eqb (suc (suc i)) 0 (λ (e : suc (suc i) ≡ 0). omega arith))
      ∙ ap (λ (t : Bool). choose t (held (count_read (length pairs) r n) pairs) (last (suc (suc i) - 2))) (ne_eqb (suc (suc i)) 1 (λ (e : suc (suc i) ≡ 1). omega arith))
      ∙ ap last less'

  pair_then_is : line_then pairs (record { lines = suc (suc i); lg = lg; count = count; field = f }) (found n text)
      ≡ with_pairs (take i pairs) (with_pair n (pair_lines lg (count - suc i) (suc i) text))
  pair_then_is =
      let first : Asked = lg_then (length pairs) (found n text) in
      let second : Asked = count_then (length pairs) lg (found n text) in
      let third : ℕ → ℕ → Asked = λ (j m : ℕ). with_pairs (take j pairs) (with_pair n (pair_lines lg (count - m) m text)) in
      let less' : suc (suc i) - 2 ≡ i = omega arith in
      let one_less : suc (suc i) - 1 ≡ suc i = omega arith in
      ap (λ (t : Bool). choose t first (choose (eqb (suc (suc i)) 1) second (third (suc (suc i) - 2) (suc (suc i) - 1)))) (ne_eqb (suc (suc i)) 0 (λ (e : suc (suc i) ≡ 0). omega arith))
      ∙ ap (λ (t : Bool). choose t second (third (suc (suc i) - 2) (suc (suc i) - 1))) (ne_eqb (suc (suc i)) 1 (λ (e : suc (suc i) ≡ 1). omega arith))
      ∙ ap₂ third less' one_less

  pair_ended : resumed (next_line (record { lines = suc (suc i); lg = lg; count = count; field = f }) lg count) (set pairs i n) text
      ≡ with_pairs (take i pairs) (with_pair n (pair_lines lg (count - suc i) (suc i) text))
  pair_ended =
      let fits' : count ≤ length (set pairs i n) = simp length-set fits in
      at_pair lg count (suc i) (set pairs i n) text fits' (suc (suc i) + 1) (omega arith) (omega arith)
      ∙ ap (λ (front : List ℕ). with_pairs front (pair_lines lg (count - suc i) (suc i) text)) (take-suc-set pairs i n (omega arith))
      ∙ sym (with_pair_is (take i pairs) n (pair_lines lg (count - suc i) (suc i) text))

  pub pair_line_ended : resumed (line_read (record { lines = suc (suc i); lg = lg; count = count; field = f }) n pairs).progress
      (line_read (record { lines = suc (suc i); lg = lg; count = count; field = f }) n pairs).pairs text
      ≡ line_then pairs (record { lines = suc (suc i); lg = lg; count = count; field = f }) (found n text)
  pair_line_ended = ap (λ (h : Held). resumed h.progress h.pairs text) pair_read ∙ pair_ended ∙ sym pair_then_is

line_ended : (lines lg count n : ℕ) (f : Field) (pairs text : List ℕ) → count ≤ length pairs → done (record { lines = lines; lg = lg; count = count; field = f }) ≡ false
    → resumed (line_read (record { lines = lines; lg = lg; count = count; field = f }) n pairs).progress
    (line_read (record { lines = lines; lg = lg; count = count; field = f }) n pairs).pairs text
    ≡ line_then pairs (record { lines = lines; lg = lg; count = count; field = f }) (found n text)
unfolding line_read
line_ended zero lg count n f pairs text fits e = lg_ended (ltb n 4 || ltb 12 n) lg count n f pairs text fits
line_ended (suc zero) lg count n f pairs text fits e = count_ended lg count n f pairs text
line_ended (suc (suc i)) lg count n f pairs text fits e =
    let l = undone (suc (suc i)) count e (omega arith) in
    pair_line_ended i lg count n f pairs text fits (omega arith)

-- where a byte leaves the machine
move_ended : (r : Reading) (m : Option Move) (pairs text : List ℕ) → r.count ≤ length pairs → done r ≡ false
    → resumed (moved r pairs m).progress (moved r pairs m).pairs text ≡ line_then pairs r (after_move r.lines m text)
move_ended r (Some (move.To f)) pairs text fits e = resumed_open (record { lines = r.lines; lg = r.lg; count = r.count; field = f }) pairs text fits e
move_ended r (Some (move.Ends n)) pairs text fits e = line_ended r.lines r.lg r.count n r.field pairs text fits e
move_ended r None pairs text fits e = sym (wrong_line pairs r)

reading_step_is : (r : Reading) (byte : ℕ) (pairs text : List ℕ)
    → resumed (reading_step r byte pairs).progress (reading_step r byte pairs).pairs text ≡ resumed (Ok r) pairs (byte ∷ text)
unfolding reading_step
reading_step_is r byte pairs text =
    let after' : Held → Asked = λ (h : Held). resumed h.progress h.pairs text in
    let m = move_of r.lines r.field byte in
    let inside : Held = choose (done r) (held (Err NotLawful) pairs) (moved r pairs m) in
    ⊎_elim
    (λ (l : length pairs < r.count).
    ap (λ (t : Bool). after' (choose t (held (Err NoRoom) pairs) inside)) (lt-ltb (length pairs) r.count l)
    ∙ sym (ap (λ (t : Bool). choose t (unasked 5) (choose (done r) (with_pairs (take r.count pairs) (no_more r.lg (byte ∷ text))) (line_then pairs r (field_rest r.lines r.field (byte ∷ text))))) (lt-ltb (length pairs) r.count l)))
    (λ (fits : r.count ≤ length pairs).
    ap (λ (t : Bool). after' (choose t (held (Err NoRoom) pairs) inside)) (le-ltb (length pairs) r.count fits)
    ∙ ⊎_elim
    (λ (e : done r ≡ true). ap (λ (t : Bool). after' (choose t (held (Err NotLawful) pairs) (moved r pairs m))) e ∙ sym (resumed_done r pairs (byte ∷ text) fits e))
    (λ (e : done r ≡ false).
    ap (λ (t : Bool). after' (choose t (held (Err NotLawful) pairs) (moved r pairs m))) e
    ∙ move_ended r m pairs text fits e
    ∙ ap (line_then pairs r) (move_rest r.lines r.field byte text)
    ∙ sym (resumed_open r pairs (byte ∷ text) fits e))
    (true_or_false (done r)))
    (lt_or_le (length pairs) r.count)

-- one byte more changes nothing of what is asked for
pub step_resumed : (p : Progress) (byte : ℕ) (pairs text : List ℕ)
    → resumed (step_of p byte pairs).progress (step_of p byte pairs).pairs text ≡ resumed p pairs (byte ∷ text)
step_resumed (Ok r) byte pairs text = reading_step_is r byte pairs text
step_resumed (Err why) byte pairs text = refl

-- a part changes nothing of it
pub part_resumed : (p : Progress) (part pairs text : List ℕ)
    → resumed (taken_of p part pairs).progress (taken_of p part pairs).pairs text ≡ resumed p pairs (part ++ text)
unfolding taken_of
part_resumed p [] pairs text = refl
part_resumed p (byte ∷ part) pairs text =
    part_resumed (step_of p byte pairs).progress part (step_of p byte pairs).pairs text ∙ step_resumed p byte pairs (part ++ text)

-- before the first byte it is what the definition says of the whole text
pub begin_resumed : (pairs text : List ℕ) → resumed begun pairs text ≡ asked_by (length pairs) text
begin_resumed pairs text = resumed_open (record { lines = 0; lg = 0; count = 0; field = field.Name 0 }) pairs text (omega arith) refl
