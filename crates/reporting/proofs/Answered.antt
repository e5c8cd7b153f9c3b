-- What is decided of a text that is whole, and the lines of that, are those of the definition. Assumes nothing.
use mathlib.Core.Path.{◌≡◌, refl, sym, ap, ap₂, ◌∙◌}
use mathlib.Core.Bool.{Bool, true, false}
use mathlib.Core.List.{List, [], ◌∷◌, ◌++◌, append-nil}
use mathlib.Core.Logic.{⊎_elim}
use Prim.Native.Nat.{ℕ, ◌+◌, ◌-◌, ◌*◌, ◌^◌, ◌≤◌, ◌<◌}
use native.Mathlib.Omega.{arith}
use lib.Dec.{ltb}
use lib.ListN.{length, take, drop}
use borrow.Author.Tests.{lt-ltb, le-ltb}
use Rattle.std.specs.Prelude.{Ok, Err}
use Rattle.laws.specs.Choose.{choose}
use Rattle.laws.proofs.Orders.{lt_or_le}
use Rattle.laws.proofs.Truths.{true_or_false}
use Rattle.refusals.specs.Outcome.{Outcome, accepted, refused, stopped, and_then, if_accepted, numbers_in}
use Rattle.refusals.specs.Units.{words_for}
use Rattle.refusals.specs.Told.{told}
use Rattle.refusals.specs.declared.Refusal.{Refusal}
use Rattle.refusals.specs.declared.Refusal.TheVariants.{NoRoom, NotLawful}
use Rattle.refusals.proofs.Only.{never_accepted}
use Rattle.numbers.specs.Numbers.{flavor_at, offset_at, base_bits_at}
use Rattle.numbers.specs.Calls.{offset_of, base_bits_of}
use Rattle.numbers.specs.Told.{flavor_number}
use Rattle.numbers.specs.declared.Flavor.{Flavor}
use Rattle.numbers.proofs.Only.{flavor_number_once}
use Rattle.practice.specs.Practice.{pair_book}
use Rattle.streams.specs.Codes.{pack}
use Rattle.streams.specs.Written.{pairs_codes, pairs_bits}
use Rattle.streams.specs.Calls.{write_pairs_of, pairs_written, words_into}
use Rattle.reporting.specs.Lines.{decimal, line, lg_name, pairs_name}
use Rattle.reporting.specs.Asked.{Asked, asked, unasked, no_more}
use Rattle.reporting.specs.Report.{flavor_name, offset_name, base_bits_name, bits_name, words_name, flavor_word, head_lines, word_line, word_lines, report_lines, refused_lines, lines_of, answered}
use Rattle.reporting.specs.Machine.{Progress, done}
use Rattle.reporting.specs.Calls.{Decision, told_decision, Decided, decided_as, written_of, read_decided, decide_of, Said, says, ended, nth, report_head, word_said, report_said, line_of}
use Rattle.reporting.specs.declared.Report.{Report}
use Rattle.reporting.proofs.Numbered.{not_refused, not_stopped, base_bits_is, write_told}
use Rattle.reporting.proofs.Listed.{nth_front, nth_back, nth_words, word_same}
use Rattle.reporting.proofs.Resuming.{field_rest, none_rest}
use Rattle.reporting.proofs.Resumed.{with_pairs, line_then, resumed, resumed_open, resumed_done, wrong_line}

-- a decision that refuses writes the refusal's line
told_nth : (d : Decision) (why : Refusal) (stream : List ℕ) (i : ℕ) → told_decision d ≡ told why → line_of d stream i ≡ nth (refused_lines (numbers_in (told why)).number) i
told_nth (Ok r) why stream i e = absurd (never_accepted why _ e)
told_nth (Err other) why stream i e = ap (λ (o : Outcome). nth (refused_lines (numbers_in o).number) i) e

refused_nth : (d : Decision) (number place : ℕ) (stream : List ℕ) (i : ℕ) → told_decision d ≡ refused number place → line_of d stream i ≡ nth (refused_lines number) i
refused_nth (Ok r) number place stream i e = absurd (not_refused _ number place e)
refused_nth (Err why) number place stream i e = ap (λ (o : Outcome). nth (refused_lines (numbers_in o).number) i) e

stopped_nth : (d : Decision) (number place bit : ℕ) (stream : List ℕ) (i : ℕ) → told_decision d ≡ stopped number place bit → line_of d stream i ≡ nth (refused_lines number) i
stopped_nth (Ok r) number place bit stream i e = absurd (not_stopped _ number place bit e)
stopped_nth (Err why) number place bit stream i e = ap (λ (o : Outcome). nth (refused_lines (numbers_in o).number) i) e

-- the writer's refusal, the offset's, or what comes of both
chosen_lines : (d : Decision) (stream : List ℕ) (i : ℕ) (writer offset more : Outcome) (lines : List (List ℕ)) → told_decision d ≡ and_then writer (and_then offset more)
    → ((w o : List ℕ) → writer ≡ accepted w → offset ≡ accepted o → line_of d stream i ≡ nth lines i) → line_of d stream i ≡ nth (lines_of (and_then writer offset) lines) i
chosen_lines d stream i (refused m p) offset more lines e both = refused_nth d m p stream i e
chosen_lines d stream i (stopped m p q) offset more lines e both = stopped_nth d m p q stream i e
chosen_lines d stream i (accepted w) (refused m p) more lines e both = refused_nth d m p stream i e
chosen_lines d stream i (accepted w) (stopped m p q) more lines e both = stopped_nth d m p q stream i e
chosen_lines d stream i (accepted w) (accepted o) more lines e both = both w o refl refl

module _ (lg : ℕ) (pairs stream : List ℕ) where
  abbrev bits : ℕ
  bits = pairs_bits pair_book (2 ^ lg) pairs

  abbrev codes : ℕ
  codes = pack (pairs_codes pair_book (2 ^ lg) pairs)

  abbrev values : List ℕ
  values = lg ∷ length pairs ∷ flavor_number (flavor_at (2 ^ lg) (length pairs)) ∷ offset_at (2 ^ lg) (length pairs) ∷ base_bits_at (2 ^ lg) (length pairs) ∷ bits ∷ words_for bits ∷ []

  -- a report whose numbers are these
  module _ (r : Report) (after : List ℕ) (told' : accepted (r.lg ∷ r.count ∷ flavor_number r.flavor ∷ r.offset ∷ r.base ∷ r.length.bits.0 ∷ r.length.words.0 ∷ []) ≡ accepted values)
      (wrote : after ≡ words_into (pairs_codes pair_book (2 ^ lg) pairs) bits stream) (i : ℕ) where
    head_same : report_head r ≡ head_lines lg (length pairs) bits
    unfolding report_head head_lines
    head_same =
        let a : r.lg ≡ lg = cc in
        let b : r.count ≡ length pairs = cc in
        let n : flavor_number r.flavor ≡ flavor_number (flavor_at (2 ^ lg) (length pairs)) = cc in
        let c : r.flavor ≡ flavor_at (2 ^ lg) (length pairs) = flavor_number_once _ _ n in
        let d : r.offset ≡ offset_at (2 ^ lg) (length pairs) = cc in
        let e : r.base ≡ base_bits_at (2 ^ lg) (length pairs) = cc in
        let f : r.length.bits.0 ≡ bits = cc in
        let g : r.length.words.0 ≡ words_for bits = cc in
        ap₂ (λ (x y : List (List ℕ)). x ++ y)
        (ap₂ (λ (x y : ℕ). line lg_name (decimal x) ∷ line pairs_name (decimal y) ∷ []) a b)
        (ap₂ (λ (x y : List (List ℕ)). x ++ y)
        (ap₂ (λ (x : Flavor) (y : ℕ). line flavor_name (flavor_word x) ∷ line offset_name (decimal y) ∷ []) c d)
        (ap₂ (λ (x : List (List ℕ)) (y : ℕ). x ++ (line words_name (decimal y) ∷ [])) (ap₂ (λ (x y : ℕ). line base_bits_name (decimal x) ∷ line bits_name (decimal y) ∷ []) e f) g))

    words_same : r.length.words.0 ≡ words_for bits
    words_same = cc

    in_head : i < 7 → report_said r after i ≡ nth (report_lines lg pairs) i
    unfolding report_said report_lines head_lines
    in_head l =
        ap (λ (t : Bool). choose t (nth (report_head r) i) (choose (ltb (i - 7) r.length.words.0) (word_said after (i - 7)) ended)) (lt-ltb i 7 l)
        ∙ ap (λ (lines : List (List ℕ)). nth lines i) head_same
        ∙ sym (nth_front (head_lines lg (length pairs) bits) (word_lines codes 0 (words_for bits)) i l)

    in_words : 7 ≤ i → report_said r after i ≡ nth (report_lines lg pairs) i
    unfolding report_said report_lines head_lines
    in_words h =
        let k = i - 7 in
        let zero_more : 0 + (i - 7) ≡ i - 7 = omega arith in
        let both : choose (ltb k (words_for bits)) (word_said after k) ended ≡ choose (ltb k (words_for bits)) (says (word_line codes k)) ended =
        ⊎_elim
        (λ (l : k < words_for bits). ap (λ (s : Said). choose (ltb k (words_for bits)) s ended) (word_same codes (words_for bits) (drop (4 * words_for bits) stream) after k wrote l))
        (λ (g : words_for bits ≤ k).
        ap (λ (t : Bool). choose t (word_said after k) ended) (le-ltb k (words_for bits) g)
        ∙ sym (ap (λ (t : Bool). choose t (says (word_line codes k)) ended) (le-ltb k (words_for bits) g)))
        (lt_or_le k (words_for bits)) in
        ap (λ (t : Bool). choose t (nth (report_head r) i) (choose (ltb (i - 7) r.length.words.0) (word_said after (i - 7)) ended)) (le-ltb i 7 h)
        ∙ ap (λ (w : ℕ). choose (ltb (i - 7) w) (word_said after (i - 7)) ended) words_same
        ∙ both
        ∙ sym (ap (λ (j : ℕ). choose (ltb k (words_for bits)) (says (word_line codes j)) ended) zero_more)
        ∙ sym (nth_words codes 0 (words_for bits) k)
        ∙ sym (nth_back (head_lines lg (length pairs) bits) (word_lines codes 0 (words_for bits)) i h)

    report_nth : report_said r after i ≡ nth (report_lines lg pairs) i
    report_nth = ⊎_elim in_head in_words (lt_or_le i 7)

  report_lines_is : (d : Decision) (after : List ℕ) → told_decision d ≡ accepted values → after ≡ words_into (pairs_codes pair_book (2 ^ lg) pairs) bits stream
      → (i : ℕ) → line_of d after i ≡ nth (report_lines lg pairs) i
  report_lines_is (Ok r) after e wrote i = report_nth r after e wrote i
  report_lines_is (Err why) after e wrote i = absurd (never_accepted why values (sym e))

  -- the lines of a list that the writer took or refused
  pub written_lines : (d : Decision) (after : List ℕ) → decided_as (told_decision d) after ≡ written_of lg pairs stream → (i : ℕ)
      → line_of d after i ≡ nth (answered stream (asked lg pairs)) i
  unfolding written_of
  written_lines d after e i =
      let n = length pairs in
      let writer = write_pairs_of pair_book lg pairs stream in
      let offset = offset_of lg n in
      let more : Outcome = and_then (base_bits_of lg n) (accepted values) in
      let told' : told_decision d ≡ and_then writer (and_then offset more) = ap (λ (x : Decided). x.outcome) e in
      let left : after ≡ pairs_written pair_book lg pairs stream = ap (λ (x : Decided). x.stream) e in
      chosen_lines d after i writer offset more (report_lines lg pairs) told'
      (λ (w o : List ℕ) (p : writer ≡ accepted w) (q : offset ≡ accepted o).
      let inside = (write_told pair_book lg pairs stream w (sym p)).0 in
      report_lines_is d after
      (told' ∙ ap₂ (λ (x y : Outcome). and_then x (and_then y more)) p q ∙ ap (λ (x : Outcome). and_then x (accepted values)) (base_bits_is lg n inside))
      (left ∙ ap (λ (x : Outcome). if_accepted x (words_into (pairs_codes pair_book (2 ^ lg) pairs) bits stream) stream) p) i)

-- the text is whole
pub whole_lines : (p : Progress) (pairs stream : List ℕ) (d : Decision) (after : List ℕ) → decided_as (told_decision d) after ≡ decide_of p pairs stream
    → (i : ℕ) → line_of d after i ≡ nth (answered stream (resumed p pairs [])) i
unfolding read_decided
whole_lines (Err why) pairs stream d after e i = told_nth d why after i (ap (λ (x : Decided). x.outcome) e)
whole_lines (Ok r) pairs stream d after e i =
    let room = ltb (length pairs) r.count in
    let inside : Decided = choose (done r) (written_of r.lg (take r.count pairs) stream) (decided_as (refused 15 0) stream) in
    ⊎_elim
    (λ (l : length pairs < r.count).
    told_nth d NoRoom after i (ap (λ (x : Decided). x.outcome) (e ∙ ap (λ (t : Bool). choose t (decided_as (refused 5 0) stream) inside) (lt-ltb (length pairs) r.count l)))
    ∙ sym (ap (λ (t : Bool). nth (answered stream (choose t (unasked 5) (choose (done r) (with_pairs (take r.count pairs) (no_more r.lg [])) (line_then pairs r (field_rest r.lines r.field []))))) i) (lt-ltb (length pairs) r.count l)))
    (λ (fits : r.count ≤ length pairs).
    let judged : decided_as (told_decision d) after ≡ inside = e ∙ ap (λ (t : Bool). choose t (decided_as (refused 5 0) stream) inside) (le-ltb (length pairs) r.count fits) in
    ⊎_elim
    (λ (all : done r ≡ true).
    written_lines r.lg (take r.count pairs) stream d after
    (judged ∙ ap (λ (t : Bool). choose t (written_of r.lg (take r.count pairs) stream) (decided_as (refused 15 0) stream)) all) i
    ∙ sym (ap (λ (a : Asked). nth (answered stream a) i) (resumed_done r pairs [] fits all ∙ ap (asked r.lg) (append-nil (take r.count pairs)))))
    (λ (open' : done r ≡ false).
    told_nth d NotLawful after i
    (ap (λ (x : Decided). x.outcome) (judged ∙ ap (λ (t : Bool). choose t (written_of r.lg (take r.count pairs) stream) (decided_as (refused 15 0) stream)) open'))
    ∙ sym (ap (λ (a : Asked). nth (answered stream a) i)
    (resumed_open r pairs [] fits open' ∙ ap (line_then pairs r) (none_rest r.lines r.field) ∙ wrong_line pairs r)))
    (true_or_false (done r)))
    (lt_or_le (length pairs) r.count)
