-- Every line of a report has at most 64 bytes, so an output of 64 bytes is room for each, and the program's is 4,096. Assumes nothing.
use mathlib.Core.Path.{◌≡◌, ap, ◌∙◌}
use mathlib.Core.Bool.{Bool}
use mathlib.Core.List.{List, [], ◌∷◌, ◌++◌}
use Prim.Native.Nat.{ℕ, zero, suc, ◌*◌, ◌^◌, ◌≤◌}
use native.Mathlib.Omega.{arith}
use lib.ListN.{length, drop, length-append}
use borrow.Author.Tests.{le-ltb}
use Rattle.std.specs.Prelude.{Some, None, Ok, Err}
use Rattle.laws.specs.Choose.{choose}
use Rattle.refusals.specs.Outcome.{Outcome, accepted, refused, stopped}
use Rattle.refusals.specs.declared.Refusal.{Refusal}
use Rattle.refusals.specs.declared.Refusal.TheVariants.{NoRoom}
use Rattle.numbers.specs.Numbers.{flavor_at}
use Rattle.numbers.specs.declared.Flavor.{Flavor}
use Rattle.numbers.specs.declared.Flavor.TheVariants.{Empty, Sparse, Hybrid, Pinned, Sliding}
use Rattle.streams.specs.Stream.{bits_at}
use Rattle.reporting.specs.Lines.{decimal, line, lg_name, pairs_name}
use Rattle.reporting.specs.Asked.{Asked, asked, unasked, asked_by}
use Rattle.reporting.specs.Report.{flavor_name, offset_name, base_bits_name, bits_name, words_name, word_name, refused_name, flavor_word, head_lines, word_lines, report_lines, refused_lines, decided, lines_of, answered, report_of}
use Rattle.reporting.specs.Calls.{LineAnswer, nth, Laid, laid, said_into}
use Rattle.reporting.proofs.Laying.{short, line_length}

data AllShort : List (List ℕ) → Type 0 where
  no_line : AllShort []
  one_more : {text : List ℕ} {lines : List (List ℕ)} → length text ≤ 64 → AllShort lines → AllShort (text ∷ lines)

number_short : (name : List ℕ) (n : ℕ) → length name ≤ 21 → length (line name (decimal n)) ≤ 64
number_short name n l = omega (arith, line_length name (decimal n), short n)

flavor_short : (f : Flavor) → length (line flavor_name (flavor_word f)) ≤ 64
flavor_short Empty = omega arith
flavor_short Sparse = omega arith
flavor_short Hybrid = omega arith
flavor_short Pinned = omega arith
flavor_short Sliding = omega arith

words_short : (stream i left : ℕ) → AllShort (word_lines stream i left)
unfolding word_lines
words_short stream i zero = no_line
words_short stream i (suc left) =
    one_more (number_short (word_name ++ decimal i) (bits_at stream (32 * i) 32) (omega (arith, length-append word_name (decimal i), short i))) (words_short stream (suc i) left)

report_short : (lg : ℕ) (pairs : List ℕ) → AllShort (report_lines lg pairs)
unfolding report_lines head_lines
report_short lg pairs =
    one_more (number_short lg_name _ (omega arith))
    (one_more (number_short pairs_name _ (omega arith))
    (one_more (flavor_short (flavor_at (2 ^ lg) (length pairs)))
    (one_more (number_short offset_name _ (omega arith))
    (one_more (number_short base_bits_name _ (omega arith))
    (one_more (number_short bits_name _ (omega arith)) (one_more (number_short words_name _ (omega arith)) (words_short _ 0 _)))))))

refusal_short : (number : ℕ) → AllShort (refused_lines number)
refusal_short number = one_more (number_short refused_name number (omega arith)) no_line

lines_short : (o : Outcome) (lines : List (List ℕ)) → AllShort lines → AllShort (lines_of o lines)
lines_short (accepted values) lines all = all
lines_short (refused number place) lines all = refusal_short number
lines_short (stopped number place bit) lines all = refusal_short number

answered_short : (stream : List ℕ) (a : Asked) → AllShort (answered stream a)
answered_short stream (asked lg pairs) = lines_short (decided lg pairs stream) (report_lines lg pairs) (report_short lg pairs)
answered_short stream (unasked number) = refusal_short number

-- a line, or the end
told_or_ended : {lines : List (List ℕ)} → AllShort lines → (i : ℕ) (out o : List ℕ) (a : LineAnswer) (why : Refusal) → 64 ≤ length out
    → laid a o ≡ said_into (nth lines i) out → a ≡ Err why → ⊥
told_or_ended no_line i out o a why room e r =
    let end : a ≡ (Ok None) = ap (λ (l : Laid). l.answer) e in let z : ◌≡◌ {A = ℕ} 0 1 = cc in omega arith
told_or_ended (one_more {text} l all) zero out o a why room e r =
    let long : a ≡ Ok (Some (length text)) =
    ap (λ (x : Laid). x.answer) e
    ∙ ap (λ (t : Bool). (choose t (laid (Err NoRoom) out) (laid (Ok (Some (length text))) (text ++ drop (length text) out))).answer) (le-ltb (length out) (length text) (omega arith)) in
    let z : ◌≡◌ {A = ℕ} 0 1 = cc in omega arith
told_or_ended (one_more l all) (suc i) out o a why room e r = told_or_ended all i out o a why room e r

-- where the output has 64 bytes, no line of what is written of a text is refused
pub never_refused : (room : ℕ) (stream text out o : List ℕ) (i : ℕ) (a : LineAnswer) (why : Refusal) → 64 ≤ length out
    → laid a o ≡ said_into (nth (report_of room stream text) i) out → a ≡ Err why → ⊥
never_refused room stream text out o i a why = told_or_ended (answered_short stream (asked_by room text)) i out o a why
