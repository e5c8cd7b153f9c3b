-- Document 01's example: its five lines are answered by its nine, wherever there is room for three pairs and two words. Assumes nothing.
use mathlib.Core.Path.{◌≡◌, refl, ap, ap₂, ◌∙◌}
use mathlib.Core.Bool.{Bool}
use mathlib.Core.List.{List, [], ◌∷◌, ◌++◌}
use Prim.Native.Nat.{ℕ, ◌≤◌}
use lib.ListN.{length}
use borrow.Author.Tests.{le-ltb}
use Rattle.laws.specs.Choose.{choose}
use Rattle.laws.specs.Lists.{list_of}
use Rattle.refusals.specs.Outcome.{Outcome, accepted, refused, and_then}
use Rattle.numbers.specs.Numbers.{flavor_at, offset_at, base_bits_at, floor_log2, halvings}
use Rattle.numbers.specs.Calls.{offset_of}
use Rattle.practice.specs.Practice.{pair_entry, pair_book}
use Rattle.practice.proofs.Passes.{pair_passes}
use Rattle.pair_lists.specs.Lists.{judged_from}
use Rattle.streams.specs.Codes.{total, pack}
use Rattle.streams.specs.Written.{codes_from}
use Rattle.streams.specs.Calls.{write_pairs_of}
use Rattle.reporting.specs.Lines.{lg_name, pairs_name, digits_within, line}
use Rattle.reporting.specs.Asked.{digits_to, after, asked, unasked, pair_lines, asked_by}
use Rattle.reporting.specs.Report.{flavor_name, offset_name, base_bits_name, bits_name, words_name, head_lines, word_lines, report_lines, lines_of, answered, report_of}

-- lg_k=4, pairs=3, p0=5, p1=70, p2=71
abbrev text : List ℕ
text = line lg_name (52 ∷ []) ++ line pairs_name (51 ∷ []) ++ line (112 ∷ 48 ∷ []) (53 ∷ []) ++ line (112 ∷ 49 ∷ []) (55 ∷ 48 ∷ []) ++ line (112 ∷ 50 ∷ []) (55 ∷ 49 ∷ [])

-- lg_k=4, pairs=3, flavor=hybrid, offset=0, base_bits=2, bits=36, words=2, w0=56754704, w1=0
abbrev lines : List (List ℕ)
lines =
    line lg_name (52 ∷ [])
    ∷ line pairs_name (51 ∷ [])
    ∷ line flavor_name (104 ∷ 121 ∷ 98 ∷ 114 ∷ 105 ∷ 100 ∷ [])
    ∷ line offset_name (48 ∷ [])
    ∷ line base_bits_name (50 ∷ [])
    ∷ line bits_name (51 ∷ 54 ∷ [])
    ∷ line words_name (50 ∷ [])
    ∷ line (119 ∷ 48 ∷ []) (53 ∷ 54 ∷ 55 ∷ 53 ∷ 52 ∷ 55 ∷ 48 ∷ 52 ∷ [])
    ∷ line (119 ∷ 49 ∷ []) (48 ∷ [])
    ∷ []

asks : (room : ℕ) → 3 ≤ room → asked_by room text ≡ asked 4 (5 ∷ 70 ∷ 71 ∷ [])
unfolding digits_to after pair_lines
asks room h = ap (λ (t : Bool). choose t (unasked 5) (asked 4 (5 ∷ 70 ∷ 71 ∷ []))) (le-ltb room 3 h)

writes : (stream : List ℕ) → 8 ≤ length stream → write_pairs_of pair_book 4 (5 ∷ 70 ∷ 71 ∷ []) stream ≡ accepted (36 ∷ 2 ∷ [])
unfolding write_pairs_of judged_from codes_from total base_bits_at floor_log2 halvings pair_book pair_entry list_of
writes stream h =
    ap₂ (λ (o : Outcome) (t : Bool). and_then o (choose t (refused 5 0) (accepted (36 ∷ 2 ∷ [])))) pair_passes (le-ltb (length stream) 8 h)

reports : report_lines 4 (5 ∷ 70 ∷ 71 ∷ []) ≡ lines
unfolding report_lines head_lines word_lines digits_within flavor_at offset_at codes_from total pack base_bits_at floor_log2 halvings pair_book pair_entry list_of
reports = refl

pub example : (room : ℕ) (stream : List ℕ) → 3 ≤ room → 8 ≤ length stream → report_of room stream text ≡ lines
unfolding offset_of
example room stream r h =
    ap (answered stream) (asks room r)
    ∙ ap (λ (o : Outcome). lines_of (and_then o (offset_of 4 3)) (report_lines 4 (5 ∷ 70 ∷ 71 ∷ []))) (writes stream h) ∙ reports
