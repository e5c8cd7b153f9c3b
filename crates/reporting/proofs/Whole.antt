-- The theorem that matters: however a text is cut into parts, what the calls write of it is what the definition says of the whole. Assumes nothing.
use mathlib.Core.Path.{◌≡◌, refl, ap, ◌∙◌}
use mathlib.Core.List.{List, [], ◌∷◌, ◌++◌}
use Prim.Native.Nat.{ℕ}
use lib.ListN.{length}
use Rattle.reporting.specs.Asked.{Asked}
use Rattle.reporting.specs.Report.{answered, report_of}
use Rattle.reporting.specs.Machine.{Progress, Held, held, taken_of, begun}
use Rattle.reporting.specs.Calls.{Decision, LineAnswer, told_decision, decided_as, decide_of, Said, nth, line_of, laid, said_into}
use Rattle.reporting.proofs.Resumed.{resumed, part_resumed, begin_resumed}
use Rattle.reporting.proofs.Answered.{whole_lines}

-- part after part, each taken where the one before left off
unfoldable pub parts_taken : Progress → List (List ℕ) → List ℕ → Held
parts_taken p [] pairs = held p pairs
parts_taken p (part ∷ parts) pairs = parts_taken (taken_of p part pairs).progress parts (taken_of p part pairs).pairs

-- the whole text
unfoldable pub joined : List (List ℕ) → List ℕ
joined [] = []
joined (part ∷ parts) = part ++ joined parts

parts_resumed : (p : Progress) (parts : List (List ℕ)) (pairs : List ℕ)
    → resumed (parts_taken p parts pairs).progress (parts_taken p parts pairs).pairs [] ≡ resumed p pairs (joined parts)
unfolding parts_taken joined
parts_resumed p [] pairs = refl
parts_resumed p (part ∷ parts) pairs =
    parts_resumed (taken_of p part pairs).progress parts (taken_of p part pairs).pairs ∙ part_resumed p part pairs (joined parts)

-- Feed the parts, decide with any stream, and ask for the lines: line i is line i of the definition's list for the joined text, and the end is where that list ends.
-- d and after stand for any answer of `decide` and any stream that it leaves, as its contract has them.
pub whole : (parts : List (List ℕ)) (pairs stream : List ℕ) (d : Decision) (after : List ℕ)
    → decided_as (told_decision d) after ≡ decide_of (parts_taken begun parts pairs).progress (parts_taken begun parts pairs).pairs stream
    → (i : ℕ) → line_of d after i ≡ nth (report_of (length pairs) stream (joined parts)) i
whole parts pairs stream d after e i =
    whole_lines (parts_taken begun parts pairs).progress (parts_taken begun parts pairs).pairs stream d after e i
    ∙ ap (λ (a : Asked). nth (answered stream a) i) (parts_resumed begun parts pairs ∙ begin_resumed pairs (joined parts))

-- The same of the call `line`: what it answers, and what the lent output holds afterwards.
pub written : (parts : List (List ℕ)) (pairs stream : List ℕ) (d : Decision) (after : List ℕ)
    → decided_as (told_decision d) after ≡ decide_of (parts_taken begun parts pairs).progress (parts_taken begun parts pairs).pairs stream
    → (i : ℕ) (out o : List ℕ) (a : LineAnswer) → laid a o ≡ said_into (line_of d after i) out
    → laid a o ≡ said_into (nth (report_of (length pairs) stream (joined parts)) i) out
written parts pairs stream d after e i out o a l = l ∙ ap (λ (s : Said). said_into s out) (whole parts pairs stream d after e i)
