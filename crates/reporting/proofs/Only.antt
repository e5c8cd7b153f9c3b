-- No second outcome satisfies what a public call promises. Assumes nothing.
use mathlib.Core.Path.{◌≡◌, sym, ap, ap₂, ◌∙◌}
use mathlib.Core.List.{List}
use Prim.Native.Nat.{ℕ}
use Rattle.std.specs.Prelude.{Ok, Err}
use Rattle.refusals.proofs.Only.{told_once, never_accepted}
use Rattle.numbers.specs.Told.{flavor_number}
use Rattle.numbers.specs.declared.Flavor.{Flavor}
use Rattle.numbers.proofs.Only.{flavor_number_once}
use Rattle.reporting.specs.Machine.{Progress, Held, held, taken_of, begun}
use Rattle.reporting.specs.Calls.{Decision, LineAnswer, told_decision, Decided, decided_as, decide_of, Laid, laid, said_into, line_of}
use Rattle.reporting.specs.declared.Report.{Report}

pub one_begin : (a b : Progress) → a ≡ begun → b ≡ begun → a ≡ b
one_begin a b p q = p ∙ sym q

pub one_take : (p : Progress) (part pairs o u : List ℕ) (a b : Progress) → held a o ≡ taken_of p part pairs → held b u ≡ taken_of p part pairs → (a ≡ b) × (o ≡ u)
one_take p part pairs o u a b x y = let e = x ∙ sym y in (ap (λ (h : Held). h.progress) e, ap (λ (h : Held). h.pairs) e)

-- a report by its numbers
abbrev made : ℕ → ℕ → Flavor → ℕ → ℕ → ℕ → ℕ → Report
made lg count flavor offset base bits words =
    record { lg = lg; count = count; flavor = flavor; offset = offset; base = base; length = record { bits = record { 0 = bits }; words = record { 0 = words } } }

report_once : (r s : Report) → r.lg ≡ s.lg → r.count ≡ s.count → r.flavor ≡ s.flavor → r.offset ≡ s.offset → r.base ≡ s.base → r.length.bits.0 ≡ s.length.bits.0
    → r.length.words.0 ≡ s.length.words.0 → r ≡ s
report_once r s a b c d e f g =
    ap₂ (λ (x y : ℕ). made x y r.flavor r.offset r.base r.length.bits.0 r.length.words.0) a b
    ∙ ap₂ (λ (x : Flavor) (y : ℕ). made s.lg s.count x y r.base r.length.bits.0 r.length.words.0) c d
    ∙ ap₂ (λ (x y : ℕ). made s.lg s.count s.flavor s.offset x y r.length.words.0) e f
    ∙ ap (λ (x : ℕ). made s.lg s.count s.flavor s.offset s.base s.length.bits.0 x) g

-- what a decision is told as decides it
pub decision_once : (a b : Decision) → told_decision a ≡ told_decision b → a ≡ b
decision_once (Ok r) (Ok s) e =
    let n : flavor_number r.flavor ≡ flavor_number s.flavor = cc in
    ap Ok (report_once r s (cc) (cc) (flavor_number_once _ _ n) (cc) (cc) (cc) (cc))
decision_once (Ok r) (Err why) e = absurd (never_accepted why _ e)
decision_once (Err why) (Ok s) e = absurd (never_accepted why _ (sym e))
decision_once (Err why) (Err other) e = ap Err (told_once why other e)

pub one_decision : (p : Progress) (pairs stream o u : List ℕ) (a b : Decision) → decided_as (told_decision a) o ≡ decide_of p pairs stream
    → decided_as (told_decision b) u ≡ decide_of p pairs stream → (a ≡ b) × (o ≡ u)
one_decision p pairs stream o u a b x y =
    let e = x ∙ sym y in (decision_once a b (ap (λ (d : Decided). d.outcome) e), ap (λ (d : Decided). d.stream) e)

pub one_line : (d : Decision) (stream : List ℕ) (i : ℕ) (out o u : List ℕ) (a b : LineAnswer) → laid a o ≡ said_into (line_of d stream i) out
    → laid b u ≡ said_into (line_of d stream i) out → (a ≡ b) × (o ≡ u)
one_line d stream i out o u a b x y = let e = x ∙ sym y in (ap (λ (l : Laid). l.answer) e, ap (λ (l : Laid). l.out) e)
