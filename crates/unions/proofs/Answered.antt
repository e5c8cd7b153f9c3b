-- A refusal goes through the judgements that would follow it, and keeps what was lent. Assumes nothing.
use mathlib.Core.Path.{◌≡◌, refl, sym, ap, ◌∙◌}
use mathlib.Core.List.{List}
use Prim.Native.Nat.{ℕ}
use Rattle.refusals.specs.Outcome.{Outcome, refused, stopped, if_accepted, and_then, accepted}
use Rattle.refusals.specs.Told.{told}
use Rattle.refusals.specs.declared.Refusal.{Refusal}
use Rattle.refusals.proofs.Refusing.{Refuses, by_place, by_bit, refuses, kept}

pub kept_as : (why : Refusal) {o : Outcome} (after before : List ℕ) → told why ≡ o → before ≡ if_accepted o after before
kept_as why after before e = sym (kept why after before) ∙ ap (λ (o : Outcome). if_accepted o after before) e

through_by : (o : Outcome) → Refuses o → (more : Outcome) → and_then o more ≡ o
through_by (refused number place) by_place more = refl
through_by (stopped number place bit) by_bit more = refl
through_by (accepted _) never more = elim never [ ]

pub through : (why : Refusal) {o : Outcome} (more : Outcome) → told why ≡ o → told why ≡ and_then o more
through why more e = sym (through_by (told why) (refuses why) more) ∙ ap (λ (o : Outcome). and_then o more) e
