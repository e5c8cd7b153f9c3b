-- `pair_table::shape::Shape::of` meets its contract. Assumes nothing.
use mathlib.Core.Bool.{true, false}
use mathlib.Core.Path.{◌≡◌}
use native.Mathlib.Omega.{arith}
use Rattle.laws.proofs.Truths.{never_true}
use Rattle.tables.specs.Slots.{sized}
use Rattle.tables.proofs.Bridges.{Sized, sized_is, is_sized}
use Rattle.pair_table.proofs.shape.Shape.of.Goals as goal
use Rattle.pair_table.proofs.shape.Shape.of.Goals.{then-lg-lt2-via-then-lg-lt2, then-lg-lt2-via-else-lg-lt2+then-lg-gt26, then-lg-lt2-via-else-lg-lt2+else-lg-gt26+then-valid-lg, then-lg-lt2-via-else-lg-lt2+else-lg-gt26+else-valid-lg+then-valid-gt32}

pub returns-then-lg-lt2-clause-says : goal.returns-then-lg-lt2-clause-says
returns-then-lg-lt2-clause-says c =
    let none : Sized c.args.lg c.args.valid → ⊥ = λ s. elim c.then-lg-lt2.branch [
      | then-lg-lt2-via-then-lg-lt2 w ↦ omega (arith, w.if-lg-lt2.true, s)
      | then-lg-lt2-via-else-lg-lt2+then-lg-gt26 w ↦ omega (arith, w.if-lg-gt26.true, s)
      | then-lg-lt2-via-else-lg-lt2+else-lg-gt26+then-valid-lg w ↦ omega (arith, w.if-valid-lg.true, s)
      | then-lg-lt2-via-else-lg-lt2+else-lg-gt26+else-valid-lg+then-valid-gt32 w ↦ omega (arith, w.if-valid-gt32.true, s)
    ] in
    let no : sized c.args.lg c.args.valid ≡ false = never_true (sized c.args.lg c.args.valid) (λ e. none (sized_is c.args.lg c.args.valid e)) in
    simp no

pub returns-clause-says : goal.returns-clause-says
returns-clause-says c =
    let yes : sized c.args.lg c.args.valid ≡ true = is_sized c.args.lg c.args.valid (record {
      lg_least = c.if-lg-lt2.false;
      lg_most = c.if-lg-gt26.false;
      bits_least = c.if-valid-lg.false;
      bits_most = c.if-valid-gt32.false;
    }) in
    simp yes
