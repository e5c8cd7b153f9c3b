-- `compression::step_reader::steps_at_once` meets its contract. Assumes nothing.
use mathlib.Core.Path.{sym, ap, ◌∙◌, subst}
use Prim.Native.Nat.{ℕ, ◌+◌, ◌*◌, ◌/◌, ◌%◌, ◌^◌, ◌<◌}
use native.Mathlib.Omega.{arith}
use lib.Count.{count_trailing_zeros}
use Rattle.streams.proofs.Zeros.{zeros_mod}
use Rattle.compression.specs.Reading.{place_of}
use Rattle.compression.proofs.LookingFields.{row_exact, row_fits}
use Rattle.compression.proofs.StepsAtOnce.{both_steps}
use Rattle.compression.proofs.step_reader.steps_at_once.Goals as goal

pub overflow_add-result : goal.overflow_add-result
overflow_add-result c = let z = c.from.result in
    let b = c.args.base in
    let few : z < 2 ^ 34 = omega (arith, c.from.ensures, c.zeros_in-zeros.ensures.1) in
    rw (row_exact z b.count few b.few) (record { fits = row_fits z b.count c.low-low.result few b.few c.low-low.ensures.1 })

pub returns : goal.returns
returns c = let a = c.args in
    let z = c.zeros_in-zeros in
    let low = c.low-low in
    let b = a.base.count in
    let rest_is = c.requires.rest_value.0 in
    λ stream table st is.
    let after = c.skip.ensures stream st in (
      both_steps stream table b a.cursor st a.entry is c.requires.held_bound.2 c.requires.held_bound.0 z.result
          (subst (λ (r : ℕ). 0 < r % 256) rest_is c.requires.rest_value.1)
          (z.ensures.0 ∙ sym (zeros_mod 8 a.rest) ∙ ap (λ (r : ℕ). count_trailing_zeros 8 (r % 256)) rest_is) z.ensures.1 low.result _ (place_of c.skip.result)
          (low.ensures.0 ∙ ap (λ (r : ℕ). r / 2 ^ (z.result + 1) % 2 ^ b) rest_is)
          (ap (λ (x : ℕ). x + low.result) (row_exact c.from.result b (omega (arith, c.from.ensures, z.ensures.1)) a.base.few ∙ ap (λ (x : ℕ). x * 2 ^ b) c.from.ensures)) after.1,
      after.0,
      omega arith,
    )
