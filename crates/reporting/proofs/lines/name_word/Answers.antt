-- `reporting::lines::name_word` meets its contract. Assumes nothing.
use Rattle.reporting.proofs.Laying.{few}
use mathlib.Core.Path.{ap, ◌∙◌}
use mathlib.Core.List.{List, [], ◌∷◌}
use Prim.Native.Nat.{ℕ, ◌≤◌}
use native.Mathlib.Omega.{arith}
use lib.ListN.{length}
use Rattle.reporting.proofs.Stepping.{front_length}
use Rattle.reporting.proofs.Laying.{printed, name_put}
use Rattle.reporting.proofs.lines.name_word.Goals as goal

pub put-requires : goal.put-requires
put-requires c = let a = c.args in
    let d = c.decimal-length in
    let most = few a.index d.result c.ranges.index.fits d.ensures.len in
    omega (arith, d.ensures.in_bounds, c.put-at.auto.out, c.put-at.ensures.0)

pub returns : goal.returns
returns c = let a = c.args in
    let d = c.decimal-length in
    let o₂ = c.put.new.out in
    let r₂ = c.put.result in
    let most = few a.index d.result c.ranges.index.fits d.ensures.len in
    let fits : r₂ ≤ length o₂ = omega (arith, d.ensures.in_bounds, c.put-at.auto.out, c.put-at.ensures.0, c.put.auto.out, c.put.ensures.0) in record {
      prefix_len = (fits, front_length r₂ o₂ fits);
      name_after = name_put (119 ∷ []) a.name.now c.put-at.new.out o₂ _ c.put-at.result r₂ c.put-at.ensures c.put.ensures
          ∙ ap (λ (t : List ℕ). 119 ∷ t) (printed a.index d.result _ most d.ensures.len d.ensures.digits);
    }
