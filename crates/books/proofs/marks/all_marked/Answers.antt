-- `books::marks::all_marked` meets its contract. Assumes nothing.
use native.Mathlib.Omega.{arith}
use Rattle.std.proofs.Common.{◌≡◌, ◌≢◌, ◌∙◌, ◌-◌, ◌^◌, drop, length, rules, tests}
use Rattle.std.proofs.lemmas.Iterator.{cases_from_all, YieldsList-from_slice}
use Rattle.std.proofs.lemmas.List.{take_all, length-drop}
use Rattle.books.proofs.Spreading.{all_full}
use Rattle.books.proofs.marks.all_marked.Goals as goal

pub returns : goal.returns
returns c =
    let marks = c.args.marks.now in
    let size : length marks ≡ 128 = search rules in
    let tail = c.iter.ensures.rest ∙ take_all 64 (drop 64 marks) (omega (arith, length-drop 64 marks)) in
    all_full marks size (search rules) c.all.result
    (cases_from_all _ _ _ (λ x. x ≡ 2 ^ 64 - 1) (λ x. x ≢ 2 ^ 64 - 1) c.all.ensures.ran (YieldsList-from_slice (drop 64 marks) tail)
    (λ x q k. search (rules, tests)) (λ x q k. search (rules, tests)))
