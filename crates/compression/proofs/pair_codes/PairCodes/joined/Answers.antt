-- `compression::pair_codes::PairCodes::joined` meets its contract. Assumes nothing.
use native.Mathlib.Omega.{arith}
use mathlib.Core.Path.{sym, ap, ◌∙◌, subst}
use Prim.Native.Nat.{ℕ, ◌+◌, ◌*◌, ◌/◌, ◌%◌, ◌^◌, ◌<◌}
use lib.Pow.{pow-add, shl_exact}
use Rattle.compression.proofs.PuttingCodes.{parts_pack, parts_small}
use Rattle.compression.proofs.pair_codes.PairCodes.joined.Goals as goal

pub returns : goal.returns
returns c = let a = c.args.self in
    let b = a.base.count in
    let odd : a.low * 2 + 1 < 2 ^ (b + 1) = omega (arith, a.lower, pow-add 2 b 1) in
    let moved = shl_exact (b + 1) (a.entry / 4096 + a.zeros) 64 odd (omega (arith, a.shaped.most)) in
    let is = ap (λ (x : ℕ). a.entry % 4096 + x) moved ∙ sym (parts_pack a.entry a.zeros b a.low) in
    (is, subst (λ (x : ℕ). x < 2 ^ (a.entry / 4096 + a.zeros + 1 + b)) (sym is) (parts_small a.entry a.zeros b a.low a.shaped a.lower))
