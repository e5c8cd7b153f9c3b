-- `compression::pair_codes::PairCodes::put_apart` meets its contract. Assumes nothing.
use native.Mathlib.Omega.{arith}
use mathlib.Core.Path.{sym, subst}
use mathlib.Core.List.{[], ◌∷◌}
use Prim.Native.Nat.{ℕ, ◌^◌, ◌<◌}
use Rattle.streams.specs.Codes.{Code, zeros_one}
use Rattle.compression.specs.Writing.{PutBy, entry_code}
use Rattle.compression.proofs.PuttingCodes.{puts_one, puts_then, parts_total}
use Rattle.compression.proofs.pair_codes.PairCodes.put_apart.Goals as goal

pub put-requires : goal.put-requires
put-requires c = let a = c.args.self in
    (c.requires.0, a.shaped.fits, omega (arith, a.shaped.most), omega (arith, c.requires.1, parts_total a.entry a.zeros a.base.count a.low))

pub put_unary-requires : goal.put_unary-requires
put_unary-requires c = let a = c.args.self in
    let p = c.put.ensures in
    (p.lawful, omega (arith, c.requires.1, p.sum, p.size, parts_total a.entry a.zeros a.base.count a.low))

pub put-requires-2 : goal.put-requires-2
put-requires-2 c = let a = c.args.self in
    let p = c.put.ensures in
    let q = c.put_unary.ensures in (
      q.lawful,
      subst (λ (b : ℕ). a.low < 2 ^ b) (sym c.from.ensures) a.lower,
      omega (arith, c.from.ensures, a.base.few),
      omega (arith, c.from.ensures, c.requires.1, p.sum, p.size, q.sum, q.size, parts_total a.entry a.zeros a.base.count a.low),
    )

pub returns : goal.returns
returns c = let a = c.args.self in
    let o = c.args.out.now in
    let w = c.args.w in
    let low : Code = record { value = a.low; count = a.base.count } in
    let last = subst (λ (b : ℕ). PutBy c.put_unary.new.out c.put-2.new.out c.put_unary.result c.put-2.result a.low b) c.from.ensures c.put-2.ensures in
    puts_then o c.put.new.out c.put-2.new.out w c.put.result c.put-2.result (entry_code a.entry ∷ [])
    (zeros_one a.zeros ∷ low ∷ []) (puts_one o c.put.new.out w c.put.result (entry_code a.entry) c.put.ensures)
    (puts_then c.put.new.out c.put_unary.new.out c.put-2.new.out c.put.result c.put_unary.result c.put-2.result
    (zeros_one a.zeros ∷ []) (low ∷ [])
    (puts_one c.put.new.out c.put_unary.new.out c.put.result c.put_unary.result (zeros_one a.zeros) c.put_unary.ensures)
    (puts_one c.put_unary.new.out c.put-2.new.out c.put_unary.result c.put-2.result low last))
