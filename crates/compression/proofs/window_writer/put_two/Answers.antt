-- `compression::window_writer::put_two` meets its contract. Assumes nothing.
use native.Mathlib.Omega.{arith}
use mathlib.Core.Path.{◌≡◌, subst}
use Prim.Native.Nat.{ℕ, ◌+◌, ◌*◌, ◌/◌, ◌%◌, ◌^◌}
use lib.Pow.{shl_exact}
use Rattle.compression.specs.Writing.{PutBy, entry_code}
use Rattle.compression.proofs.PuttingCodes.{puts_two, total_two}
use Rattle.compression.proofs.PuttingWindow.{two_small}
use Rattle.compression.proofs.window_writer.put_two.Goals.{Start}
use Rattle.compression.proofs.window_writer.put_two.Goals as goal

-- the second codeword loses nothing where it is moved to
moved : (c : Start) → c.args.second % 4096 * 2 ^ (c.args.first / 4096) % 2 ^ 64 ≡ c.args.second % 4096 * 2 ^ (c.args.first / 4096)
moved c = shl_exact (c.args.second / 4096) (c.args.first / 4096) 64 c.requires.2.fits (omega (arith, c.requires.1.most, c.requires.2.most))

pub put-requires : goal.put-requires
put-requires c = let a = c.args in (
  c.requires.0,
  rw (moved (goal.at.put-requires c).Start) (two_small a.first a.second c.requires.1 c.requires.2),
  omega (arith, c.requires.1.most, c.requires.2.most),
  omega (arith, c.requires.3, total_two (entry_code a.first) (entry_code a.second)),
)

pub returns : goal.returns
returns c = let a = c.args in
    puts_two a.out.now c.put.new.out a.w c.put.result (entry_code a.first) (entry_code a.second)
    (subst (λ (x : ℕ). PutBy a.out.now c.put.new.out a.w c.put.result (a.first % 4096 + x) (a.first / 4096 + a.second / 4096)) (moved (goal.at.returns c).Start)
    c.put.ensures)
