-- `unions::splitting::list_row`: what its loops keep true, and why they end. Assumes nothing.
use lib.ListN.{length}
use Rattle.matrices.specs.Shapes.{row_pairs}
use Rattle.matrices.proofs.ListTurn.{Listed}
use Rattle.unions.proofs.splitting.list_row.Given as goal

abbrev pub invariant-loop-rest : goal.invariant-loop-rest
invariant-loop-rest l = Listed l.row l.w l.n l.initial.out l.out l.rest l.i

abbrev pub decreases-loop-rest : goal.decreases-loop-rest
decreases-loop-rest l = length (row_pairs l.row l.rest)
