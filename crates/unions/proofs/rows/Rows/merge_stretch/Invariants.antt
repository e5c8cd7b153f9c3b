-- `unions::rows::Rows::merge_stretch`: what its loops keep true, and why they end. Assumes nothing.
use Rattle.unions.specs.Steps.{Stretched}
use Rattle.unions.specs.Rows.{LeftAs}
use Rattle.unions.proofs.rows.Rows.merge_stretch.Given as goal

abbrev pub invariant-loop-r : goal.invariant-loop-r
invariant-loop-r l = Stretched l.initial.self.size.k l.offset.column l.window l.from l.r l.initial.self.words.now l.self.words.now × LeftAs l.initial.self l.self l.initial.self.size l.self.words.now
