-- Rows that are merged into. Assumes nothing.
use Rattle.std.specs.Prelude.{◌≡◌, ℕ, List}
use Rattle.numbers.specs.declared.size.SketchSize.{SketchSize}
use Rattle.unions.specs.declared.rows.Rows.{Rows}

-- rows behind the same reference, which now have this size and are m
abbrev pub LeftAs : Rows → Rows → SketchSize → List ℕ → Type 0
LeftAs before after size m = (after.words.now ≡ m) × (after.size ≡ size) × (after.words.ghost_name ≡ before.words.ghost_name)
