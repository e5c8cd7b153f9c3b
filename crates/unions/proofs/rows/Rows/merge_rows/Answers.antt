-- `unions::rows::Rows::merge_rows` meets its contract. Assumes nothing.
use mathlib.Core.Path.{◌≡◌, refl, sym, ◌∙◌, ap}
use mathlib.Core.Bool.{Bool, ◌||◌}
use mathlib.Core.List.{List}
use Prim.Native.Nat.{ℕ, ◌%◌, ◌≤◌, ◌<◌}
use native.Mathlib.Omega.{arith}
use lib.ListN.{length, set, length-set}
use Rattle.laws.specs.Columns.{has, word_of}
use Rattle.numbers.specs.declared.size.SketchSize.{SketchSize}
use Rattle.matrices.specs.Matrix.{at, matrix_of}
use Rattle.matrices.specs.Shapes.{merged}
use Rattle.matrices.proofs.Merging.{merge_start, merge_turn}
use Rattle.unions.specs.Steps.{early_set, EarlyFrom}
use Rattle.unions.proofs.EarlyPairs.{join_early, early_first, early_none, early_reach, early_rows}
use Rattle.unions.proofs.JudgedTold.{short_window}
use Rattle.unions.proofs.rows.Rows.merge_rows.Goals.{After-stretch_end-stop}
use Rattle.unions.proofs.rows.Rows.merge_rows.Goals as goal

least : (c : After-stretch_end-stop) → c.loop-r.r ≤ c.stretch_end-stop.result
least c = let a = c.args in
    let l = c.loop-r in
    c.stretch_end-stop.ensures.least l.r c.last_row.ensures.0
    (early_none a.source.now.shape.offset.column a.source.now.pairs.now l.start ((c.next_early-next.result)) l.r l.invariant.2 c.next_early-next.ensures a.source.now.sorted)

below : (c : After-stretch_end-stop) → c.stretch_end-stop.result < length c.args.source.now.window.now
below c = omega (arith, c.stretch_end-stop.ensures.most, c.last_row.ensures.1)

reached : (c : After-stretch_end-stop) → EarlyFrom c.args.source.now.shape.offset.column c.args.source.now.pairs.now ((c.next_early-next.result)) c.stretch_end-stop.result
reached c = let a = c.args in
    let l = c.loop-r in
    early_reach a.source.now.shape.offset.column a.source.now.pairs.now l.start ((c.next_early-next.result)) l.r l.invariant.2 c.next_early-next.ensures c.stretch_end-stop.result (least c) c.stretch_end-stop.ensures.before

pub loop-r-init : goal.loop-r-init
loop-r-init c = let a = c.args in (
  omega arith,
  refl,
  early_first a.source.now.shape.offset.column a.source.now.pairs.now,
  (
    merge_start a.self.now.words.now a.self.now.size.k (omega (arith, a.self.now.size.least)) (early_set a.source.now.shape.offset.column a.source.now.window.now a.source.now.pairs.now) a.self.now.fits,
    refl,
    refl,
  ),
)

pub merge_stretch-requires : goal.merge_stretch-requires
merge_stretch-requires c = (
  least (goal.at.merge_stretch-requires c).After-stretch_end-stop,
  omega (arith, below (goal.at.merge_stretch-requires c).After-stretch_end-stop),
  omega (arith, below (goal.at.merge_stretch-requires c).After-stretch_end-stop, short_window c.args.source.now),
  omega (arith, c.last_row.ensures.2, c.stretch_end-stop.ensures.most, least (goal.at.merge_stretch-requires c).After-stretch_end-stop),
)

pub early_pairs-row-requires : goal.early_pairs-row-requires
early_pairs-row-requires c = (omega (arith, below (goal.at.early_pairs-row-requires c).After-stretch_end-stop, short_window c.args.source.now), c.stretch_end-stop.ensures.before, reached (goal.at.early_pairs-row-requires c).After-stretch_end-stop)

pub loop-r-smaller : goal.loop-r-smaller
loop-r-smaller c = omega (arith, below (goal.at.loop-r-smaller c).After-stretch_end-stop, least (goal.at.loop-r-smaller c).After-stretch_end-stop)

pub loop-r-preserved : goal.loop-r-preserved
loop-r-preserved c = let l = c.loop-r in
    let a = c.args in
    let m = a.self.now.words.now in
    let ps = a.source.now.pairs.now in
    let k = a.self.now.size.k in
    let t = c.merge_stretch.new.self in
    let stop = c.stretch_end-stop.result in
    let src : ℕ → ℕ → Bool = early_set a.source.now.shape.offset.column a.source.now.window.now ps in
    let word = c.join.result in
    let before : l.self.words.now ≡ matrix_of (length m) (merged l.self.size.k l.r m src) =
    l.invariant.3.0 ∙ ap (λ (z : SketchSize). matrix_of (length m) (merged z.k l.r m src)) (sym l.invariant.3.1) in
    let size : t.size ≡ a.self.now.size = c.merge_stretch.ensures.1.1 ∙ l.invariant.3.1 in
    let stretched : t.words.now ≡ matrix_of (length m) (merged k stop m src) =
    c.merge_stretch.ensures.0.rows m src
    (early_rows a.source.now.shape.offset.column ps l.start ((c.next_early-next.result)) l.r l.invariant.2 c.next_early-next.ensures a.source.now.window.now stop c.stretch_end-stop.ensures.before) (sym l.invariant.1) before
    ∙ ap (λ (z : SketchSize). matrix_of (length m) (merged z.k stop m src)) l.invariant.3.1 in (
      omega (arith, below (goal.at.loop-r-preserved c).After-stretch_end-stop),
      ap length c.merge_row.ensures.0 ∙ length-set t.words.now _ _ ∙ c.merge_stretch.ensures.0.long ∙ l.invariant.1,
      c.early_pairs-row.ensures.1,
      (
        c.merge_row.ensures.0
            ∙ ap (λ (z : SketchSize). set t.words.now (stop % z.k) (word_of 64 (λ d. at t.words.now (stop % z.k) d || has word d))) size
            ∙ ap (λ (x : List ℕ). set x (stop % k) (word_of 64 (λ d. at x (stop % k) d || has word d))) stretched
            ∙ merge_turn m k (omega (arith, a.self.now.size.least)) src stop a.self.now.within (λ d. at (matrix_of (length m) (merged k stop m src)) (stop % k) d || has word d)
            (λ d h.
            ap (λ (q : Bool). at (matrix_of (length m) (merged k stop m src)) (stop % k) d || q)
            (ap (λ (x : ℕ). has x d) c.join.ensures
            ∙ join_early a.source.now.shape.offset.column a.source.now.window.now ps stop c.early_pairs-row.result.word d c.early_pairs-row.ensures.0 h)),
        c.merge_row.ensures.1 ∙ size,
        c.merge_row.ensures.2 ∙ c.merge_stretch.ensures.1.2 ∙ l.invariant.3.2,
      ),
    )
