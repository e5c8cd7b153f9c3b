-- `unions::cut::Cut::write_pairs` meets its contract. Assumes nothing.
use mathlib.Core.Path.{◌≡◌, refl, sym, ap, ◌∙◌, subst}
use mathlib.Core.List.{List, ◌++◌}
use Prim.Native.Nat.{ℕ, ◌+◌}
use native.Mathlib.Omega.{arith}
use lib.ListN.{length, take, length-append}
use Rattle.matrices.specs.Parts.{windowed}
use Rattle.matrices.proofs.SplitTurn.{listed_to, to_none}
use Rattle.unions.specs.Steps.{Added, block_pairs}
use Rattle.unions.proofs.Adding.{added_none, added_both, whole_added}
use Rattle.unions.proofs.Blocks.{from_most, listed_found, blocks_taken, taken_within}
use Rattle.unions.proofs.cut.Cut.write_pairs.Goals.{After-find_blocks-many, After-list_blocks-all}
use Rattle.unions.proofs.cut.Cut.write_pairs.Goals as goal

-- the blocks found, as a list of their own
chunk : (c : After-find_blocks-many) → listed_to (windowed c.args.self.shape.flavor) c.args.self.shape.offset.column c.args.self.words.now c.min-to.result
    ≡ listed_to (windowed c.args.self.shape.flavor) c.args.self.shape.offset.column c.args.self.words.now c.loop-from.from
    ++ block_pairs (windowed c.args.self.shape.flavor) c.args.self.shape.offset.column c.args.self.words.now (take c.find_blocks-many.result c.find_blocks-many.new.found) (length (take c.find_blocks-many.result c.find_blocks-many.new.found))
chunk c = let e = c.min-to in
    let a = c.args in
    let wide = windowed a.self.shape.flavor in
    let o = a.self.shape.offset.column in
    let m = a.self.words.now in
    let l = c.loop-from in
    let found = c.find_blocks-many.new.found in
    let n = c.find_blocks-many.result in
    let f = c.find_blocks-many.ensures in
    listed_found wide o m l.from e.result found n (omega (arith, e.ensures, c.loop-from-test)) f
    ∙ ap (λ (x : List ℕ). listed_to wide o m l.from ++ x) (sym (blocks_taken wide o m found n (omega (arith, f.few, e.ensures))))

-- all surprises up to the end of the stretch are listed
more : (c : After-list_blocks-all) → Added (listed_to (windowed c.args.self.shape.flavor) c.args.self.shape.offset.column c.args.self.words.now c.min-to.result) (record { ored = 0; count = 0 }) c.args.out.now c.list_blocks-all.result c.list_blocks-all.new.out
more c = let w = c.list_blocks-all in
    let l = c.loop-from in
    let a = c.args in
    let wide = windowed a.self.shape.flavor in
    let o = a.self.shape.offset.column in
    let m = a.self.words.now in
    let e = c.min-to in
    let found = c.find_blocks-many.new.found in
    let n = c.find_blocks-many.result in
    let f = c.find_blocks-many.ensures in
    let taken = take n found in
    let blocks = block_pairs wide o m taken (length taken) in
    let all = listed_found wide o m l.from e.result found n (omega (arith, e.ensures, c.loop-from-test)) f
    ∙ ap (λ (x : List ℕ). listed_to wide o m l.from ++ x) (sym (blocks_taken wide o m found n (omega (arith, f.few, e.ensures)))) in
    subst (λ (x : List ℕ). Added x (record { ored = 0; count = 0 }) a.out.now w.result w.new.out) (sym all)
    (added_both (listed_to wide o m l.from) blocks (record { ored = 0; count = 0 }) l.all w.result a.out.now l.out w.new.out l.invariant.4 w.ensures)

pub loop-from-init : goal.loop-from-init
loop-from-init c = let a = c.args in
    let wide = windowed a.self.shape.flavor in
    let o = a.self.shape.offset.column in
    let m = a.self.words.now in (
      omega arith,
      refl,
      omega arith,
      refl,
      subst (λ (l : List ℕ). Added l (record { ored = 0; count = 0 }) a.out.now (record { ored = 0; count = 0 }) a.out.now)
          (sym (to_none wide o m)) (added_none (record { ored = 0; count = 0 }) a.out.now),
    )

pub list_blocks-all-requires : goal.list_blocks-all-requires
list_blocks-all-requires c = let l = c.loop-from in
    let a = c.args in
    let wide = windowed a.self.shape.flavor in
    let o = a.self.shape.offset.column in
    let m = a.self.words.now in
    let e = c.min-to in
    let found = take c.find_blocks-many.result c.find_blocks-many.new.found in
    let blocks = block_pairs wide o m found (length found) in (
      taken_within wide o m l.from e.result c.find_blocks-many.new.found c.find_blocks-many.result (omega (arith, c.find_blocks-many.ensures.few, e.ensures)) c.find_blocks-many.ensures,
      omega (
        arith,
        l.invariant.3,
        l.invariant.4.count,
        ap length (chunk (goal.at.list_blocks-all-requires c).After-find_blocks-many),
        length-append (listed_to wide o m l.from) blocks,
        from_most wide o m e.result (omega (arith, e.ensures)),
        c.requires,
      ),
    )

pub loop-from-preserved : goal.loop-from-preserved
loop-from-preserved c = let a = c.args in
    let wide = windowed a.self.shape.flavor in
    let o = a.self.shape.offset.column in
    let m = a.self.words.now in
    let w = c.list_blocks-all in
    let e : c.min-to.result ≡ c.loop-from.from + 512 = omega (arith, c.min-to.ensures) in (
      omega arith,
      omega (arith, c.loop-from.invariant.1),
      omega arith,
      w.auto.out ∙ c.loop-from.invariant.3,
      subst (λ (r : ℕ). Added (listed_to wide o m r) (record { ored = 0; count = 0 }) a.out.now w.result w.new.out) e (more (goal.at.loop-from-preserved c).After-list_blocks-all),
    )

pub returns : goal.returns
returns c = let l = c.loop-from in
    let a = c.args in
    let e : l.from ≡ length a.self.words.now = omega (arith, l.invariant.0, c.loop-from-test) in
    whole_added (windowed a.self.shape.flavor) a.self.shape.offset.column a.self.words.now a.self.fits l.from e a.out.now l.all l.out l.invariant.4

pub returns-2 : goal.returns-2
returns-2 c = let w = c.list_blocks-all in
    let a = c.args in
    let e : c.min-to.result ≡ length a.self.words.now = omega (arith, c.min-to.ensures) in
    whole_added (windowed a.self.shape.flavor) a.self.shape.offset.column a.self.words.now a.self.fits c.min-to.result e a.out.now w.result w.new.out (more (goal.at.returns-2 c).After-list_blocks-all)
