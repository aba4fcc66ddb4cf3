-- The blocks of side 4 of a block.
use mathlib.Core.Path.{refl, ◌∙◌}
use mathlib.Core.Bool.{true}
use Prim.Native.Nat.{◌≤◌, ◌<◌}
use native.Mathlib.Omega.{arith}
use lib.ListN.{length}
use Rattle.walk.specs.Children.{Parent, children_in}
use Rattle.walk.proofs.CellLaws.{small}
use Rattle.slope_pixels.proofs.ShadeLaws.{fits_again}
use Rattle.slope_blocks.specs.Blocks.{cell_of}
use Rattle.slope_blocks.proofs.BlockLoop.{block_parent, blocks_few, part_block, blocks_begin}
use Rattle.slope_blocks.proofs.BlockLoop.{blocks_again, blocks_done}
use Rattle.slope_blocks.proofs.fours.fours.Goals as goal
use Rattle.slope_blocks.proofs.fours.fours.Goals.{In-loop-m, Start}

-- What is known at them.
parent : (c : Start) → Parent (cell_of 16 c.args.block) 4
parent c =
    let p = c.requires in
    let g = small true _ p.fits.heights.fault in
    block_parent 16 4 4 g p.block (omega arith) (omega arith) refl (omega arith)

few : (c : Start) → length (children_in (cell_of 16 c.args.block) 4) ≤ 16
few c =
    let p = c.requires in
    let g = small true _ p.fits.heights.fault in
    blocks_few 16 4 4 g p.block (omega arith) (omega arith) refl (omega arith)

more : (c : In-loop-m)
    → c.loop-m.m < length (children_in (cell_of 16 c.args.block) 4)
more c = omega (arith, c.loop-m-test.true, c.part_count-m-end.ensures)

pub part_count-m-end-requires : goal.part_count-m-end-requires
part_count-m-end-requires c = parent (goal.at.part_count-m-end-requires c).Start

pub loop-m-init : goal.loop-m-init
loop-m-init c = (blocks_begin (parent (goal.at.loop-m-init c).Start) _, refl, refl)

pub part_of-four-requires : goal.part_of-four-requires
part_of-four-requires c = record { parent = parent (goal.at.part_of-four-requires c).Start; more = more (goal.at.part_of-four-requires c).In-loop-m }

pub visit_four-requires : goal.visit_four-requires
visit_four-requires c =
    let i = c.loop-m.invariant in
    let p = c.requires in
    record {
      level = p.level;
      fits = fits_again p.fits i.0.size;
      block = part_block p.block c.part_of-four.ensures;
      window = p.window;
      marks = omega (arith, p.marks, i.1);
      words = omega (arith, p.words, i.2);
    }

pub loop-m-preserved : goal.loop-m-preserved
loop-m-preserved c =
    let v = c.visit_four in
    let i = c.loop-m.invariant in
    let p = c.requires in (
      blocks_again 16 4 c.loop-m.m p.block i.0 c.part_of-four.ensures v.ensures v.auto.slopes,
      v.auto.work ∙ i.1,
      v.auto.second ∙ i.2,
    )

pub shape_of-slopes : goal.shape_of-slopes
shape_of-slopes c = c.loop-m.invariant.0.size

pub shape_of-work : goal.shape_of-work
shape_of-work c = c.loop-m.invariant.1

pub shape_of-second : goal.shape_of-second
shape_of-second c = c.loop-m.invariant.2

pub returns : goal.returns
returns c =
    let e = c.part_count-m-end.ensures in
    blocks_done 16 4 c.loop-m.m c.requires.block c.loop-m.invariant.0 (omega (arith, c.loop-m-test.false))
