-- The blocks of side 16 of the picture.
use mathlib.Core.Path.{refl, ◌∙◌}
use mathlib.Core.Bool.{true}
use Prim.Native.Nat.{◌≤◌, ◌<◌}
use native.Mathlib.Omega.{arith}
use lib.ListN.{length}
use Rattle.walk.specs.Children.{Parent, children_in}
use Rattle.walk.proofs.CellLaws.{small}
use Rattle.slope_blocks.specs.Blocks.{cell_of}
use Rattle.slope_blocks.proofs.BlockLoop.{block_parent, blocks_few, part_block, blocks_begin}
use Rattle.slope_blocks.proofs.BlockLoop.{blocks_again, blocks_done}
use Rattle.slope_blocks.proofs.WindowLaws.{lent_again}
use Rattle.slope_blocks.proofs.sixteens.sixteens.Goals as goal
use Rattle.slope_blocks.proofs.sixteens.sixteens.Goals.{In-loop-m, Start}

-- What is known at them.
parent : (c : Start) → Parent (cell_of 512 c.args.block) 16
parent c =
    let p = c.requires in
    block_parent 512 16 32 (small true _ p.lent.fits.heights.fault) p.block (omega arith) (omega arith) refl
    (omega arith)

few : (c : Start) → length (children_in (cell_of 512 c.args.block) 16) ≤ 1024
few c =
    let p = c.requires in
    blocks_few 512 16 32 (small true _ p.lent.fits.heights.fault) p.block (omega arith) (omega arith) refl
    (omega arith)

more : (c : In-loop-m)
    → c.loop-m.m < length (children_in (cell_of 512 c.args.block) 16)
more c = omega (arith, c.loop-m-test.true, c.part_count-m-end.ensures)

pub part_count-m-end-requires : goal.part_count-m-end-requires
part_count-m-end-requires c = parent (goal.at.part_count-m-end-requires c).Start

pub loop-m-init : goal.loop-m-init
loop-m-init c = (blocks_begin (parent (goal.at.loop-m-init c).Start) _, refl, refl, refl)

pub part_of-sixteen-requires : goal.part_of-sixteen-requires
part_of-sixteen-requires c = record { parent = parent (goal.at.part_of-sixteen-requires c).Start; more = more (goal.at.part_of-sixteen-requires c).In-loop-m }

pub visit_sixteen-requires : goal.visit_sixteen-requires
visit_sixteen-requires c =
    let i = c.loop-m.invariant in
    let p = c.requires in
    record {
      lent = lent_again p.lent i.0.size i.1 i.2 i.3;
      block = part_block p.block c.part_of-sixteen.ensures;
    }

pub loop-m-preserved : goal.loop-m-preserved
loop-m-preserved c =
    let v = c.visit_sixteen in
    let i = c.loop-m.invariant in
    let p = c.requires in (
      blocks_again 512 16 c.loop-m.m p.block i.0 c.part_of-sixteen.ensures v.ensures v.auto.slopes,
      v.auto.work ∙ i.1,
      v.auto.first ∙ i.2,
      v.auto.second ∙ i.3,
    )

pub shape_of-slopes : goal.shape_of-slopes
shape_of-slopes c = c.loop-m.invariant.0.size

pub shape_of-work : goal.shape_of-work
shape_of-work c = c.loop-m.invariant.1

pub shape_of-first : goal.shape_of-first
shape_of-first c = c.loop-m.invariant.2

pub shape_of-second : goal.shape_of-second
shape_of-second c = c.loop-m.invariant.3

pub returns : goal.returns
returns c =
    let e = c.part_count-m-end.ensures in
    blocks_done 512 16 c.loop-m.m c.requires.block c.loop-m.invariant.0 (omega (arith, c.loop-m-test.false))
