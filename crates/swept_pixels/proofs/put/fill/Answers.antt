-- The pixels of the region, by their number.
use mathlib.Core.Path.{◌∙◌}
use Prim.Native.Nat.{◌<◌}
use native.Mathlib.Omega.{arith}
use lib.ListN.{length}
use Rattle.walk.specs.Children.{Parent, children_in}
use Rattle.swept_pixels.proofs.PutLaws.{cell_parent, draws_of, constant_part, parts_begin}
use Rattle.swept_pixels.proofs.PutLaws.{parts_next, parts_done}
use Rattle.swept_pixels.proofs.put.fill.Goals as goal
use Rattle.swept_pixels.proofs.put.fill.Goals.{In-loop-m, Start}

parent : (c : Start) → Parent c.args.cell 1
parent c =
    let p = c.requires in
    cell_parent 1 c.args.cell.side p.on p.cell (omega arith) (omega arith) (omega arith)

more : (c : In-loop-m)
    → c.loop-m.m < length (children_in c.args.cell 1)
more c = omega (arith, c.loop-m-test.true, c.child_count-m-end.ensures)

pub child_count-m-end-requires : goal.child_count-m-end-requires
child_count-m-end-requires c = parent (goal.at.child_count-m-end-requires c).Start

pub loop-m-init : goal.loop-m-init
loop-m-init c = parts_begin c.args.cell 1 (parent (goal.at.loop-m-init c).Start) c.requires.cell _

pub child-requires : goal.child-requires
child-requires c = record { parent = parent (goal.at.child-requires c).Start; more = more (goal.at.child-requires c).In-loop-m }

pub put-requires : goal.put-requires
put-requires c =
    let p = c.requires in
    let h = c.child.ensures in
    record {
      on = record { fault = p.on.fault; size = c.loop-m.invariant.size ∙ p.on.size };
      cell = h.ok 1 c.args.grid p.cell;
      one = h.side;
    }

pub loop-m-preserved : goal.loop-m-preserved
loop-m-preserved c =
    let v = c.put in
    let h = c.child.ensures in
    let k = h.ok 1 c.args.grid c.requires.cell in
    parts_next c.args.cell 1 c.loop-m.m c.loop-m.invariant h
    (draws_of (constant_part c.requires.cell k h) v.ensures) v.auto.picture

pub shape_of-picture : goal.shape_of-picture
shape_of-picture c = c.loop-m.invariant.size

pub returns : goal.returns
returns c =
    let e = c.child_count-m-end.ensures in
    parts_done c.args.cell 1 c.loop-m.m c.loop-m.invariant (omega (arith, c.loop-m-test.false))
