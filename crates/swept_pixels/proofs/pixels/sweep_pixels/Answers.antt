-- The pixels of the region, by their number.
use mathlib.Core.Path.{◌∙◌}
use Prim.Native.Nat.{◌<◌}
use native.Mathlib.Omega.{arith}
use lib.ListN.{length}
use Rattle.code.proofs.RunLaws.{fresh_slots}
use Rattle.walk.specs.Children.{Parent, children_in}
use Rattle.swept_pixels.proofs.PutLaws.{cell_parent, draws_of, parts_begin, parts_next}
use Rattle.swept_pixels.proofs.PutLaws.{parts_done}
use Rattle.swept_pixels.proofs.SearchLaws.{agrees_part}
use Rattle.swept_pixels.proofs.pixels.sweep_pixels.Goals as goal
use Rattle.swept_pixels.proofs.pixels.sweep_pixels.Goals.{In-loop-m, Start}

parent : (c : Start) → Parent c.args.cell 1
parent c =
    let p = c.requires in
    cell_parent 1 c.args.cell.side p.on p.cell (omega arith) (omega arith) (omega arith)

more : (c : In-loop-m)
    → c.loop-m.m < length (children_in c.args.cell 1)
more c = omega (arith, c.loop-m-test.true, c.child_count-m-end.ensures)

pub child_count-m-end-requires : goal.child_count-m-end-requires
child_count-m-end-requires c = parent (goal.at.child_count-m-end-requires c).Start

pub loop-m-init : goal.loop-m-init
loop-m-init c =
    (parts_begin c.args.cell 1 (parent (goal.at.loop-m-init c).Start) c.requires.cell _, fresh_slots)

pub child-pixel-requires : goal.child-pixel-requires
child-pixel-requires c = record { parent = parent (goal.at.child-pixel-requires c).Start; more = more (goal.at.child-pixel-requires c).In-loop-m }

pub sweep_pixel-requires : goal.sweep_pixel-requires
sweep_pixel-requires c =
    let p = c.requires in
    let h = c.child-pixel.ensures in
    record {
      sound = p.sound;
      on = record { fault = p.on.fault; size = c.loop-m.invariant.0.size ∙ p.on.size };
      cell = h.ok 1 c.args.grid p.cell;
      one = h.side;
      path = p.path;
      lent = c.loop-m.invariant.1;
    }

pub loop-m-preserved : goal.loop-m-preserved
loop-m-preserved c =
    let v = c.sweep_pixel in
    let h = c.child-pixel.ensures in
    let k = h.ok 1 c.args.grid c.requires.cell in (
      parts_next c.args.cell 1 c.loop-m.m c.loop-m.invariant.0 h
          (draws_of (agrees_part c.requires.cell k h) v.ensures.draws) v.auto.picture,
      v.ensures.lent,
    )

pub shape_of-picture : goal.shape_of-picture
shape_of-picture c = c.loop-m.invariant.0.size

pub returns : goal.returns
returns c =
    let e = c.child_count-m-end.ensures in
    parts_done c.args.cell 1 c.loop-m.m c.loop-m.invariant.0 (omega (arith, c.loop-m-test.false))
