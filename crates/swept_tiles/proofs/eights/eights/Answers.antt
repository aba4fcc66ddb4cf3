-- The regions of side 8 in the tile, by their number.
use mathlib.Core.Path.{refl, ◌∙◌}
use Prim.Native.Nat.{◌<◌}
use native.Mathlib.Omega.{arith}
use lib.ListN.{length}
use Rattle.walk.specs.Children.{Parent, children_in}
use Rattle.swept_pixels.proofs.PutLaws.{cell_parent, draws_of, parts_begin, parts_next, parts_done}
use Rattle.swept_pixels.proofs.SearchLaws.{agrees_part}
use Rattle.swept_tiles.proofs.eights.eights.Goals as goal
use Rattle.swept_tiles.proofs.eights.eights.Goals.{In-loop-m, Start}

parent : (c : Start) → Parent c.args.tile 8
parent c =
    let p = c.requires in cell_parent 8 8 p.on p.cell (omega arith) (omega arith) (omega (arith, p.side))

more : (c : In-loop-m)
    → c.loop-m.m < length (children_in c.args.tile 8)
more c = omega (arith, c.loop-m-test.true, c.child_count-m-end.ensures)

pub child_count-m-end-requires : goal.child_count-m-end-requires
child_count-m-end-requires c = parent (goal.at.child_count-m-end-requires c).Start

pub loop-m-init : goal.loop-m-init
loop-m-init c =
    (parts_begin c.args.tile 8 (parent (goal.at.loop-m-init c).Start) c.requires.cell _, refl, refl, refl)

pub child-cell-requires : goal.child-cell-requires
child-cell-requires c = record { parent = parent (goal.at.child-cell-requires c).Start; more = more (goal.at.child-cell-requires c).In-loop-m }

pub visit_eight-requires : goal.visit_eight-requires
visit_eight-requires c =
    let i = c.loop-m.invariant in
    let p = c.requires in
    let h = c.child-cell.ensures in
    record {
      level = p.level;
      on = record { fault = p.on.fault; size = i.0.size ∙ p.on.size };
      cell = h.ok 1 c.args.grid p.cell;
      side = h.side;
      path = p.path;
      list = omega (arith, p.list, i.1);
      marks = omega (arith, p.marks, i.2);
      words = omega (arith, p.words, i.3);
    }

pub loop-m-preserved : goal.loop-m-preserved
loop-m-preserved c =
    let v = c.visit_eight in
    let i = c.loop-m.invariant in
    let h = c.child-cell.ensures in
    let k = h.ok 1 c.args.grid c.requires.cell in (
      parts_next c.args.tile 8 c.loop-m.m i.0 h (draws_of (agrees_part c.requires.cell k h) v.ensures)
          v.auto.picture,
      v.auto.kept ∙ i.1,
      v.auto.work ∙ i.2,
      v.auto.second ∙ i.3,
    )

pub shape_of-kept : goal.shape_of-kept
shape_of-kept c = c.loop-m.invariant.1

pub shape_of-picture : goal.shape_of-picture
shape_of-picture c = c.loop-m.invariant.0.size

pub shape_of-work : goal.shape_of-work
shape_of-work c = c.loop-m.invariant.2

pub shape_of-second : goal.shape_of-second
shape_of-second c = c.loop-m.invariant.3

pub returns : goal.returns
returns c =
    let e = c.child_count-m-end.ensures in
    parts_done c.args.tile 8 c.loop-m.m c.loop-m.invariant.0 (omega (arith, c.loop-m-test.false))
