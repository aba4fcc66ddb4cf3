-- The tiles of a cell.
use mathlib.Core.Path.{refl, ◌∙◌}
use mathlib.Core.Bool.{true}
use Prim.Native.Nat.{◌*◌, ◌≤◌, ◌<◌}
use native.Mathlib.Omega.{arith}
use lib.ListN.{length}
use Rattle.rules.specs.Drawings.{solid_bound}
use Rattle.walk.proofs.CellLaws.{ready_small}
use Rattle.walk.proofs.LookLaws.{sound_length}
use Rattle.walk.proofs.Places.{ready_again}
use Rattle.walk.specs.Children.{Parent, children_in}
use Rattle.walk.proofs.ChildLaws.{parent_of, children_few}
use Rattle.walk.proofs.ChildLoop.{child_begins, child_sum, child_again, child_done}
use Rattle.solid_tiles.proofs.tiles.tiles.Goals as goal
use Rattle.solid_tiles.proofs.tiles.tiles.Goals.{In-loop-m, Start}

-- What is known at them.
parent : (c : Start) → Parent c.args.parent 64
parent c =
    let p = c.requires in
    parent_of 64 8 (ready_small p.tile.ready) p.cell (omega arith) (omega arith) p.side

few : (c : Start) → length (children_in c.args.parent 64) ≤ 512
few c =
    let p = c.requires in
    children_few true _ _ 64 8 (omega arith) (omega arith) p.side p.tile.ready.fault p.cell

more : (c : In-loop-m)
    → c.loop-m.m < length (children_in c.args.parent 64)
more c = omega (arith, c.loop-m-test.true, c.child_count-end.ensures)

pub child_count-end-requires : goal.child_count-end-requires
child_count-end-requires c = parent (goal.at.child_count-end-requires c).Start

pub loop-m-init : goal.loop-m-init
loop-m-init c = (
  child_begins _,
  refl,
  refl,
  refl,
  refl,
  refl,
  refl,
)

pub child-cell-requires : goal.child-cell-requires
child-cell-requires c = record { parent = parent (goal.at.child-cell-requires c).Start; more = more (goal.at.child-cell-requires c).In-loop-m }

pub visit_tile-count-requires : goal.visit_tile-count-requires
visit_tile-count-requires c =
    let k = c.child-cell.ensures in
    let i = c.loop-m.invariant in
    let p = c.requires in
    let a = p.tile in
    record {
      tile = record {
        level = a.level;
        ready = ready_again a.ready i.0.size;
        room = omega (arith, a.room, i.1);
        first = omega (arith, a.first, i.2);
        second = omega (arith, a.second, i.3);
        third = omega (arith, a.third, i.4);
      };
      cell = k.ok _ _ p.cell;
      side = k.side;
      rows = omega (arith, p.rows, i.5);
      rows_below = omega (arith, p.rows_below, i.6);
    }

pub overflow_add-count : goal.overflow_add-count
overflow_add-count c =
    let sum = child_sum c.loop-m.invariant.0 512 (more (goal.at.overflow_add-count c).In-loop-m) (few (goal.at.overflow_add-count c).Start) c.visit_tile-count.ensures.bound in
    omega (arith, sound_length c.requires.tile.level.sound, sum)

pub loop-m-preserved : goal.loop-m-preserved
loop-m-preserved c =
    let v = c.visit_tile-count in
    let i = c.loop-m.invariant in
    let kept = v.auto.picture in (
      child_again i.0 c.child-cell.ensures (more (goal.at.loop-m-preserved c).In-loop-m) v.ensures c.visit_tile-count.auto.picture,
      c.visit_tile-count.auto.work ∙ i.1,
      c.visit_tile-count.auto.first ∙ i.2,
      c.visit_tile-count.auto.second ∙ i.3,
      c.visit_tile-count.auto.third ∙ i.4,
      c.visit_tile-count.auto.choices ∙ i.5,
      c.visit_tile-count.auto.below ∙ i.6,
    )

pub shape_of-picture : goal.shape_of-picture
shape_of-picture c = c.loop-m.invariant.0.size

pub shape_of-work : goal.shape_of-work
shape_of-work c = c.loop-m.invariant.1

pub shape_of-first : goal.shape_of-first
shape_of-first c = c.loop-m.invariant.2

pub shape_of-second : goal.shape_of-second
shape_of-second c = c.loop-m.invariant.3

pub shape_of-third : goal.shape_of-third
shape_of-third c = c.loop-m.invariant.4

pub shape_of-choices : goal.shape_of-choices
shape_of-choices c = c.loop-m.invariant.5

pub shape_of-below : goal.shape_of-below
shape_of-below c = c.loop-m.invariant.6

pub returns : goal.returns
returns c =
    let e = c.child_count-end.ensures in
    child_done c.loop-m.invariant.0 512 (512 * solid_bound) (omega (arith, c.loop-m-test.false)) (few (goal.at.returns c).Start)
    (omega arith)
