-- The regions of side 16 of the tile: those that are not hidden are run eight at a time.
use mathlib.Core.Path.{refl, ◌∙◌}
use mathlib.Core.Bool.{true, false}
use Prim.Native.Nat.{◌+◌, ◌*◌, ◌≤◌, ◌<◌}
use native.Mathlib.Omega.{arith}
use lib.ListN.{length}
use Rattle.picture.specs.Shapes.{grid_in}
use Rattle.walk.proofs.CellLaws.{ready_small}
use Rattle.walk.proofs.LookLaws.{sound_length}
use Rattle.walk.proofs.Places.{ready_again}
use Rattle.walk.specs.Cells.{region_in}
use Rattle.walk.specs.Children.{Parent, children_in}
use Rattle.walk.specs.Draws.{Hidden, Same}
use Rattle.walk.specs.Walks.{Visits}
use Rattle.walk.proofs.ChildLaws.{parent_of, children_few, cell_whole}
use Rattle.walk.proofs.ChildLoop.{child_begins, child_sum, child_again, child_done}
use Rattle.shortening.proofs.KeptLaws.{words_fewer}
use Rattle.child_lanes.proofs.RunLaws.{numbered_lane, none_run, made_ends}
use Rattle.solid_blocks.specs.Sides.{below16}
use Rattle.solid_blocks.proofs.HiddenLaws.{child_hidden}
use Rattle.solid_blocks.proofs.InsideLaws.{short_of, inside_visits}
use Rattle.solid_blocks.proofs.sixteens.sixteens.Goals as goal
use Rattle.solid_blocks.proofs.sixteens.sixteens.Goals.{After-inside, At-loop-m, Else-is_hidden, In-loop-m, Start}

-- What is known at them.
parent : (c : Start) → Parent c.args.parent 16
parent c =
    let p = c.requires.for_sixteens in
    parent_of 16 4 (ready_small p.ready) p.cell (omega arith) (omega arith) p.side

few : (c : Start) → length (children_in c.args.parent 16) ≤ 64
few c =
    let p = c.requires.for_sixteens in
    children_few true _ _ 16 4 (omega arith) (omega arith) p.side p.ready.fault p.cell

rows : (c : At-loop-m) → length c.args.code.now ≤ length c.loop-m.choices
rows c = let p = c.requires in omega (arith, words_fewer p.for_sixteens.level.kept, p.whole_in_bounds, c.loop-m.invariant.5)

more : (c : In-loop-m)
    → c.loop-m.m < length (children_in c.args.parent 16)
more c = omega (arith, c.loop-m-test.true, c.child_count-end.ensures)

seen : (c : Else-is_hidden)
    → (Hidden Same (grid_in c.args.grid true) (region_in c.child-cell.result) c.loop-m.picture false)
seen c = rw c.if-is_hidden.false at c.is_hidden.ensures

-- The whole visit to a child that is seen.
visits : (c : After-inside)
    → (let a = c.args in
    Visits true 4161 a.code.now a.grid below16 (region_in c.child-cell.result) c.loop-m.picture
    c.inside.new.picture (c.own_run-own.result + c.inside.result))
visits c =
    let p = c.requires.for_sixteens in
    let k = c.child-cell.ensures in
    inside_visits _ _ _ _ _ _ _ _ _ _ p.level.sound k.side p.ready.fault (k.ok _ _ p.cell)
    c.look_lane-seen.ensures c.own_run-own.ensures c.inside.ensures.inside

pub mark_room-requires : goal.mark_room-requires
mark_room-requires c = c.requires.for_sixteens.level.kept.kept.within

pub overflow_add-base : goal.overflow_add-base
overflow_add-base c =
    let w = c.requires.for_sixteens.level.kept.kept.within in
    omega (arith, c.mark_room.ensures)

pub child_count-end-requires : goal.child_count-end-requires
child_count-end-requires c = parent (goal.at.child_count-end-requires c).Start

pub loop-m-init : goal.loop-m-init
loop-m-init c = (
  child_begins _,
  refl,
  refl,
  refl,
  refl,
  refl,
  refl,
  none_run c.child_count-end.ensures made_ends,
)

pub child-cell-requires : goal.child-cell-requires
child-cell-requires c = record { parent = parent (goal.at.child-cell-requires c).Start; more = more (goal.at.child-cell-requires c).In-loop-m }

pub is_hidden-requires : goal.is_hidden-requires
is_hidden-requires c =
    let p = c.requires.for_sixteens in
    record { ready = ready_again p.ready c.loop-m.invariant.0.size; cell = c.child-cell.ensures.ok _ _ p.cell }

-- A child that is hidden.
pub loop-m-preserved-then-is_hidden : goal.loop-m-preserved-then-is_hidden
loop-m-preserved-then-is_hidden c =
    let i = c.loop-m.invariant in (
      child_hidden i.0 c.child-cell.ensures (more (goal.at.loop-m-preserved-then-is_hidden c).In-loop-m) (omega arith)
          (rw c.if-is_hidden.true at c.is_hidden.ensures),
      i.1,
      i.2,
      i.3,
      i.4,
      i.5,
      i.6,
      i.7,
    )

-- One that is seen.
pub batch_with-batch-requires : goal.batch_with-batch-requires
batch_with-batch-requires c =
    let p = c.requires.for_sixteens in
    let i = c.loop-m.invariant in
    let e = c.child_count-end.ensures in
    record {
      slots = p.level.sound.slots;
      accepted = p.level.sound.accepted;
      list = record {
        children = record { fault = p.ready.fault; cells = cell_whole 4 p.side p.cell; children = parent (goal.at.batch_with-batch-requires c).Start };
        ready = ready_again p.ready i.0.size;
        all = e;
        some = c.loop-m-test.true;
        few = omega (arith, e, few (goal.at.batch_with-batch-requires c).Start);
      };
      room = rows (goal.at.batch_with-batch-requires c).At-loop-m;
      before = i.7;
    }

pub lane_at-lane-requires : goal.lane_at-lane-requires
lane_at-lane-requires c =
    let v = c.batch_with-batch.ensures in record {
      slot_lt_slot_limit = v.ran.within;
      k_lt_lane_count = omega (arith, v.lane);
      lent_ends = v.ran.lent;
    }

pub look_lane-seen-requires : goal.look_lane-seen-requires
look_lane-seen-requires c =
    let v = c.batch_with-batch in
    let p = c.requires.for_sixteens in
    let k = c.child-cell.ensures in
    let i = c.loop-m.invariant in
    let g = c.mark_room.ensures in
    let same = v.auto.choices in
    record {
      look = record {
        level = p.level;
        ready = ready_again p.ready i.0.size;
        cell = k.ok _ _ p.cell;
        marks = record { behind = omega arith; within = omega (arith, g, p.room, i.1) };
        words = omega (arith, p.second, i.2);
      };
      seen = seen (goal.at.look_lane-seen-requires c).Else-is_hidden;
      run = numbered_lane p.ready.fault (k.ok _ _ p.cell) k (more (goal.at.look_lane-seen-requires c).In-loop-m) (omega (arith, rows (goal.at.look_lane-seen-requires c).At-loop-m, same))
          v.ensures.ran v.ensures.lane v.ensures.own c.lane_at-lane.ensures;
    }

pub inside-requires : goal.inside-requires
inside-requires c =
    let q = c.requires in
    let p = q.for_sixteens in
    let k = c.child-cell.ensures in
    let i = c.loop-m.invariant in record {
      for_inside = record {
        ready = ready_again p.ready (c.look_lane-seen.auto.picture ∙ i.0.size);
        cell = k.ok _ _ p.cell;
        side = k.side;
        room = omega (arith, p.room, i.1, c.look_lane-seen.auto.work);
        third = omega (arith, p.third, i.3);
        rows = omega (arith, q.whole_in_below, i.6);
        short = short_of _ _ _ _ _ _ _ _ _ p.level c.look_lane-seen.ensures;
      };
      slots_len = i.4;
    }

pub overflow_add-count : goal.overflow_add-count
overflow_add-count c =
    omega (arith, sound_length c.requires.for_sixteens.level.sound, (visits (goal.at.overflow_add-count c).After-inside).bound)

pub overflow_add-count-in-loop-m : goal.overflow_add-count-in-loop-m
overflow_add-count-in-loop-m c =
    let sum = child_sum c.loop-m.invariant.0 64 (more (goal.at.overflow_add-count-in-loop-m c).In-loop-m) (few (goal.at.overflow_add-count-in-loop-m c).Start) (visits (goal.at.overflow_add-count-in-loop-m c).After-inside).bound in
    omega (arith, sound_length c.requires.for_sixteens.level.sound, sum)

pub loop-m-preserved : goal.loop-m-preserved
loop-m-preserved c =
    let u = c.inside in
    let v = c.batch_with-batch in
    let i = c.loop-m.invariant in
    let kept = u.auto.picture in (
      child_again i.0 c.child-cell.ensures (more (goal.at.loop-m-preserved c).In-loop-m) (visits (goal.at.loop-m-preserved c).After-inside) (c.inside.auto.picture ∙ c.look_lane-seen.auto.picture),
      c.inside.auto.work ∙ c.look_lane-seen.auto.work ∙ i.1,
      c.look_lane-seen.auto.next ∙ i.2,
      c.inside.auto.third ∙ i.3,
      u.ensures.slots_stay,
      v.auto.choices ∙ i.5,
      c.inside.auto.choices ∙ i.6,
      v.ensures.ran,
    )

pub shape_of-picture : goal.shape_of-picture
shape_of-picture c = c.loop-m.invariant.0.size

pub shape_of-work : goal.shape_of-work
shape_of-work c = c.loop-m.invariant.1

pub shape_of-second : goal.shape_of-second
shape_of-second c = c.loop-m.invariant.2

pub shape_of-third : goal.shape_of-third
shape_of-third c = c.loop-m.invariant.3

pub shape_of-choices : goal.shape_of-choices
shape_of-choices c = c.loop-m.invariant.5

pub shape_of-below : goal.shape_of-below
shape_of-below c = c.loop-m.invariant.6

pub returns : goal.returns
returns c =
    let e = c.child_count-end.ensures in
    child_done c.loop-m.invariant.0 64 (64 * 4161) (omega (arith, c.loop-m-test.false)) (few (goal.at.returns c).Start)
    (omega arith)
