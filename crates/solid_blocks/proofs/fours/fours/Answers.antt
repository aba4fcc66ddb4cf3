-- The regions of side 4 of a region of side 16, by runs of eight that are not hidden.
use mathlib.Core.Path.{refl, ◌∙◌}
use mathlib.Core.Bool.{true, false}
use Prim.Native.Nat.{◌*◌, ◌≤◌, ◌<◌}
use native.Mathlib.Omega.{arith}
use lib.ListN.{length}
use Rattle.shortening.proofs.KeptLaws.{words_fewer}
use Rattle.picture.specs.Shapes.{grid_in}
use Rattle.walk.proofs.CellLaws.{ready_small}
use Rattle.walk.proofs.LookLaws.{sound_length}
use Rattle.walk.proofs.Places.{ready_again}
use Rattle.walk.specs.Cells.{region_in}
use Rattle.walk.specs.Children.{Parent, children_in}
use Rattle.walk.specs.Draws.{Hidden, Same}
use Rattle.walk.proofs.ChildLaws.{parent_of, children_few, cell_whole}
use Rattle.walk.proofs.ChildLoop.{child_begins, child_sum, child_again, child_done}
use Rattle.child_lanes.proofs.RunLaws.{numbered_lane, none_run, made_ends}
use Rattle.solid_blocks.proofs.HiddenLaws.{child_hidden}
use Rattle.solid_blocks.proofs.fours.fours.Goals as goal
use Rattle.solid_blocks.proofs.fours.fours.Goals.{At-loop-m, Else-is_hidden, In-loop-m, Start}

-- What is known at them.
parent : (c : Start) → Parent c.args.parent 4
parent c =
    let p = c.requires.for_fours in
    parent_of 4 4 (ready_small p.ready) p.cell (omega arith) (omega arith) p.side

few : (c : Start) → length (children_in c.args.parent 4) ≤ 64
few c =
    let p = c.requires.for_fours in
    children_few true _ _ 4 4 (omega arith) (omega arith) p.side p.ready.fault p.cell

rows : (c : At-loop-m) → length c.args.code.now ≤ length c.loop-m.choices
rows c =
    let p = c.requires in omega (arith, words_fewer p.for_fours.level.kept, p.whole_in_bounds, c.loop-m.invariant.4)

more : (c : In-loop-m)
    → c.loop-m.m < length (children_in c.args.parent 4)
more c = omega (arith, c.loop-m-test.true, c.child_count-end.ensures)

seen : (c : Else-is_hidden)
    → (Hidden Same (grid_in c.args.grid true) (region_in c.child-cell.result) c.loop-m.picture false)
seen c = rw c.if-is_hidden.false at c.is_hidden.ensures

pub child_count-end-requires : goal.child_count-end-requires
child_count-end-requires c = parent (goal.at.child_count-end-requires c).Start

pub loop-m-init : goal.loop-m-init
loop-m-init c = (
  child_begins _,
  refl,
  refl,
  c.requires.slots_len,
  refl,
  none_run c.child_count-end.ensures made_ends,
)

pub child-cell-requires : goal.child-cell-requires
child-cell-requires c = record { parent = parent (goal.at.child-cell-requires c).Start; more = more (goal.at.child-cell-requires c).In-loop-m }

pub is_hidden-requires : goal.is_hidden-requires
is_hidden-requires c =
    let p = c.requires.for_fours in
    record { ready = ready_again p.ready c.loop-m.invariant.0.size; cell = c.child-cell.ensures.ok _ _ p.cell }

-- A child that is hidden.
pub loop-m-preserved-then-is_hidden : goal.loop-m-preserved-then-is_hidden
loop-m-preserved-then-is_hidden c =
    let i = c.loop-m.invariant in (
      child_hidden i.0 c.child-cell.ensures (more (goal.at.loop-m-preserved-then-is_hidden c).In-loop-m) (omega arith)
          (rw c.if-is_hidden.true at c.is_hidden.ensures),
      i.1,
      i.2,
      i.3,
      i.4,
      i.5,
    )

-- One that is seen.
pub batch_with-batch-requires : goal.batch_with-batch-requires
batch_with-batch-requires c =
    let p = c.requires.for_fours in
    let i = c.loop-m.invariant in
    let e = c.child_count-end.ensures in
    record {
      slots = p.level.sound.slots;
      accepted = p.level.sound.accepted;
      list = record {
        children = record {
          fault = p.ready.fault;
          cells = cell_whole 4 p.side p.cell;
          children = parent (goal.at.batch_with-batch-requires c).Start;
        };
        ready = ready_again p.ready i.0.size;
        all = e;
        some = c.loop-m-test.true;
        few = omega (arith, e, few (goal.at.batch_with-batch-requires c).Start);
      };
      room = rows (goal.at.batch_with-batch-requires c).At-loop-m;
      before = i.5;
    }

pub lane_at-lane-requires : goal.lane_at-lane-requires
lane_at-lane-requires c =
    let v = c.batch_with-batch.ensures in record {
      slot_lt_slot_limit = v.ran.within;
      k_lt_lane_count = omega (arith, v.lane);
      lent_ends = v.ran.lent;
    }

pub visit_four-count-requires : goal.visit_four-count-requires
visit_four-count-requires c =
    let v = c.batch_with-batch in
    let k = c.child-cell.ensures in
    let i = c.loop-m.invariant in
    let p = c.requires.for_fours in
    let same = v.auto.choices in record {
      for_four = record {
        four = record {
          level = p.level;
          ready = ready_again p.ready i.0.size;
          cell = k.ok _ _ p.cell;
          side = k.side;
          room = omega (arith, p.room, i.1);
          third = omega (arith, p.third, i.2);
        };
        seen = seen (goal.at.visit_four-count-requires c).Else-is_hidden;
        run = numbered_lane p.ready.fault (k.ok _ _ p.cell) k (more (goal.at.visit_four-count-requires c).In-loop-m)
            (omega (arith, rows (goal.at.visit_four-count-requires c).At-loop-m, same)) v.ensures.ran v.ensures.lane v.ensures.own c.lane_at-lane.ensures;
      };
      slots_len = i.3;
    }

pub overflow_add-count : goal.overflow_add-count
overflow_add-count c =
    let sum = child_sum c.loop-m.invariant.0 64 (more (goal.at.overflow_add-count c).In-loop-m) (few (goal.at.overflow_add-count c).Start) c.visit_four-count.ensures.visits.bound in
    omega (arith, sound_length c.requires.for_fours.level.sound, sum)

pub loop-m-preserved : goal.loop-m-preserved
loop-m-preserved c =
    let v = c.visit_four-count in
    let r = c.batch_with-batch in
    let i = c.loop-m.invariant in
    let kept = v.auto.picture in (
      child_again i.0 c.child-cell.ensures (more (goal.at.loop-m-preserved c).In-loop-m) v.ensures.visits c.visit_four-count.auto.picture,
      c.visit_four-count.auto.work ∙ i.1,
      c.visit_four-count.auto.third ∙ i.2,
      v.ensures.slots_stay,
      r.auto.choices ∙ i.4,
      r.ensures.ran,
    )

pub shape_of-picture : goal.shape_of-picture
shape_of-picture c = c.loop-m.invariant.0.size

pub shape_of-work : goal.shape_of-work
shape_of-work c = c.loop-m.invariant.1

pub shape_of-third : goal.shape_of-third
shape_of-third c = c.loop-m.invariant.2

pub shape_of-choices : goal.shape_of-choices
shape_of-choices c = c.loop-m.invariant.4

pub returns : goal.returns
returns c =
    let e = c.child_count-end.ensures in
    let i = c.loop-m.invariant in record {
      folds = child_done i.0 64 (64 * 65) (omega (arith, c.loop-m-test.false)) (few (goal.at.returns c).Start) (omega arith);
      slots_stay = i.3;
    }
