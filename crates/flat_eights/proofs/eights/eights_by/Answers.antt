-- The regions of side 8 of a tile, eight in a run.
use mathlib.Core.Path.{refl}
use mathlib.Core.Bool.{false}
use Prim.Native.Nat.{◌*◌, ◌≤◌}
use native.Mathlib.Omega.{arith}
use lib.ListN.{length}
use Rattle.shortening.proofs.KeptLaws.{words_fewer}
use Rattle.picture.proofs.PartLaws.{apart_none}
use Rattle.walk.proofs.CellLaws.{ready_small}
use Rattle.walk.proofs.LookLaws.{sound_length}
use Rattle.walk.proofs.Places.{ready_again}
use Rattle.walk.specs.Children.{children_in}
use Rattle.walk.proofs.ChildLaws.{parent_of, children_few, cell_whole}
use Rattle.walk.proofs.ChildLoop.{child_begins, child_sum, child_again, child_done}
use Rattle.walk.proofs.Clear.{clear_begins, child_blank, child_clear, child_apart}
use Rattle.child_lanes.proofs.RunLaws.{still_run, child_lane}
use Rattle.flat_eights.proofs.eights.eights_by.Goals as goal

pub child_count-end-requires : goal.child_count-end-requires
child_count-end-requires c = (let p = c.requires.for_eights in
    parent_of 8 8 (ready_small p.ready) p.cell (omega arith) (omega arith) p.side)

pub loop-m-init : goal.loop-m-init
loop-m-init c =
    let q = c.requires in
    let p = q.for_eights in (
      child_begins _,
      refl,
      refl,
      p.slots,
      clear_begins _ _ 8 8 (omega arith) (omega arith) p.side p.ready.fault p.cell p.blank,
      apart_none _ _ _ _ _ _,
      q.lent_ends,
      refl,
      λ n. absurd (n refl),
    )

pub run_children-result-requires : goal.run_children-result-requires
run_children-result-requires c =
    let p = c.requires.for_eights in
    let i = c.loop-m.invariant in
    let e = c.child_count-end.ensures in
    record {
      slots = p.level.sound.slots;
      accepted = p.level.sound.accepted;
      children = record {
        fault = p.ready.fault;
        cells = cell_whole 8 p.side p.cell;
        children = (let p = c.requires.for_eights in
            parent_of 8 8 (ready_small p.ready) p.cell (omega arith) (omega arith) p.side);
      };
      all = e;
      some = c.loop-m-test.true;
      few = omega (
        arith,
        e,
        (let p = c.requires.for_eights in
            children_few false _ _ 8 8 (omega arith) (omega arith) p.side p.ready.fault p.cell),
      );
      lent = i.6;
      room = (let p = c.requires.for_eights in omega (arith, words_fewer p.level.kept, p.rows, i.7));
      before = i.8;
    }

pub child-cell-requires : goal.child-cell-requires
child-cell-requires c = record {
  parent = (let p = c.requires.for_eights in
      parent_of 8 8 (ready_small p.ready) p.cell (omega arith) (omega arith) p.side);
  more = (omega (arith, c.loop-m-test.true, c.child_count-end.ensures));
}

pub lane_at-lane-requires : goal.lane_at-lane-requires
lane_at-lane-requires c = let v = c.run_children-result.ensures in record {
  slot_lt_slot_limit = v.within;
  k_lt_lane_count = omega arith;
  lent_ends = v.lent;
}

pub visit_eight-count-requires : goal.visit_eight-count-requires
visit_eight-count-requires c =
    let v = c.run_children-result in
    let k = c.child-cell.ensures in
    let i = c.loop-m.invariant in
    let p = c.requires.for_eights in
    record {
      eight = record {
        level = p.level;
        ready = ready_again p.ready i.0.size;
        cell = k.ok _ _ p.cell;
        side = k.side;
        even = omega (arith, k.at_x, p.even);
        room = omega (arith, p.room, i.1);
        second = omega (arith, p.second, i.2);
        slots = i.3;
        rows = omega (arith, p.rows, i.7);
        blank = child_blank k i.4;
      };
      run = child_lane p.ready.fault (k.ok _ _ p.cell) k (omega (arith, c.loop-m-test.true, c.child_count-end.ensures)) (omega (arith, words_fewer p.level.kept, p.rows, i.7))
          v.ensures c.lane_at-lane.ensures;
    }

pub overflow_add-count : goal.overflow_add-count
overflow_add-count c =
    let sum = child_sum c.loop-m.invariant.0 64 (omega (arith, c.loop-m-test.true, c.child_count-end.ensures)) (let p = c.requires.for_eights in
    children_few false _ _ 8 8 (omega arith) (omega arith) p.side p.ready.fault p.cell) c.visit_eight-count.ensures.visits.bound in
    omega (arith, sound_length c.requires.for_eights.level.sound, sum)

pub loop-m-smaller : goal.loop-m-smaller
loop-m-smaller c = omega (arith, c.loop-m-test.true)

pub loop-m-preserved : goal.loop-m-preserved
loop-m-preserved c =
    let v = c.visit_eight-count in
    let r = c.run_children-result in
    let k = c.child-cell.ensures in
    let i = c.loop-m.invariant in
    let p = c.requires.for_eights in (
      child_again i.0 k (omega (arith, c.loop-m-test.true, c.child_count-end.ensures)) v.ensures.visits (omega arith),
      (omega arith),
      (omega arith),
      v.ensures.slots_len,
      child_clear k i.4 v.ensures.apart,
      child_apart k 64 p.side i.5 v.ensures.apart,
      r.ensures.lent,
      (omega arith),
      λ q. still_run q r.ensures,
    )

pub shape_of-picture : goal.shape_of-picture
shape_of-picture c = c.loop-m.invariant.0.size

pub shape_of-work : goal.shape_of-work
shape_of-work c = c.loop-m.invariant.1

pub shape_of-second : goal.shape_of-second
shape_of-second c = c.loop-m.invariant.2

pub shape_of-choices : goal.shape_of-choices
shape_of-choices c = c.loop-m.invariant.7

pub returns : goal.returns
returns c =
    let i = c.loop-m.invariant in
    let h : length (children_in c.args.parent 8) ≤ 64 = let p = c.requires.for_eights in
    children_few false _ _ 8 8 (omega arith) (omega arith) p.side p.ready.fault p.cell in
    let e = c.child_count-end.ensures in record {
      folds = child_done i.0 64 (64 * 65) (omega (arith, c.loop-m-test.false)) h (omega arith);
      slots_len = i.3;
      apart = i.5;
    }
