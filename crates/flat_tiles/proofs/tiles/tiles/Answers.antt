-- The tiles of a rectangle, eight in a run.
use mathlib.Core.Path.{refl, ◌∙◌}
use Prim.Native.Nat.{◌*◌, ◌≤◌}
use native.Mathlib.Omega.{arith}
use lib.ListN.{length}
use Rattle.rules.specs.Drawings.{flat_bound}
use Rattle.picture.proofs.PartLaws.{apart_none, apart_then}
use Rattle.walk.specs.Children.{children_in}
use Rattle.walk.proofs.ChildLaws.{parts_fewer}
use Rattle.walk.proofs.ChildLoop.{child_begins, child_sum, child_again, child_done}
use Rattle.walk.proofs.Clear.{parts_clear, child_blank, child_clear, part_apart}
use Rattle.walk.proofs.LookLaws.{sound_length}
use Rattle.walk.proofs.Places.{ready_again}
use Rattle.child_lanes.proofs.RunLaws.{still_run, child_lane, made_ends}
use Rattle.flat_eights.proofs.CellParts.{looked_apart}
use Rattle.flat_tiles.proofs.WalkLaws.{lent_again}
use Rattle.flat_tiles.proofs.tiles.tiles.Goals as goal

pub child_count-end-requires : goal.child_count-end-requires
child_count-end-requires c = c.requires.rect.tiled.parent

pub loop-m-init : goal.loop-m-init
loop-m-init c =
    let p = c.requires in
    let t = p.rect.tiled in (
      child_begins _,
      refl,
      refl,
      refl,
      p.size,
      parts_clear t.parent (omega (arith, t.whole.zs.in_grid)) p.rect.blank,
      apart_none _ _ _ _ _ _,
      refl,
      refl,
      made_ends,
      λ n. absurd (n refl),
    )

pub run_children-result-requires : goal.run_children-result-requires
run_children-result-requires c =
    let p = c.requires.rect in
    let i = c.loop-m.invariant in
    let e = c.child_count-end.ensures in
    record {
      slots = p.lent.level.sound.slots;
      accepted = p.lent.level.sound.accepted;
      children = record {
        fault = p.lent.ready.fault;
        cells = p.tiled.whole;
        children = p.tiled.parent;
      };
      all = e;
      some = c.loop-m-test.true;
      few = omega (arith, e, (let t = p.tiled in parts_fewer t.parent 8 1 t.side (omega (arith, t.whole.zs.in_grid))));
      lent = i.9;
      room = omega (arith, c.requires.rows_own, i.8);
      before = i.10;
    }

pub child-cell-requires : goal.child-cell-requires
child-cell-requires c =
    record { parent = c.requires.rect.tiled.parent; more = (omega (arith, c.loop-m-test.true, c.child_count-end.ensures)) }

pub lane_at-lane-requires : goal.lane_at-lane-requires
lane_at-lane-requires c = let v = c.run_children-result.ensures in record {
  slot_lt_slot_limit = v.within;
  k_lt_lane_count = omega arith;
  lent_ends = v.lent;
}

-- Both choices have a row for each word; the run is in the tiles' own.
pub look_lane-seen-requires : goal.look_lane-seen-requires
look_lane-seen-requires c =
    let v = c.run_children-result in
    let k = c.child-cell.ensures in
    let i = c.loop-m.invariant in
    let q = c.requires in
    let p = q.rect in
    let l = p.lent in
    let ok = k.cell _ _ p.tiled.whole in
    record {
      flat = record {
        look = record {
          level = l.level;
          ready = ready_again l.ready i.0.size;
          cell = ok;
          marks = record { behind = omega arith; within = omega (arith, l.marks, i.1) };
          words = omega (arith, l.words_first, i.2);
        };
        even = (let p = p.tiled in
            omega (arith, k.at_x, p.start));
      };
      run = child_lane l.ready.fault ok k (omega (arith, c.loop-m-test.true, c.child_count-end.ensures))
          (omega (arith, q.rows, i.7, q.rows_own, i.8)) v.ensures
          c.lane_at-lane.ensures;
    }

pub settle_tile-count-requires : goal.settle_tile-count-requires
settle_tile-count-requires c =
    let k = c.child-cell.ensures in
    let i = c.loop-m.invariant in
    let q = c.requires in
    let p = q.rect in
    record {
      before = c.loop-m.picture;
      tile = record {
        lent = lent_again p.lent i.0.size ((omega arith)) ((omega arith)) i.3;
        ok = k.cell _ _ p.tiled.whole;
        side = k.side;
        start = (let p = p.tiled in
            omega (arith, k.at_x, p.start));
        size = i.4;
        rows = omega (arith, q.rows, i.7);
        blank = child_blank k i.5;
      };
      looked = c.look_lane-seen.ensures.looked;
    }

pub overflow_add-count : goal.overflow_add-count
overflow_add-count c =
    let v = c.settle_tile-count.ensures.tile_settled.over _ c.look_lane-seen.ensures.looked in
    let sum = child_sum c.loop-m.invariant.0 64 (omega (arith, c.loop-m-test.true, c.child_count-end.ensures)) (let t = c.requires.rect.tiled in parts_fewer t.parent 8 1 t.side (omega (arith, t.whole.zs.in_grid))) v.bound in
    omega (arith, sound_length c.requires.rect.lent.level.sound, sum)

pub loop-m-smaller : goal.loop-m-smaller
loop-m-smaller c = omega (arith, c.loop-m-test.true)

pub loop-m-preserved : goal.loop-m-preserved
loop-m-preserved c =
    let u = c.settle_tile-count in
    let j = c.look_lane-seen in
    let r = c.run_children-result in
    let k = c.child-cell.ensures in
    let i = c.loop-m.invariant in
    let apart = apart_then (looked_apart k.side j.ensures.apart) u.ensures.apart in (
      child_again i.0 k (omega (arith, c.loop-m-test.true, c.child_count-end.ensures)) (u.ensures.tile_settled.over _ j.ensures.looked) ((omega arith)),
      (omega arith) ∙ i.1,
      (omega arith),
      (omega arith),
      u.ensures.slots_len,
      child_clear k i.5 apart,
      part_apart k i.6 apart,
      (omega arith),
      (omega arith),
      r.ensures.lent,
      λ q. still_run q r.ensures,
    )

pub shape_of-picture : goal.shape_of-picture
shape_of-picture c = c.loop-m.invariant.0.size

pub shape_of-work : goal.shape_of-work
shape_of-work c = c.loop-m.invariant.1

pub shape_of-first : goal.shape_of-first
shape_of-first c = c.loop-m.invariant.2

pub shape_of-second : goal.shape_of-second
shape_of-second c = c.loop-m.invariant.3

pub shape_of-choices : goal.shape_of-choices
shape_of-choices c = c.loop-m.invariant.7

pub shape_of-own : goal.shape_of-own
shape_of-own c = c.loop-m.invariant.8

pub returns : goal.returns
returns c =
    let i = c.loop-m.invariant in
    let h : length (children_in c.args.parent 64) ≤ 64 = let t = c.requires.rect.tiled in parts_fewer t.parent 8 1 t.side (omega (arith, t.whole.zs.in_grid)) in
    let e = c.child_count-end.ensures in record {
      folds = child_done i.0 64 (64 * flat_bound) (omega (arith, c.loop-m-test.false)) h (omega arith);
      slots_len = i.4;
      tiles_apart = i.6;
    }
