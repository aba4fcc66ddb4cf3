-- Done by the look, or cut and its children visited.
use mathlib.Core.Path.{refl}
use mathlib.Core.Bool.{true}
use mathlib.Core.List.{[]}
use Prim.Native.Nat.{◌+◌, ◌*◌}
use native.Mathlib.Omega.{arith}
use lib.ListN.{length}
use Rattle.walk.specs.Cells.{region_in}
use Rattle.walk.specs.Walks.{Opened}
use Rattle.walk.proofs.LookLaws.{sound_length, done_of, open_of, done_visits, open_sound, open_fewer, open_layers}
use Rattle.walk.proofs.Places.{ready_again}
use Rattle.solid_blocks.proofs.fours.visit_four.Goals as goal
use Rattle.solid_blocks.proofs.fours.visit_four.Goals.{In-Open}

opened : (c : In-Open)
    → let a = c.args in
    Opened true a.whole.now a.code.now a.grid (region_in a.cell) a.picture.now
    c.look_lane-seen.new.picture (length a.whole.now + 2 * c.mark_room-room.result) c.look_lane-seen.new.work
    c.look_lane-seen.new.next c.in-Open.start
opened c = open_of true _ _ _ _ _ _ _ _ _ c.look_lane-seen.ensures c.in-Open.is

pub mark_room-room-requires : goal.mark_room-room-requires
mark_room-room-requires c = c.requires.for_four.four.level.kept.kept.within

pub overflow_mul-base : goal.overflow_mul-base
overflow_mul-base c =
    let w = c.requires.for_four.four.level.kept.kept.within in
    omega (arith, c.mark_room-room.ensures)

pub overflow_add-base : goal.overflow_add-base
overflow_add-base c =
    let w = c.requires.for_four.four.level.kept.kept.within in
    omega (arith, c.mark_room-room.ensures)

pub look_lane-seen-requires : goal.look_lane-seen-requires
look_lane-seen-requires c =
    let q = c.requires.for_four in
    let p = q.four in
    let m = c.mark_room-room.ensures in
    record {
      look = record {
        level = p.level;
        ready = p.ready;
        cell = p.cell;
        marks = record { behind = omega arith; within = omega (arith, m, p.room) };
        words = p.third;
      };
      seen = q.seen;
      run = q.run;
    }

pub offset_bounds-third-start : goal.offset_bounds-third-start
offset_bounds-third-start c =
    let o = (opened (goal.at.offset_bounds-third-start c).In-Open).cut.start in
    let g = c.well_formed in
    omega (arith, c.look_lane-seen.auto.next)

pub slice_bounds-short-count : goal.slice_bounds-short-count
slice_bounds-short-count c = (opened (goal.at.slice_bounds-short-count c).In-Open).cut.start

-- Both tapes are sound; which of them is lent shows in what is drawn and counted.
pub sample_layers-inside-requires : goal.sample_layers-inside-requires
sample_layers-inside-requires c =
    let p = c.requires.for_four.four in
    let short = open_sound p.level.sound (opened (goal.at.sample_layers-inside-requires c).In-Open) in record {
      for_samples = record {
        sound = search (short, p.level.sound);
        ready = ready_again p.ready c.look_lane-seen.auto.picture;
        cell = p.cell;
        side = p.side;
      };
      slots_len = c.requires.slots_len;
    }

pub overflow_add-result : goal.overflow_add-result
overflow_add-result c =
    let s = c.requires.for_four.four.level.sound in
    omega (arith, sound_length s, open_fewer s (opened (goal.at.overflow_add-result c).In-Open), c.sample_layers-inside.ensures.folds.bound)

pub returns-in-Done : goal.returns-in-Done
returns-in-Done c = record {
  visits = done_visits 65 1 [] refl (omega arith)
      (done_of true _ _ _ _ _ _ _ _ _ c.look_lane-seen.ensures c.in-Done.is);
  slots_stay = c.requires.slots_len;
}

pub returns-in-Open : goal.returns-in-Open
returns-in-Open c =
    let p = c.requires.for_four.four in
    let inside = c.sample_layers-inside.ensures in record {
      visits = open_layers 1 4 p.level.sound (omega arith) (omega arith) p.side (record { ok = p.cell; same = refl })
          p.ready.fault (opened (goal.at.returns-in-Open c).In-Open) [] 64 inside.folds;
      slots_stay = inside.slots_stay;
    }
