-- Done by the look, or cut and its samples run.
use mathlib.Core.Path.{refl}
use mathlib.Core.Bool.{false}
use mathlib.Core.List.{[]}
use native.Mathlib.Omega.{arith}
use Rattle.picture.proofs.PartLaws.{apart_then}
use Rattle.walk.proofs.LookLaws.{sound_length, done_of, open_of, done_visits, open_sound, open_fewer, open_rows}
use Rattle.walk.proofs.Places.{ready_again}
use Rattle.flat_eights.proofs.CellParts.{looked_apart, same_blank}
use Rattle.flat_eights.proofs.eights.visit_eight.Goals as goal

pub mark_room-requires : goal.mark_room-requires
mark_room-requires c = c.requires.eight.level.kept.kept.within

pub overflow_add-base : goal.overflow_add-base
overflow_add-base c =
    let w = c.requires.eight.level.kept.kept.within in
    omega (arith, c.mark_room.ensures)

pub look_lane-seen-requires : goal.look_lane-seen-requires
look_lane-seen-requires c =
    let p = c.requires.eight in
    let m = c.mark_room.ensures in
    record {
      flat = record {
        look = record {
          level = p.level;
          ready = p.ready;
          cell = p.cell;
          marks = record { behind = omega arith; within = omega (arith, m, p.room) };
          words = p.second;
        };
        even = p.even;
      };
      run = c.requires.run;
    }

pub offset_bounds-second-start : goal.offset_bounds-second-start
offset_bounds-second-start c =
    let o = (open_of false _ _ _ _ _ _ _ _ _ c.look_lane-seen.ensures.looked c.in-Open.is).cut.start in
    omega (arith)

pub slice_bounds-short-count : goal.slice_bounds-short-count
slice_bounds-short-count c = (open_of false _ _ _ _ _ _ _ _ _ c.look_lane-seen.ensures.looked c.in-Open.is).cut.start

-- Both tapes are sound; which of them is lent shows in what is drawn and counted.
pub sample_rows-inside-requires : goal.sample_rows-inside-requires
sample_rows-inside-requires c =
    let p = c.requires.eight in
    let short = open_sound p.level.sound (open_of false _ _ _ _ _ _ _ _ _ c.look_lane-seen.ensures.looked c.in-Open.is) in
    record {
      sound = search (short, p.level.sound);
      ready = ready_again p.ready (omega arith);
      ok = p.cell;
      side = p.side;
      start = p.even;
      size = p.slots;
      blank = same_blank (open_of false _ _ _ _ _ _ _ _ _ c.look_lane-seen.ensures.looked c.in-Open.is).same p.blank;
    }

pub overflow_add-result : goal.overflow_add-result
overflow_add-result c =
    let w = c.requires.eight.level.sound in
    omega (arith, sound_length w, open_fewer w (open_of false _ _ _ _ _ _ _ _ _ c.look_lane-seen.ensures.looked c.in-Open.is), c.sample_rows-inside.ensures.folds.bound)

pub returns-in-Done : goal.returns-in-Done
returns-in-Done c =
    let p = c.requires.eight in record {
      visits = done_visits 65 1 [] refl (omega arith)
          (done_of false _ _ _ _ _ _ _ _ _ c.look_lane-seen.ensures.looked c.in-Done.is);
      slots_len = p.slots;
      apart = looked_apart p.side c.look_lane-seen.ensures.apart;
    }

pub returns-in-Open : goal.returns-in-Open
returns-in-Open c =
    let p = c.requires.eight in record {
      visits = open_rows 1 8 p.level.sound (omega arith) (omega arith) p.side (record { ok = p.cell; same = refl })
          (open_of false _ _ _ _ _ _ _ _ _ c.look_lane-seen.ensures.looked c.in-Open.is) [] 64 c.sample_rows-inside.ensures.folds;
      slots_len = c.sample_rows-inside.ensures.slots_len;
      apart = apart_then (looked_apart p.side c.look_lane-seen.ensures.apart) c.sample_rows-inside.ensures.apart;
    }
