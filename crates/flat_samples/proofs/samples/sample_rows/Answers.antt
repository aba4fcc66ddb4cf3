-- The rows of samples of a region of side 8.
use native.Mathlib.Omega.{arith}
use Rattle.picture.proofs.PartLaws.{apart_none, apart_part, rows_apart, blank_below}
use Rattle.walk.proofs.LookLaws.{sound_length}
use Rattle.walk.proofs.Loops.{rows_begin, rows_again, rows_done}
use Rattle.walk.proofs.Places.{up_sum, ready_again}
use Rattle.flat_samples.proofs.SignRows.{signs_at}
use Rattle.flat_samples.proofs.samples.sample_rows.Goals as goal

pub run_rows-at-requires : goal.run_rows-at-requires
run_rows-at-requires c =
    let p = c.requires in
    record { sound = p.sound; fault = p.ready.fault; ok = p.ok; side = p.side; size = p.size }

pub loop-y-init : goal.loop-y-init
loop-y-init c =
    let p = c.requires in
    (rows_begin _ (omega arith) (omega (arith, p.ok.ys, p.side)), apart_none _ _ _ _ _ _)

pub overflow_sub-row : goal.overflow_sub-row
overflow_sub-row c = omega (arith, c.loop-y.invariant.0.place.place, c.loop-y-test.true, c.requires.ok.ys, c.requires.side)

pub overflow_add-row : goal.overflow_add-row
overflow_add-row c =
    omega (arith, c.loop-y.invariant.0.place.place, c.loop-y-test.true, c.requires.ok.ys, c.requires.side, c.run_rows-at.ensures.within)

pub bounds-slots-at : goal.bounds-slots-at
bounds-slots-at c =
    omega (arith, c.loop-y.invariant.0.place.place, c.loop-y-test.true, c.requires.ok.ys, c.requires.side, c.run_rows-at.ensures.within)

pub store_signs-count-requires : goal.store_signs-count-requires
store_signs-count-requires c =
    let p = c.requires in
    record {
      sound = p.sound;
      ready = ready_again p.ready c.loop-y.invariant.0.place.size;
      ok = p.ok;
      side = p.side;
      start = p.start;
      row = c.loop-y-test.true;
      signs = signs_at c.run_rows-at.ensures _ (omega (arith, c.loop-y.invariant.0.place.place)) c.loop-y-test.true;
    }

pub overflow_add-count : goal.overflow_add-count
overflow_add-count c =
    let p = c.requires in
    let i = c.loop-y.invariant in
    let none = blank_below (omega (arith, i.0.place.place)) (omega (arith, c.loop-y-test.true, p.ok.ys, p.side)) i.1 p.blank in
    let u = up_sum i.0.place c.loop-y-test.true (c.store_signs-count.ensures.folds none).bound in
    omega (arith, sound_length p.sound, u)

pub loop-y-preserved : goal.loop-y-preserved
loop-y-preserved c =
    let v = c.store_signs-count in
    let p = c.requires in
    let i = c.loop-y.invariant in
    let o = i.0.place.place in
    let a = rows_apart (omega arith) (omega arith) i.1 v.ensures.apart in (
      rows_again i.0 c.loop-y-test.true
          (v.ensures.folds (blank_below (omega (arith, o)) (omega (arith, c.loop-y-test.true, p.ok.ys, p.side)) i.1 p.blank))
          (omega arith),
      a,
    )

pub shape_of-picture : goal.shape_of-picture
shape_of-picture c = c.loop-y.invariant.0.place.size

pub returns : goal.returns
returns c =
    let i = c.loop-y.invariant in
    let u = i.0.place in record {
      folds = rows_done i.0 (omega arith) (omega arith);
      slots_len = c.run_rows-at.ensures.size;
      apart = apart_part (omega (arith, u.place, u.few)) i.1;
    }
