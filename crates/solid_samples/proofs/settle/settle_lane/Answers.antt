-- Hidden or seen; `raised` has the height that is stored.
use mathlib.Core.Bool.{true}
use native.Mathlib.Omega.{arith}
use mir.Syntax.{w32}
use Rattle.rules.proofs.Words.{read}
use Rattle.walk.proofs.CellLaws.{small}
use Rattle.solid_samples.proofs.SampleLaws.{pixel_most, pixel_in, value_word, hidden_stored, seen_stored}
use Rattle.solid_samples.proofs.settle.settle_lane.Goals as goal

pub overflow_mul-at : goal.overflow_mul-at
overflow_mul-at c = let p = c.requires in omega (arith, pixel_most _ _ _ _ p.place p.ready.fault)

pub overflow_add-at : goal.overflow_add-at
overflow_add-at c = let p = c.requires in omega (arith, pixel_most _ _ _ _ p.place p.ready.fault)

pub overflow_cast-at : goal.overflow_cast-at
overflow_cast-at c = let p = c.requires in omega (arith, pixel_most _ _ _ _ p.place p.ready.fault)

pub overflow_cast-height : goal.overflow_cast-height
overflow_cast-height c =
    let p = c.requires in
    let d = small true _ p.ready.fault in
    let h = p.place.z_in in
    omega arith

pub offset_bounds-picture-at : goal.offset_bounds-picture-at
offset_bounds-picture-at c = let p = c.requires in omega (arith, pixel_most _ _ _ _ p.place p.ready.fault)

pub bounds-picture-at : goal.bounds-picture-at
bounds-picture-at c = let p = c.requires in pixel_in _ _ _ _ p.place p.ready.fault p.ready

pub offset_bounds-picture-at-2 : goal.offset_bounds-picture-at-2
offset_bounds-picture-at-2 c = let p = c.requires in omega (arith, pixel_most _ _ _ _ p.place p.ready.fault)

pub bounds-picture-at-2 : goal.bounds-picture-at-2
bounds-picture-at-2 c = let p = c.requires in pixel_in _ _ _ _ p.place p.ready.fault p.ready

pub returns-then-now-height : goal.returns-then-now-height
returns-then-now-height c =
    let p = c.requires in
    seen_stored _ _ _ _ p.place p.ready p.sound c.if-now-height.true _ (value_word c.ranges.value p.value) _
    c.raised.ensures

pub returns-else-now-height : goal.returns-else-now-height
returns-else-now-height c =
    let p = c.requires in
    hidden_stored _ _ _ _ p.place p.ready p.sound c.if-now-height.false (read w32 c.args.value) _
    c.raised.ensures
