-- One row of regions of side 1, if the region has it.
use mathlib.Core.Bool.{true}
use Prim.Native.Nat.{◌<◌}
use native.Mathlib.Omega.{arith}
use borrow.Author.Rules.{rules}
use Rattle.walk.proofs.CellLaws.{small, child_in}
use Rattle.walk.proofs.LookLaws.{sound_length}
use Rattle.walk.proofs.Loops.{row_begins, row_again, row_done}
use Rattle.walk.proofs.Places.{up_sum, ready_again}
use Rattle.solid_samples.proofs.ChunkLaws.{row_there, row_gone, folds_as, folds_none}
use Rattle.solid_samples.proofs.SampleLaws.{value_word}
use Rattle.solid_samples.proofs.settle.settle_row.Goals as goal
use Rattle.solid_samples.proofs.settle.settle_row.Goals.{At-loop-x}

-- The region has the row.
row_in : (c : At-loop-x) → let a = c.args in a.y < a.parent.yend
row_in c = omega (arith, c.if-parent-y.false)

pub returns-then-parent-y : goal.returns-then-parent-y
returns-then-parent-y c = folds_none _ (row_gone _ _ _ (omega (arith, c.if-parent-y.true, c.requires.z_in)))

pub loop-x-init : goal.loop-x-init
loop-x-init c =
    let p = c.requires in
    row_begins _ (omega arith) (omega (arith, p.all.cell.xs, p.all.side))

pub overflow_sub-value : goal.overflow_sub-value
overflow_sub-value c = omega (arith, c.loop-x.invariant.place.place)

pub overflow_add-value : goal.overflow_add-value
overflow_add-value c =
    let p = c.requires in
    omega (arith, c.loop-x-test.true, p.first_in, p.all.cell.xs, p.all.side)

pub overflow_cast-value : goal.overflow_cast-value
overflow_cast-value c =
    let p = c.requires in
    omega (arith, c.loop-x-test.true, p.first_in, p.all.cell.xs, p.all.side)

pub offset_bounds-values-first : goal.offset_bounds-values-first
offset_bounds-values-first c =
    let p = c.requires in
    omega (arith, c.loop-x-test.true, p.first_in, p.all.cell.xs, p.all.side)

pub bounds-values-first : goal.bounds-values-first
bounds-values-first c =
    let p = c.requires in
    omega (arith, c.loop-x-test.true, p.first_in, p.all.cell.xs, p.all.side)

pub settle_lane-count-requires : goal.settle_lane-count-requires
settle_lane-count-requires c =
    let i = c.loop-x.invariant in
    let p = c.requires in
    let y = row_in (goal.at.settle_lane-count-requires c).At-loop-x in
    record {
      sound = p.all.sound;
      ready = ready_again p.all.ready i.place.size;
      place = child_in _ _ _ p.all.cell c.loop-x-test.true y p.z_in;
      value = value_word (search rules)
          (p.values.here _ (omega (arith, i.place.place)) c.loop-x-test.true y);
    }

pub overflow_add-count : goal.overflow_add-count
overflow_add-count c =
    let sum = up_sum c.loop-x.invariant.place c.loop-x-test.true c.settle_lane-count.ensures.bound in
    omega (arith, sound_length c.requires.all.sound, sum)

pub loop-x-preserved : goal.loop-x-preserved
loop-x-preserved c =
    let v = c.settle_lane-count in
    row_again c.loop-x.invariant c.loop-x-test.true v.ensures v.auto.picture

pub shape_of-picture : goal.shape_of-picture
shape_of-picture c = c.loop-x.invariant.place.size

pub returns : goal.returns
returns c =
    folds_as (row_there _ _ _ (row_in (goal.at.returns c).At-loop-x))
    (row_done c.loop-x.invariant (omega arith) (omega arith))
