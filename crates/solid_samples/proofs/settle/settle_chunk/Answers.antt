-- A whole chunk, or two rows, one after the other.
use native.Mathlib.Omega.{arith}
use mathlib.Core.Bool.{true}
use Rattle.walk.proofs.CellLaws.{small}
use Rattle.walk.proofs.LookLaws.{sound_length}
use Rattle.solid_samples.proofs.SampleLaws.{samples_again}
use Rattle.solid_samples.proofs.ChunkLaws.{folds_both}
use Rattle.solid_samples.proofs.settle.settle_chunk.Goals as goal

pub overflow_add-y : goal.overflow_add-y
overflow_add-y c =
    let p = c.requires in
    let s = small true _ p.all.ready.fault in
    omega (arith, p.y_in, p.all.cell.ys)

pub settle_row-lower-requires : goal.settle_row-lower-requires
settle_row-lower-requires c =
    let p = c.requires in
    record { all = p.all; z_in = p.z_in; first_in = omega arith; values = p.values.lower }

pub overflow_add-y-2 : goal.overflow_add-y-2
overflow_add-y-2 c =
    let p = c.requires in
    let s = small true _ p.all.ready.fault in
    omega (arith, p.y_in, p.all.cell.ys)

pub settle_row-upper-requires : goal.settle_row-upper-requires
settle_row-upper-requires c =
    let p = c.requires in
    record {
      all = samples_again p.all c.settle_row-lower.auto.picture;
      z_in = p.z_in;
      first_in = omega arith;
      values = p.values.upper;
    }

pub overflow_add-result : goal.overflow_add-result
overflow_add-result c =
    omega (arith, sound_length c.requires.all.sound, c.settle_row-lower.ensures.bound, c.settle_row-upper.ensures.bound)

pub returns : goal.returns
returns c =
    folds_both 4 4 c.settle_row-lower.ensures c.settle_row-upper.ensures

pub settle_whole-requires : goal.settle_whole-requires
settle_whole-requires c =
    let p = c.requires in
    let s = small true _ p.all.ready.fault in
    record { chunk = p; wide = omega arith; rows = omega arith }
