-- The row's byte, stored.
use native.Mathlib.Omega.{arith}
use lib.ListN.{length}
use Rattle.picture.proofs.PartLaws.{stored_apart}
use Rattle.walk.proofs.LookLaws.{sound_length}
use Rattle.flat_samples.proofs.CellRows.{pixels_in}
use Rattle.flat_samples.proofs.SampleRows.{samples_spare, stored_as, row_bound, row_folds, row_stored}
use Rattle.flat_samples.proofs.samples.store_signs.Goals as goal

pub overflow_sub-parent : goal.overflow_sub-parent
overflow_sub-parent c = omega (arith, c.requires.ok.xs)

pub sign_byte-byte-requires : goal.sign_byte-byte-requires
sign_byte-byte-requires c =
    let p = c.requires in
    omega (arith, p.ok.xs, p.side)

pub store_row-requires : goal.store_row-requires
store_row-requires c =
    let p = c.requires in
    let k = p.ok in record {
      within = pixels_in _ _ _ p.ready p.start (omega (arith, k.xs)) (omega (arith, k.xs))
          (omega (arith, k.ys, p.row));
      spare_zero = samples_spare k _ _ _ (c.sign_byte-byte.ensures.byte _ (p.signs p.sound.slots p.sound.accepted));
    }

pub overflow_sub-result : goal.overflow_sub-result
overflow_sub-result c = omega (arith, c.requires.ok.xs)

pub overflow_mul-result : goal.overflow_mul-result
overflow_mul-result c =
    let k = c.requires in
    omega (arith, sound_length k.sound, row_bound k.ok k.side (length c.args.code.now))

pub returns : goal.returns
returns c =
    let p = c.requires in
    let r = c.store_row.ensures in record {
      by_index = λ n a. stored_as (c.sign_byte-byte.ensures.byte _ (p.signs n a)) r;
      folds = λ none. row_folds p.ok p.side _ _ _ p.row (λ n a. c.sign_byte-byte.ensures.byte _ (p.signs n a))
          (row_stored p.ok p.side _ _ p.start none r);
      apart = stored_apart p.start (omega (arith, p.ok.xs)) r;
    }
