-- The rows of a block.
use mathlib.Core.Path.{refl}
use Prim.Native.Nat.{◌+◌}
use native.Mathlib.Omega.{arith}
use Rattle.slope_pixels.proofs.ShadeLaws.{row_in, fits_again, rows_begin, rows_next, rows_done}
use Rattle.slope_pixels.proofs.pixels.shade_rows.Goals as goal
use Rattle.slope_pixels.proofs.pixels.shade_rows.Goals.{In-loop-y}

pub loop-y-init : goal.loop-y-init
loop-y-init c = (rows_begin c.requires.block _, record { values = refl; xs = refl; ys = refl; zs = refl })

pub shade_row-requires : goal.shade_row-requires
shade_row-requires c =
    let i = c.loop-y.invariant in
    let p = c.requires in
    record {
      sound = p.sound;
      fits = fits_again p.fits i.0.size;
      block = row_in _ p.block i.0.from c.loop-y-test.true;
      one = refl;
      sized = i.1;
    }

pub loop-y-preserved : goal.loop-y-preserved
loop-y-preserved c =
    let v = c.shade_row in (
      rows_next c.requires.block (c.loop-y.y + 1) c.loop-y.invariant.0 (omega arith) (omega (arith, c.loop-y-test.true))
          v.ensures.shading v.auto.slopes,
      v.ensures.sized,
    )

pub shape_of-slopes : goal.shape_of-slopes
shape_of-slopes c = c.loop-y.invariant.0.size

pub returns : goal.returns
returns c = rows_done c.loop-y.invariant.0 (omega (arith, c.loop-y-test.false))
