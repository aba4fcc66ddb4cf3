-- One row of pixels.
use Prim.Native.Nat.{◌+◌}
use native.Mathlib.Omega.{arith}
use Rattle.slope_pixels.proofs.ShadeLaws.{fits_again, columns_begin, columns_next, columns_done}
use Rattle.slope_pixels.proofs.ShadeLaws.{pixel_of_row}
use Rattle.slope_pixels.proofs.pixels.shade_row.Goals as goal

pub loop-x-init : goal.loop-x-init
loop-x-init c = let p = c.requires in (columns_begin p.block _, p.sized)

pub shade_pixel-requires : goal.shade_pixel-requires
shade_pixel-requires c =
    let i = c.loop-x.invariant in
    let p = c.requires in
    record {
      sound = p.sound;
      fits = fits_again p.fits i.0.size;
      x_in = omega (arith, c.loop-x-test.true, p.block.x_in);
      y_in = omega (arith, p.block.y_some, p.block.y_in);
      sized = i.1;
    }

pub loop-x-preserved : goal.loop-x-preserved
loop-x-preserved c =
    let v = c.shade_pixel in
    let p = c.requires in (
      columns_next p.block (c.loop-x.x + 1) c.loop-x.invariant.0 (omega arith) (omega (arith, c.loop-x-test.true))
          (pixel_of_row c.args.row c.loop-x.x p.one v.ensures.shading) v.auto.slopes,
      v.ensures.sized,
    )

pub shape_of-slopes : goal.shape_of-slopes
shape_of-slopes c = c.loop-x.invariant.0.size

pub returns : goal.returns
returns c = let i = c.loop-x.invariant in record {
  shading = columns_done i.0 (omega (arith, c.loop-x-test.false));
  sized = i.1;
}
