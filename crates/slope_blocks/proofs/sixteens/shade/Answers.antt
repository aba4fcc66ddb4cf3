-- No slopes, then all blocks of the picture.
use mathlib.Core.Path.{refl, ◌∙◌}
use mathlib.Core.Bool.{true}
use native.Mathlib.Omega.{arith}
use Rattle.walk.proofs.CellLaws.{small, first_in_lem}
use Rattle.slope_blocks.proofs.WindowLaws.{lent_again, all_shaded}
use Rattle.slope_blocks.proofs.sixteens.shade.Goals as goal

pub sixteens-requires : goal.sixteens-requires
sixteens-requires c =
    let p = c.requires in
    let i = first_in_lem true _ p.fits.heights.fault in
    let d = small true _ p.fits.heights.fault in
    record {
      lent = lent_again p c.clear.auto.slopes refl refl refl;
      block = record {
        in_grid = record { x_some = i.x_in; x_in = omega arith; y_some = i.y_in; y_in = omega arith };
        x_few = omega (arith, d.width);
        y_few = omega (arith, d.height);
      };
    }

pub returns : goal.returns
returns c =
    all_shaded c.requires.fits c.clear.ensures (c.sixteens.auto.slopes ∙ c.clear.auto.slopes)
    c.sixteens.ensures
