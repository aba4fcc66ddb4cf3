-- Sizes, origins and steps.
use mathlib.Core.Bool.{false}
use mir.Facts.{to_z-of_z}
use Rattle.picture.specs.Shapes.{grid_in}
use Rattle.picture.proofs.GridWords.{InWords, in_words}
use Rattle.verdicts.proofs.HeadLaws.{record_stored}
use Rattle.verdicts.proofs.head.put_grid.Goals as goal

pub returns : goal.returns
returns c =
    let g = c.args.grid in
    let w : InWords g = in_words c.struct_told-1.given in
    record_stored (grid_in g false) c.args.out.now c.put_sizes.new.out c.put_three.new.out
    c.put_three-2.new.out _ _ _ _ _ c.requires (to_z-of_z w.xorigin) (to_z-of_z w.yorigin) (to_z-of_z w.zorigin)
    (to_z-of_z w.xstep) (to_z-of_z w.ystep) c.put_sizes.ensures c.put_three.ensures
    c.put_three-2.ensures
