-- The bytes as they are made.
use mathlib.Core.Path.{refl}
use Rattle.plate_drawing.specs.Afresh.{picture_limit}
use Rattle.plate_drawing.proofs.blank_picture.Goals as goal

pub returns : goal.returns
unfolding picture_limit
returns c = refl
