-- The length of a picture, of each kind.
use mathlib.Core.Path.{◌≡◌}
use mathlib.Core.Bool.{Bool, true, false}
use Prim.Native.Nat.{◌*◌}
use Rattle.rules.specs.Drawings as D
use Rattle.rules.specs.Pictures.{stride, picture_size}

pub solid_size_lem : (t : Bool) (g : D.Grid) → t ≡ true → g.width * g.height ≡ picture_size t g
unfolding picture_size
solid_size_lem t g e = rw e

pub flat_size_lem : (t : Bool) (g : D.Grid) → t ≡ false → g.height * stride g.width ≡ picture_size t g
unfolding picture_size
flat_size_lem t g e = rw e
