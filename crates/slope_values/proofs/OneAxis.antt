-- Slopes on one axis.
use mathlib.Core.Path.{◌≡◌, refl}
use lib.IntN.{ℤ, pos, negsuc}
use Prim.Native.Nat.{zero, suc}
use Rattle.rules.specs.Values.{absolute}
use Rattle.rules.specs.Slopes.{by_sign}

-- With its own sign a value is its size.
pub own_sign : (a : ℤ) → by_sign a a ≡ absolute a
own_sign (pos zero) = refl
own_sign (pos (suc a)) = refl
own_sign (negsuc a) = refl
