-- 2^-17 and 2^44, as the code writes them, from their patterns.
use mathlib.Core.Path.{◌≡◌, refl}
use mathlib.Core.Bool.{false}
use lib.IntN.{pos, negsuc}
use lib.Ieee.{fin, binary64, of_bits}

pub tiny : of_bits binary64 4530621225134718976 ≡ fin false 1 (negsuc 16)
unfolding of_bits
tiny = refl

pub far : of_bits binary64 4805340802404319232 ≡ fin false 1 (pos 44)
unfolding of_bits
far = refl
