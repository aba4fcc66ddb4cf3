-- The picture's length, on sizes of at most 128.
use mathlib.Core.Path.{refl}
use mathlib.Core.Bool.{true}
use Prim.Native.Nat.{◌*◌, ◌≤◌}
use native.Mathlib.Nat.{mul-le-mul}
use native.Mathlib.Omega.{arith}
use Rattle.picture.proofs.PictureSizes.{solid_size_lem}
use Rattle.program.proofs.solid.picture_length.Goals.{Start}
use Rattle.program.proofs.solid.picture_length.Goals as goal

most : (c : Start) → c.args.grid.width * c.args.grid.height ≤ 16384
most c = mul-le-mul c.requires.width_le_solid_limit c.requires.height_le_solid_limit

pub overflow_mul-result : goal.overflow_mul-result
overflow_mul-result c = record { fits = omega (arith, most c.before.before) }

pub returns : goal.returns
returns c = record { size = λ _. solid_size_lem true _ refl; most = most c.before.before }
