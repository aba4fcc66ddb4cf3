-- `roots::stepped`: what is written is 2^44; the step is taken where the square is above.
use mathlib.Core.Path.{◌≡◌, ap, ◌∙◌}
use native.Mathlib.Omega.{arith}
use Prim.Native.Nat.{ℕ, ◌%◌}
use lib.IntN.{pos, ◌-ℤ◌}
use lib.Ieee.{binary64, sub, to_bits}
use mir.Syntax.{w32}
use mir.Val.{SFits, to_z, of_z}
use mir.Facts.{to_z_pos, to_z-of_z}
use Rattle.roots.proofs.Literals.{far}
use Rattle.roots.proofs.StepDown.{stepped_down, stepped_not, fits_less, fits_same}
use Rattle.roots.proofs.stepped.Goals as goal

read_back : (n : ℕ) → to_z w32 (n % 16777216) ≡ pos (n % 16777216)
read_back n = to_z_pos w32 (omega arith)

fits : (n : ℕ) → SFits w32 (to_z w32 (n % 16777216) -ℤ pos 1)
fits n = rw (read_back n) (fits_less (n % 16777216) (omega arith))

fits-0 : (n : ℕ) → SFits w32 (to_z w32 (n % 16777216) -ℤ pos 0)
fits-0 n = rw (read_back n) (fits_same (n % 16777216) (omega arith))

less-back : (n : ℕ) → to_z w32 (of_z w32 (to_z w32 (n % 16777216) -ℤ pos 1)) ≡ pos (n % 16777216) -ℤ pos 1
less-back n = to_z-of_z (fits n) ∙ ap (λ z. z -ℤ pos 1) (read_back n)

pub returns-then-x-s : goal.returns-then-x-s
returns-then-x-s c m h e n = less-back (to_bits binary64 c.args.t) ∙ stepped_down c.args.x c.args.t _ m h e n (ap (sub binary64 c.args.t) far) c.if-x-s.true

pub returns-else-x-s : goal.returns-else-x-s
returns-else-x-s c m h e n = read_back (to_bits binary64 c.args.t) ∙ stepped_not c.args.x c.args.t _ m h e n (ap (sub binary64 c.args.t) far) c.if-x-s.false
