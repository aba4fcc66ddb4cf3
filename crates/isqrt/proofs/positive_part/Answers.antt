-- Below 0 both roots are 0.
use Rattle.std.proofs.Common.{◌≡◌, true, ℤ, pos, arith, rules}
use Rattle.std.specs.Int.Signed.{lt_z}
use lib.IntN.{negsuc}
use borrow.Author.Tests.{ltb-true}
use mir.Val.{to_z, of_z}
use mir.Syntax.{w32}
use mir.Facts.{to_z-of_z}
use Rattle.rules.specs.Values.{root_of}
use Rattle.rules.proofs.Root.{root_is}
use Rattle.isqrt.proofs.positive_part.Goals as goal

zero-root : (z : ℤ) → lt_z z (pos 0) ≡ true → root_of (pos 0) ≡ root_of z
unfolding root_of
zero-root (pos a) h = absurd (omega (arith, ltb-true a 0 h))
zero-root (negsuc a) h = root_is 0 0 (omega arith) (omega arith) (omega arith)

pub returns-then-a-lt0 : goal.returns-then-a-lt0
returns-then-a-lt0 c =
    let whole : to_z w32 (of_z w32 c.args.a) ≡ c.args.a = to_z-of_z {w = w32} {z = c.args.a} (search rules) in
    (omega arith, zero-root c.args.a (rw whole at c.if-a-lt0.true))
