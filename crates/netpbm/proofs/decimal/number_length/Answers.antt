-- `decimal::number_length` meets its contract. The invariant of its loop: the digits counted and those of the rest are
-- those of the number and one more. The measure is the rest. Assumes nothing.
use mathlib.Core.Path.{ap}
use native.Mathlib.Omega.{arith}
use lib.ListN.{length}
use Rattle.netpbm.proofs.Digits.{digit, length_digits, most_length}
use Rattle.netpbm.proofs.decimal.number_length.Goals as goal

pub overflow_add-digits : goal.overflow_add-digits
overflow_add-digits c = omega (arith, most_length c.args.v)

pub loop-rest-preserved : goal.loop-rest-preserved
loop-rest-preserved c = omega (arith, length_digits c.loop-rest.rest (omega arith) (omega arith))

pub returns : goal.returns
returns c =
    omega (arith, ap length (digit c.loop-rest.rest (omega arith)), most_length c.args.v)
