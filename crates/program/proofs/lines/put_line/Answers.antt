-- `lines::put_line` meets its contract: a number has at most 20 digits. Assumes nothing.
use native.Mathlib.Omega.{arith}
use Rattle.netpbm.proofs.Written.{then}
use Rattle.netpbm.proofs.Digits.{most_length}
use Rattle.program.proofs.lines.put_line.Goals as goal

pub put_number-end-requires : goal.put_number-end-requires
put_number-end-requires c = omega (arith, most_length c.args.v)

pub put-requires : goal.put-requires
put-requires c = omega (arith, most_length c.args.v)

pub returns : goal.returns
returns c =
    (then c.put_number-end.ensures c.put.ensures, omega (arith, most_length c.args.v))
