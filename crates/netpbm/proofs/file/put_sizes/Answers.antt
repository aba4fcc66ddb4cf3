-- Four parts, one after the other.
use mathlib.Core.Path.{ap}
use native.Mathlib.Omega.{arith}
use lib.ListN.{length}
use Rattle.netpbm.proofs.Written.{then, renamed}
use Rattle.netpbm.proofs.Digits.{as_size}
use Rattle.netpbm.proofs.file.put_sizes.Goals as goal

pub put_number-after_width-requires : goal.put_number-after_width-requires
put_number-after_width-requires c =
    let s = c.args in
    omega (arith, ap length (as_size s.width (omega arith)))

pub put-after_space-requires : goal.put-after_space-requires
put-after_space-requires c =
    let s = c.args in
    omega (arith, ap length (as_size s.width (omega arith)))

pub put_number-after_height-requires : goal.put_number-after_height-requires
put_number-after_height-requires c =
    let s = c.args in
    omega (arith, ap length (as_size s.width (omega arith)), ap length (as_size s.height (omega arith)))

pub put-requires : goal.put-requires
put-requires c =
    let s = c.args in
    omega (arith, ap length (as_size s.width (omega arith)), ap length (as_size s.height (omega arith)))

pub returns : goal.returns
returns c =
    let s = c.args in
    then
    (renamed (as_size s.width (omega arith)) c.put_number-after_width.ensures)
    (then c.put-after_space.ensures
    (then (renamed (as_size s.height (omega arith)) c.put_number-after_height.ensures) c.put.ensures))
