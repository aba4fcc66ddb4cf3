-- The digits are those of the sizes.
use mathlib.Core.Path.{ap}
use native.Mathlib.Omega.{arith}
use lib.ListN.{length}
use Rattle.netpbm.proofs.Digits.{as_size}
use Rattle.netpbm.proofs.FileLaws.{length_head}
use Rattle.netpbm.proofs.file.file_length.Goals as goal

pub returns : goal.returns
returns c k =
    let s = c.args in
    omega (
      arith,
      length_head k s.width s.height,
      ap length (as_size s.width (omega arith)),
      ap length
          (as_size s.height (omega arith)),
    )
