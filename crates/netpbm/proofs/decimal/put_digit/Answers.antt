-- `decimal::put_digit` meets its contract. Assumes nothing.
use Rattle.netpbm.proofs.Written.{one}
use Rattle.netpbm.proofs.decimal.put_digit.Goals as goal

pub returns : goal.returns
returns c = one _ _ _ c.requires.at_in_bounds
