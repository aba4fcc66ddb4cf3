-- `value::maximum`: the library's larger number.
use Rattle.std.proofs.Common.{rules}
use Rattle.fixed.proofs.Ends.{max_is}
use Rattle.fixed.proofs.value.maximum.Goals as goal

pub returns : goal.returns
returns c = search (rules, max_is)
