-- `value::minimum`: the library's smaller number.
use Rattle.std.proofs.Common.{rules}
use Rattle.fixed.proofs.Ends.{min_is}
use Rattle.fixed.proofs.value.minimum.Goals as goal

pub returns : goal.returns
returns c = search (rules, min_is)
