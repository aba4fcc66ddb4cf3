-- `span::least`: the smaller of the smaller of two pairs.
use Rattle.std.proofs.Common.{rules}
use Rattle.fixed.proofs.Ends.{min_is}
use Rattle.fixed.proofs.span.least.Goals as goal

pub returns : goal.returns
returns c = search (rules, min_is)
