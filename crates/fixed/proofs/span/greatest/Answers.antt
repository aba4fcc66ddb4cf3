-- `span::greatest`: the larger of the larger of two pairs.
use Rattle.std.proofs.Common.{rules}
use Rattle.fixed.proofs.Ends.{max_is}
use Rattle.fixed.proofs.span.greatest.Goals as goal

pub returns : goal.returns
returns c = search (rules, max_is)
