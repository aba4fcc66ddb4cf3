-- `span::absolute_span`: the sizes of both ends, and 0 where the range holds it.
use Rattle.std.proofs.Common.{rules}
use Rattle.rules.specs.Values.{absolute_range}
use Rattle.fixed.proofs.span.absolute_span.Goals as goal

pub returns : goal.returns
unfolding absolute_range
returns c = search rules
