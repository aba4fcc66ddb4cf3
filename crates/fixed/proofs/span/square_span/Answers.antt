-- `span::square_span`: the squares of the ends of the absolute range.
use Rattle.std.proofs.Common.{rules}
use Rattle.rules.specs.Values.{square_range}
use Rattle.fixed.proofs.span.square_span.Goals as goal

pub returns : goal.returns
unfolding square_range
returns c = search rules
