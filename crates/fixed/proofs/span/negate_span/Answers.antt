-- `span::negate_span`: the ends change places.
use Rattle.std.proofs.Common.{rules}
use Rattle.rules.specs.Values.{negated_range}
use Rattle.fixed.proofs.span.negate_span.Goals as goal

pub returns : goal.returns
unfolding negated_range
returns c = search rules
