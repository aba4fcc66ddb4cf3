-- `span::minimum_spans`: on both ends.
use Rattle.std.proofs.Common.{rules}
use Rattle.rules.specs.Values.{smaller_range}
use Rattle.fixed.proofs.span.minimum_spans.Goals as goal

pub returns : goal.returns
unfolding smaller_range
returns c = search rules
