-- `span::maximum_spans`: on both ends.
use Rattle.std.proofs.Common.{rules}
use Rattle.rules.specs.Values.{larger_range}
use Rattle.fixed.proofs.span.maximum_spans.Goals as goal

pub returns : goal.returns
unfolding larger_range
returns c = search rules
