-- `span::add_spans`: low with low, high with high.
use Rattle.std.proofs.Common.{rules}
use Rattle.rules.specs.Values.{sum_range}
use Rattle.fixed.proofs.span.add_spans.Goals as goal

pub returns : goal.returns
unfolding sum_range
returns c = search rules
