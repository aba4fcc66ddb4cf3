-- `span::subtract_spans`: low minus high, high minus low.
use Rattle.std.proofs.Common.{rules}
use Rattle.rules.specs.Values.{difference_range}
use Rattle.fixed.proofs.span.subtract_spans.Goals as goal

pub returns : goal.returns
unfolding difference_range
returns c = search rules
