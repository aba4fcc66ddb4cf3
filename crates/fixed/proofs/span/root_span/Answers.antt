-- `span::root_span`: the root of each end.
use Rattle.std.proofs.Common.{rules}
use Rattle.rules.specs.Values.{root_range}
use Rattle.fixed.proofs.span.root_span.Goals as goal

pub returns : goal.returns
unfolding root_range
returns c = search rules
