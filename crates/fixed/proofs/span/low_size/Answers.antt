-- `span::low_size`: the two tests say whether the range holds 0.
use Rattle.std.proofs.Common.{rules}
use Rattle.rules.specs.Values.{holds_zero}
use Rattle.fixed.proofs.span.low_size.Goals as goal

pub returns-then-low-gt0 : goal.returns-then-low-gt0
unfolding holds_zero
returns-then-low-gt0 c = search rules

pub returns-then-high-lt0 : goal.returns-then-high-lt0
unfolding holds_zero
returns-then-high-lt0 c = search rules

pub returns-else-high-lt0 : goal.returns-else-high-lt0
unfolding holds_zero
returns-else-high-lt0 c = search rules
