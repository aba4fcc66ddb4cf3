-- `span::multiply_spans`: rounding keeps the least and the greatest of the four exact products.
use Rattle.std.proofs.Common.{rules}
use Rattle.rules.specs.Values.{product, product_range}
use Rattle.fixed.proofs.Ends.{least_rounded, greatest_rounded}
use Rattle.fixed.proofs.span.multiply_spans.Goals as goal

pub returns : goal.returns
unfolding product product_range
returns c = rw (← least_rounded, ← greatest_rounded) (search rules)
