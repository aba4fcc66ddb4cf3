-- `value::multiply`: the exact product, rounded.
use Rattle.std.proofs.Common.{rules}
use Rattle.rules.specs.Values.{product}
use Rattle.fixed.proofs.value.multiply.Goals as goal

pub returns : goal.returns
unfolding product
returns c = search rules
