-- `value::square`: the product with itself.
use Rattle.std.proofs.Common.{rules}
use Rattle.rules.specs.Values.{square}
use Rattle.fixed.proofs.value.square.Goals as goal

pub returns : goal.returns
unfolding square
returns c = search rules
