-- `value::add`: the sum, clamped.
use Rattle.std.proofs.Common.{rules}
use Rattle.rules.specs.Values.{sum}
use Rattle.fixed.proofs.value.add.Goals as goal

pub returns : goal.returns
unfolding sum
returns c = search rules
