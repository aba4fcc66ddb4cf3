-- `value::subtract`: the difference, clamped.
use Rattle.std.proofs.Common.{rules}
use Rattle.rules.specs.Values.{difference}
use Rattle.fixed.proofs.value.subtract.Goals as goal

pub returns : goal.returns
unfolding difference
returns c = search rules
