-- `span::holds_zero`: the tests of the words are the tests of the ends.
use Rattle.std.proofs.Common.{rules}
use Rattle.rules.specs.Values.{holds_zero}
use Rattle.fixed.proofs.span.holds_zero.Goals as goal

pub returns : goal.returns
unfolding holds_zero
returns c = search rules
