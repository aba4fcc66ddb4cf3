-- The digits up to the place are those that may stand there.
use Rattle.std.proofs.Common.{◌+◌}
use Rattle.formula.proofs.Numbers.{Running}
use Rattle.formula.proofs.digits.digits.Given as goal

abbrev pub invariant-loop-count : goal.invariant-loop-count
invariant-loop-count l = Running l.text l.from l.most l.top (l.from + l.count) l.value l.count
