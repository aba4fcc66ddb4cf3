-- The digits up to the place are those that may stand there.
use Rattle.std.proofs.Common.{add_assoc, add-zero}
use Rattle.formula.proofs.Numbers.{running_start, running_next, out_none, out_top}
use Rattle.formula.proofs.digits.digits.Goals as goal

pub loop-count-init : goal.loop-count-init
loop-count-init c = rw add-zero (running_start _ _ _ _ c.requires.0)

pub loop-count-preserved : goal.loop-count-preserved
loop-count-preserved c =
    rw (← add_assoc c.args.from c.loop-count.count 1)
    (running_next _ _ _ _ _ _ _ c.loop-count.invariant _ c.in-Some.ensures c.loop-count-test.true c.if-top-value.false)

pub returns-in_default : goal.returns-in_default
returns-in_default c = out_none _ _ _ _ _ _ _ c.loop-count.invariant c.in_default.ensures

pub returns-then-top-value : goal.returns-then-top-value
returns-then-top-value c = out_top _ _ _ _ _ _ _ c.loop-count.invariant _ c.in-Some.ensures c.if-top-value.true
