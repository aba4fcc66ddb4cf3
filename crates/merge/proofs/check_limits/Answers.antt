-- `check_limits` meets its contract.
use Rattle.merge.proofs.Checking.{clauses_over, slots_over, within}
use Rattle.merge.proofs.check_limits.Goals as goal

pub returns-then-clauses-gt-CLAUSE_LIMIT : goal.returns-then-clauses-gt-CLAUSE_LIMIT
returns-then-clauses-gt-CLAUSE_LIMIT c = clauses_over _ _ _ _ c.if-clauses-gt-CLAUSE_LIMIT.true

pub returns-then-slots-gt-SLOT_LIMIT : goal.returns-then-slots-gt-SLOT_LIMIT
returns-then-slots-gt-SLOT_LIMIT c = slots_over _ _ _ _ c.if-clauses-gt-CLAUSE_LIMIT.false c.if-slots-gt-SLOT_LIMIT.true

pub returns : goal.returns
returns c = within _ _ _ _ c.if-clauses-gt-CLAUSE_LIMIT.false c.if-slots-gt-SLOT_LIMIT.false
