-- `check_length` meets its contract.
use Rattle.merge.proofs.Checking.{length_wrong, length_right}
use Rattle.merge.proofs.check_length.Goals as goal

pub returns-then-length-clauses : goal.returns-then-length-clauses
returns-then-length-clauses c = length_wrong _ _ _ c.if-length-clauses.true

pub returns : goal.returns
returns c = length_right _ _ _ c.if-length-clauses.false
