-- `check_clauses` meets its contract: the walk over the clauses from the i-th on.
use Rattle.tape_check.proofs.ClauseWalk.{Walk}
use Rattle.tape_check.proofs.check_clauses.Given as goal

abbrev pub invariant-loop-i : goal.invariant-loop-i
invariant-loop-i g l = Walk l.counts.slots l.counts.clauses l.i-counter (goal.C-post g l.clause_at) l.written
