-- `write::copy_clauses` meets its contract: the clauses from the i-th on.
use Rattle.merge.proofs.Copying.{Copying}
use Rattle.merge.proofs.write.copy_clauses.Given as goal

abbrev pub invariant-loop-i : goal.invariant-loop-i
invariant-loop-i l = Copying l.tape l.count l.by l.at l.initial.out l.i l.out
