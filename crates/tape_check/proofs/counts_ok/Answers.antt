-- `counts_ok` meets its contract.
use lib.Dec.{leb}
use Rattle.rules.specs.Tapes.{slot_limit, clause_limit, counts_ok}
use Rattle.tape_check.proofs.ClauseLines.{row}
use Rattle.tape_check.proofs.counts_ok.Goals as goal

pub returns : goal.returns
unfolding counts_ok
returns c =
    let a = c.args in
    row (leb 1 a.slots) (leb a.slots slot_limit) (leb 1 a.clauses) (leb a.clauses clause_limit)
