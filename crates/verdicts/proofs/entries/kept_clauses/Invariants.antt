-- Clause by clause.
use Rattle.rules.specs.Tapes.{read_tape}
use Rattle.table_rules.specs.Tables.{marks_in, kept_ok}
use Rattle.verdicts.proofs.KeptWalk.{KeptSo}
use Rattle.verdicts.proofs.entries.kept_clauses.Given as goal

abbrev pub invariant-loop-i : goal.invariant-loop-i
invariant-loop-i l = KeptSo l.slots l.written l.some l.tape l.entry l.count l.i
    (kept_ok (read_tape l.tape).tape (marks_in (read_tape l.tape).tape l.entry))
