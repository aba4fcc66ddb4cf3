-- From the first entry on.
use Rattle.rules.specs.Tapes.{read_tape}
use Rattle.verdicts.proofs.EntryLaws.{EntriesSo}
use Rattle.verdicts.proofs.entries.entries_ok.Given as goal

abbrev pub invariant-loop-i : goal.invariant-loop-i
invariant-loop-i l = EntriesSo (read_tape l.tape).tape l.table l.i
