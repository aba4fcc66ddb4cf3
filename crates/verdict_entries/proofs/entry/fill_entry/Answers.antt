-- All clear, then the verdict, then the marks.
use native.Mathlib.Omega.{arith}
use lib.ListN.{length}
use Rattle.verdict_entries.proofs.EntryLaws.{entry_filled}
use Rattle.verdict_entries.proofs.entry.fill_entry.Goals as goal

pub returns : goal.returns
returns c =
    let a = c.args in
    entry_filled a.verdict a.marks.now c.clear.new.picture c.copy_from_slice.new.self (length a.entry.now) _ c.clear.ensures c.requires.entry_len
    c.copy_from_slice.ensures.after (omega arith)
