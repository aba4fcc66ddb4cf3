-- From the first entry on.
use mathlib.Core.Path.{◌≡◌, ap, ◌∙◌}
use native.Mathlib.Omega.{arith}
use lib.ListN.{length}
use Rattle.rules.specs.Tapes.{read_tape}
use Rattle.picture.proofs.Answers.{passed_by, refused_by}
use Rattle.table_rules.specs.Tables.{entry_in, entry_ok}
use Rattle.table_rules.proofs.Entries.{entry_size}
use Rattle.verdicts.proofs.EntryLaws.{entries_start, entries_next, entries_end, entries_stop}
use Rattle.verdicts.proofs.EntryLaws.{entry_part}
use Rattle.verdicts.proofs.entries.entries_ok.Goals as goal

pub loop-i-init : goal.loop-i-init
loop-i-init c = entries_start _ _

pub slice_bounds-entry_ok-end : goal.slice_bounds-entry_ok-end
slice_bounds-entry_ok-end c = omega (arith, c.requires.table_len)

pub entry_ok-requires : goal.entry_ok-requires
entry_ok-requires c = record {
  tape_value = c.requires.tape_value;
  len = ap length (entry_part c.loop-i.i _)
      ∙ entry_size c.loop-i.i c.args.table.now (omega (arith, c.loop-i-test.true)) c.requires.table_len;
}

pub returns-then-not-entry_ok : goal.returns-then-not-entry_ok
returns-then-not-entry_ok c =
    let found : (let a = c.args in c.entry_ok.result ≡ entry_ok (read_tape a.tape.now).tape (entry_in c.loop-i.i a.table.now)) = c.entry_ok.ensures ∙ ap (entry_ok _) (entry_part c.loop-i.i _) in
    entries_stop _ _ 64 c.loop-i.i (omega (arith, c.loop-i-test.true))
    (refused_by _ found c.if-not-entry_ok.true)

pub loop-i-preserved : goal.loop-i-preserved
loop-i-preserved c =
    let found : (let a = c.args in c.entry_ok.result ≡ entry_ok (read_tape a.tape.now).tape (entry_in c.loop-i.i a.table.now)) = c.entry_ok.ensures ∙ ap (entry_ok _) (entry_part c.loop-i.i _) in
    entries_next _ _ c.loop-i.i c.loop-i.invariant (passed_by _ found c.if-not-entry_ok.false)

pub returns : goal.returns
returns c =
    let l = c.loop-i in entries_end _ _ 64 l.i (omega (arith, c.loop-i-test.false)) l.invariant
