-- Length, head, entries.
use mathlib.Core.Path.{sym, ◌∙◌}
use borrow.Author.Tests.{eqb-true, ne_eqb}
use Rattle.picture.proofs.Answers.{passed_by, refused_by}
use Rattle.table_rules.proofs.Heads.{tape_fits}
use Rattle.verdicts.proofs.EntryLaws.{table_short, table_other, table_rest}
use Rattle.verdicts.proofs.check_table.Goals.{then-table-eq-TABLE_LENGTH, else-table-eq-TABLE_LENGTH}
use Rattle.verdicts.proofs.check_table.Goals as goal

pub same_head-requires-clause-tape_len_bound : goal.same_head-requires-clause-tape_len_bound
same_head-requires-clause-tape_len_bound c = tape_fits _ c.requires

pub returns-then-same_head : goal.returns-then-same_head
returns-then-same_head c =
    elim c.if-table-eq-TABLE_LENGTH.branch [
      | then-table-eq-TABLE_LENGTH w ↦
          table_rest _ _ _ w.if-table-eq-TABLE_LENGTH.true
          (passed_by _ w.same_head.ensures (sym w.value-is ∙ c.if-same_head.true)) c.entries_ok.ensures
      | else-table-eq-TABLE_LENGTH w ↦ absurd (w.if-table-eq-TABLE_LENGTH.false (eqb-true _ _ (sym w.value-is ∙ c.if-same_head.true)))
    ]

pub returns-else-same_head : goal.returns-else-same_head
returns-else-same_head c =
    elim c.if-table-eq-TABLE_LENGTH.branch [
      | then-table-eq-TABLE_LENGTH w ↦
          c.if-same_head.false
          ∙ table_other _ _ _ w.if-table-eq-TABLE_LENGTH.true (refused_by _ w.same_head.ensures (sym w.value-is ∙ c.if-same_head.false))
      | else-table-eq-TABLE_LENGTH w ↦ w.value-is ∙ ne_eqb _ _ w.if-table-eq-TABLE_LENGTH.false ∙ table_short _ _ _ w.if-table-eq-TABLE_LENGTH.false
    ]
