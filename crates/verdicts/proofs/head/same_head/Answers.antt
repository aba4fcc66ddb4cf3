-- The head as it should be, and the comparison.
use mathlib.Core.Path.{ap, ◌∙◌}
use lib.ListN.{take}
use Rattle.table_rules.specs.Tables.{head_length, same_bytes}
use Rattle.verdicts.proofs.HeadLaws.{same_told}
use Rattle.verdicts.proofs.head.same_head.Goals as goal

pub returns : goal.returns
returns c =
    same_told _ _ _ c.eq.ensures
    ∙ ap (same_bytes (take head_length c.args.table.now)) c.write_head.ensures
