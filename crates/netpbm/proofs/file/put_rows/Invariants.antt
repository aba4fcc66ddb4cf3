-- The rows passed are written, and nothing else.
use Rattle.std.proofs.Common.{◌≡◌, ◌+◌, ◌*◌}
use Rattle.rules.specs.Pictures.{clean_rows}
use Rattle.netpbm.specs.Appending.{Appends}
use Rattle.netpbm.proofs.file.put_rows.Given as goal

abbrev pub invariant-loop-y : goal.invariant-loop-y
invariant-loop-y l =
    record {
      place : l.next ≡ l.at + l.y * l.row;
      written : Appends l.initial.out l.at (clean_rows l.y l.width l.picture) l.out l.next;
    }
