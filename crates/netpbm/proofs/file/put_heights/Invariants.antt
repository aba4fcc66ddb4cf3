-- The heights passed are written, and nothing else.
use Rattle.std.proofs.Common.{◌≡◌, ◌+◌, ◌*◌, take}
use Rattle.rules.specs.Pictures.{high_first}
use Rattle.netpbm.specs.Appending.{Appends}
use Rattle.netpbm.proofs.file.put_heights.Given as goal

abbrev pub invariant-loop-h : goal.invariant-loop-h
invariant-loop-h l =
    record {
      place : l.next ≡ l.at + 2 * l.h-index;
      written : Appends l.initial.out l.at (high_first (take l.h-index l.picture)) l.out l.next;
    }
