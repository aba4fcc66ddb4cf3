-- `decimal::number_length` meets its contract. The invariant of its loop: the digits counted and those of the rest are
-- those of the number and one more. The measure is the rest. Assumes nothing.
use mathlib.Core.Path.{◌≡◌}
use Prim.Native.Nat.{◌+◌, ◌≤◌}
use lib.ListN.{length}
use Rattle.rules.specs.Pictures.{numeral}
use Rattle.netpbm.proofs.decimal.number_length.Given as goal

abbrev pub invariant-loop-rest : goal.invariant-loop-rest
invariant-loop-rest l = (l.digits + length (numeral l.rest) ≡ length (numeral l.v) + 1) × (1 ≤ l.digits)
    × (l.rest ≤ l.v)

abbrev pub decreases-loop-rest : goal.decreases-loop-rest
decreases-loop-rest l = l.rest
