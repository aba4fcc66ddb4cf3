-- `decimal::first_place` meets its contract. The invariant of its loop: the number has a digit in the place. The
-- measure is what the place leaves of the number. Assumes nothing.
use Prim.Native.Nat.{◌-◌}
use Rattle.netpbm.specs.Places.{Place}
use Rattle.netpbm.proofs.decimal.first_place.Given as goal

abbrev pub invariant-loop-place : goal.invariant-loop-place
invariant-loop-place l = Place l.v l.place

abbrev pub decreases-loop-place : goal.decreases-loop-place
decreases-loop-place l = l.v - l.place
