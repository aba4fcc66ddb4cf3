-- `decimal::put_number` meets its contract. The invariant of its loop: to what stood before it, the digits from the
-- first place to this one are written. The measure is the place. Assumes nothing.
use mathlib.Core.List.{List}
use Prim.Native.Nat.{ℕ, ◌/◌}
use Rattle.rules.specs.Pictures.{numeral}
use Rattle.netpbm.specs.Appending.{Appends}
use Rattle.netpbm.specs.Places.{Place}
use Rattle.netpbm.proofs.decimal.put_number.Given as goal

abbrev pub invariant-loop-place : goal.invariant-loop-place
invariant-loop-place l = Place l.v l.place
    × ((o : List ℕ) (a : ℕ) → Appends o a (numeral (l.v / l.initial.place)) l.initial.out l.initial.next
    → Appends o a (numeral (l.v / l.place)) l.out l.next)

abbrev pub decreases-loop-place : goal.decreases-loop-place
decreases-loop-place l = l.place
