-- From the lowest place on.
use Rattle.plate_places.proofs.PlaceLaws.{Faultless}
use Rattle.plate_places.proofs.check_places.Given as goal

abbrev pub invariant-loop-i : goal.invariant-loop-i
invariant-loop-i l = Faultless l.memory l.i
