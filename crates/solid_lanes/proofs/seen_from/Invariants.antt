-- Child m, and those behind it that are not hidden, as far as there are lanes.
use Rattle.solid_lanes.proofs.ListLaws.{Listing}
use Rattle.solid_lanes.proofs.seen_from.Given as goal

abbrev pub invariant-loop-i : goal.invariant-loop-i
invariant-loop-i l = Listing l.m l.end l.r l.n
