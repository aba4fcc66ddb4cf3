-- Each number at its own place.
use Rattle.swept_tiles.proofs.NumberLaws.{NumberedTo}
use Rattle.swept_tiles.proofs.tiles.number.Given as goal

abbrev pub invariant-loop-k : goal.invariant-loop-k
invariant-loop-k l = NumberedTo l.n l.k l.initial.list l.list
