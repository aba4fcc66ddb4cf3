-- One more lane, one more bit.
use Prim.Native.Nat.{◌-◌}
use Rattle.flat_samples.proofs.SignRows.{SignsSoFar}
use Rattle.flat_samples.proofs.samples.sign_byte.Given as goal

abbrev pub invariant-loop-k : goal.invariant-loop-k
invariant-loop-k l = SignsSoFar l.count l.row l.byte l.k

abbrev pub decreases-loop-k : goal.decreases-loop-k
decreases-loop-k l = 8 - l.k
