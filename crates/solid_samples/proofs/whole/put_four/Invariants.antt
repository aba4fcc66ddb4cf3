-- One pixel after the other.
use mathlib.Core.Path.{◌≡◌}
use Prim.Native.Nat.{◌-◌, ◌≤◌}
use lib.ListN.{length}
use Rattle.solid_samples.specs.Whole.{put_row}
use Rattle.solid_samples.proofs.whole.put_four.Given as goal

abbrev pub invariant-loop-k : goal.invariant-loop-k
invariant-loop-k l = (l.k ≤ 4) × (l.picture ≡ put_row l.k l.initial.picture l.at l.row l.first) × (length l.picture ≡ length l.initial.picture)

abbrev pub decreases-loop-k : goal.decreases-loop-k
decreases-loop-k l = 4 - l.k
