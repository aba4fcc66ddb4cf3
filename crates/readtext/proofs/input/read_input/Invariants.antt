use Rattle.std.proofs.Common.{length, ◌-◌}
use Rattle.readtext.proofs.input.read_input.Given as goal

abbrev pub decreases-loop-size : goal.decreases-loop-size
decreases-loop-size g l = length l.room - l.size
