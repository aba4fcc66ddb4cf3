-- One row of regions of side 1, if the region has it.
use mathlib.Core.Bool.{true}
use mathlib.Core.List.{[]}
use Prim.Native.Nat.{◌-◌}
use Rattle.walk.proofs.Loops.{AtColumn}
use Rattle.solid_samples.proofs.settle.settle_row.Given as goal

abbrev pub invariant-loop-x : goal.invariant-loop-x
invariant-loop-x l = AtColumn true 1 4 1 l.code l.grid [] l.parent.x l.parent.xend l.y l.z l.initial.picture l.picture l.count l.x
