-- The rows of samples of a region of side 8.
use mathlib.Core.Bool.{false}
use mathlib.Core.List.{[]}
use Prim.Native.Nat.{◌+◌}
use Rattle.picture.specs.Parts.{Apart}
use Rattle.walk.proofs.Loops.{AtRow}
use Rattle.flat_samples.proofs.samples.sample_rows.Given as goal

abbrev pub invariant-loop-y : goal.invariant-loop-y
invariant-loop-y l = AtRow false 1 8 8 l.code l.grid [] l.parent.x l.parent.xend l.parent.y l.parent.yend 0 l.initial.picture l.picture l.count l.y
    × Apart l.grid.width l.parent.x (l.parent.x + 8) l.parent.y l.y l.initial.picture l.picture
