-- Position by position: dropped, kept, or the last that is looked at.
use mathlib.Core.Path.{◌≡◌}
use lib.ListN.{length}
use Rattle.fixed.specs.Shapes.{box_in}
use Rattle.swept_rules.specs.Swept.{offsets_of}
use Rattle.swept_path.proofs.KeepLaws.{KeepingAt}
use Rattle.swept_path.proofs.keep.keep.Given as goal

abbrev pub invariant-loop-k : goal.invariant-loop-k
invariant-loop-k l = KeepingAt l.code (box_in l.bounds) (offsets_of l.path) l.from l.kept l.count l.k-index
    × (length l.kept ≡ length l.initial.kept)
    × (length l.work ≡ length l.initial.work)
