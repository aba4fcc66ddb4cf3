-- The search goes on where a position does not cover the sample, and leaves with the one that does.
use Prim.Native.Nat.{◌-◌}
use lib.ListN.{length}
use Rattle.fixed.specs.Shapes.{sample_in}
use Rattle.code.specs.Runs.{Lent}
use Rattle.swept_rules.specs.Swept.{offsets_of}
use Rattle.swept_pixels.proofs.SearchLaws.{Searching}
use Rattle.swept_pixels.proofs.search.first_cover.Given as goal

abbrev pub invariant-loop-m : goal.invariant-loop-m
invariant-loop-m l = Searching l.code (sample_in l.s) (offsets_of l.path) l.list l.m × Lent l.slots

abbrev pub decreases-loop-m : goal.decreases-loop-m
decreases-loop-m l = length l.list - l.m
