-- The hull of the first position, widened by the others.
use mathlib.Core.Path.{◌≡◌}
use lib.ListN.{get_or, drop}
use Rattle.swept_rules.specs.Swept.{offsets_of}
use Rattle.swept_rules.specs.Keeping.{hull_of, hull_from, position_at}
use Rattle.swept_path.specs.Shapes.{hull_in}
use Rattle.swept_path.proofs.moved.hull_over.Given as goal

abbrev pub invariant-loop-k : goal.invariant-loop-k
invariant-loop-k l = hull_from (offsets_of l.path) (hull_of (position_at (offsets_of l.path) (get_or l.list 0 0))) (drop 1 l.list)
    ≡ hull_from (offsets_of l.path) (hull_in l.hull) (drop l.k-index l.k-items)
