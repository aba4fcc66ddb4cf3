-- The positions, one after the other.
use mathlib.Core.Path.{◌≡◌}
use mathlib.Core.Bool.{false}
use lib.ListN.{drop}
use Rattle.picture.specs.Shapes.{grid_in}
use Rattle.swept_rules.specs.Swept.{offsets_of}
use Rattle.swept_rules.specs.Keeping.{path_corners}
use Rattle.swept_path.proofs.path.path_stays.Given as goal

abbrev pub invariant-loop-k : goal.invariant-loop-k
invariant-loop-k l = path_corners (grid_in l.grid false) (offsets_of l.path) ≡ path_corners (grid_in l.grid false) (drop l.k (offsets_of l.path))
