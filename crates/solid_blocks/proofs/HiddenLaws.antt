-- A child that is hidden is visited by counting nothing.
use mathlib.Core.Path.{refl, subst}
use mathlib.Core.Bool.{true}
use mathlib.Core.List.{List, ◌∷◌}
use Prim.Native.Nat.{ℕ, ◌+◌, ◌≤◌, ◌<◌}
use native.Mathlib.Nat.{add-zero}
use lib.ListN.{length}
use Rattle.picture.specs.Shapes.{grid_in}
use Rattle.picture.specs.declared.grid.Grid.{Grid}
use Rattle.walk.specs.Cells.{region_in}
use Rattle.walk.specs.Children.{children_in, ChildOf}
use Rattle.walk.specs.Draws.{Hidden, Same}
use Rattle.walk.specs.declared.cell.Cell.{Cell}
use Rattle.walk.proofs.ChildLoop.{AtChild, child_again}
use Rattle.walk.proofs.LookLaws.{done_hidden, done_visits}

pub child_hidden : {n most s : ℕ} {ws : List ℕ} {grid : Grid} {ns : List ℕ} {parent c : Cell} {b₀ b : List ℕ}
    {count m : ℕ} → AtChild true n most ws grid (s ∷ ns) parent b₀ b count m → ChildOf parent n m c
    → m < length (children_in parent n) → 1 ≤ most → Hidden Same (grid_in grid true) (region_in c) b true
    → AtChild true n most ws grid (s ∷ ns) parent b₀ b count (m + 1)
child_hidden {n} {most} {s} {ws} {grid} {ns} {parent} {c} {b₀} {b} {count} {m} u k t l h =
    subst
    (λ d. AtChild true n most ws grid (s ∷ ns) parent b₀ b d (m + 1))
    (add-zero count)
    (child_again u k t (done_visits most s ns refl l (done_hidden true h)) refl)
