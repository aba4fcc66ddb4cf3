-- A region that is cut, and its children visited by their numbers.
use mathlib.Core.Path.{◌≡◌, refl}
use mathlib.Core.Bool.{Bool}
use mathlib.Core.List.{List, ◌∷◌}
use Prim.Native.Nat.{ℕ, suc, ◌+◌, ◌-◌, ◌*◌, ◌≤◌}
use lib.ListN.{length, take, drop}
use Rattle.rules.specs.Drawings.{grid_fault}
use Rattle.picture.specs.Shapes.{grid_in}
use Rattle.picture.specs.declared.grid.Grid.{Grid}
use Rattle.walk.specs.Cells.{layers_in, CellOk, region_in}
use Rattle.walk.specs.Walks.{Sound, Visits, Folds, Opened}
use Rattle.walk.specs.declared.cell.Cell.{Cell}
use Rattle.walk.proofs.LookLaws.{open_visits}
use Rattle.walk.specs.Children.{children_in}
use Rattle.walk.proofs.ChildLaws.{children_in_lem}

pub open_children : {isSolid : Bool} {whole ws : List ℕ} {grid : Grid} {cell : Cell} {b b₁ work next : List ℕ}
    {base start : ℕ} (n l : ℕ) → Sound ws → 1 ≤ n → 1 ≤ l → cell.side ≡ l * n
    → grid_fault isSolid (grid_in grid isSolid) ≡ 0
    → CellOk (layers_in isSolid grid) grid cell
    → Opened isSolid whole ws grid (region_in cell) b b₁ base work next start
    → (ns : List ℕ) (k : ℕ) {c : ℕ} {b' : List ℕ}
    → Folds isSolid k (take (length next - start) (drop start next)) grid ns (children_in cell n) b₁ b' c
    → Visits isSolid (suc k) ws grid (n ∷ ns) (region_in cell) b b' (length ws + c)
open_children {isSolid} {grid = grid} {cell = cell} n l s some some_part parts e d o ns k f =
    open_visits s o n ns k refl (children_in_lem isSolid grid cell n l some some_part parts e d) f
