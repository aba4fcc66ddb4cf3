-- The whole drawing: all tiles, from heights of 0.
use mathlib.Core.Path.{◌≡◌, sym, ap, ◌∙◌}
use mathlib.Core.Bool.{true}
use mathlib.Core.List.{List}
use Prim.Native.Nat.{ℕ, ◌*◌}
use native.Mathlib.Omega.{arith}
use lib.ListN.{replicate}
use Rattle.rules.specs.Drawings.{Region, children, whole, grid_fault}
use Rattle.rules.specs.Pictures.{picture}
use Rattle.picture.specs.Shapes.{grid_in}
use Rattle.picture.specs.declared.grid.Grid.{Grid}
use Rattle.walk.specs.Cells.{CellOf}
use Rattle.walk.specs.Walks.{Folds, Walked}
use Rattle.walk.specs.declared.cell.Cell.{Cell}
use Rattle.walk.specs.Children.{children_in}
use Rattle.walk.proofs.ChildLaws.{children_in_lem}
use Rattle.walk.proofs.WalkLaws.{walk_shown}
use Rattle.solid_blocks.specs.Sides.{below64}

-- The tiles of the grid are the children of the cell that is all of it.
pub tiles_in_lem : {grid : Grid} {cell : Cell} → CellOf grid.depth grid whole cell
    → grid_fault true (grid_in grid true) ≡ 0 → children (grid_in grid true) whole 64 ≡ children_in cell 64
tiles_in_lem {grid} {cell} k e =
    ap (λ r. children (grid_in grid true) r 64) (sym k.same)
    ∙ children_in_lem true grid cell 64 8 (omega arith) (omega arith) (ap (λ (q : Region). q.long) k.same) e k.ok

module _ {ws : List ℕ} {grid : Grid} {cell : Cell} (k : CellOf grid.depth grid whole cell)
    (e : grid_fault true (grid_in grid true) ≡ 0) {most c : ℕ} {b b' : List ℕ}
    (f : Folds true most ws grid below64 (children_in cell 64) b b' c)
    (h : b ≡ replicate (grid.width * grid.height) 0) where
  pub folds_walked : Walked true ws grid b' c
  unfolding picture
  folds_walked =
      record {
        pixels = λ m a. (walk_shown true e (tiles_in_lem k e) f (record { same = h }) m a).0.same;
        count = λ m a. sym (walk_shown true e (tiles_in_lem k e) f (record { same = h }) m a).1;
      }
