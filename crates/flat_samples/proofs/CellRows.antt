-- The rows of a cell in a flat picture.
use mathlib.Core.Path.{◌≡◌}
use mathlib.Core.Bool.{false}
use mathlib.Core.List.{List}
use Prim.Native.Nat.{ℕ, ◌+◌, ◌-◌, ◌*◌, ◌%◌, ◌≤◌, ◌<◌}
use Rattle.rules.specs.Drawings.{filled, raise_rows}
use Rattle.picture.specs.Bits.{Shows, Within}
use Rattle.picture.specs.Shapes.{grid_in}
use Rattle.picture.specs.declared.grid.Grid.{Grid}
use Rattle.picture.proofs.BitShows.{rows_in}
use Rattle.walk.specs.Cells.{Ready, CellOk, region_in}
use Rattle.walk.specs.Draws.{Fills}
use Rattle.walk.specs.Walks.{Shown}
use Rattle.walk.specs.declared.cell.Cell.{Cell}
use Rattle.walk.proofs.CellLaws.{ready_small}

pub pixels_in : {grid : Grid} {b : List ℕ} (x xend yend : ℕ) → Ready false grid b → x % 8 ≡ 0 → x < xend
    → xend ≤ grid.width → yend ≤ grid.height → Within grid.width x xend yend b
pixels_in {grid} {b} x xend yend r s h k l =
    record {
      narrow = (ready_small r).width;
      start = s;
      some = h;
      columns = k;
      rows = rows_in grid.width grid.height yend b r.size l;
    }

-- Rows and columns of a cell are those that the rules speak of.
pub cell_fills : (grid : Grid) (c : Cell) → CellOk 1 grid c → {b b' : List ℕ}
    → ((n : ℕ) (h : List ℕ) → Shows grid.width n b h
    → Shows grid.width n b'
    (raise_rows (c.yend - c.y) grid.width (c.y * grid.width + c.x) (c.xend - c.x) 1 h))
    → Fills (Shown false grid) (grid_in grid false) (region_in c) b b'
unfolding filled
cell_fills grid c k f = record { shown = λ h u. rw (k.xs.least, k.ys.least) at (f grid.height h u) }
