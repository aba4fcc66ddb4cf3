-- The rows of a cell in a solid's picture.
use mathlib.Core.Path.{◌≡◌, sym}
use mathlib.Core.Bool.{Bool, true}
use mathlib.Core.List.{List}
use Prim.Native.Nat.{ℕ, ◌+◌, ◌-◌, ◌*◌, ◌≤◌, ◌<◌}
use native.Mathlib.Nat.{mul-le-mul}
use native.Mathlib.Omega.{arith}
use lib.ListN.{length}
use Rattle.rules.specs.Drawings.{filled, hidden, grid_fault, raise_rows, rows_high}
use Rattle.picture.specs.Shapes.{grid_in}
use Rattle.picture.specs.Heights.{RowsFit}
use Rattle.picture.specs.declared.grid.Grid.{Grid}
use Rattle.picture.proofs.HeightRows.{region_fits}
use Rattle.walk.specs.Cells.{Ready, CellOk, region_in}
use Rattle.walk.specs.Draws.{Fills, Hidden, Same}
use Rattle.walk.specs.declared.cell.Cell.{Cell}
use Rattle.walk.proofs.CellLaws.{small, kind}
use Rattle.walk.proofs.Draws.{hidden_same}
use Rattle.walk.proofs.Filling.{fills_same}

-- A pixel's index.
pub index_most : (y w x h : ℕ) → y < h → x < w → w ≤ 512 → h ≤ 512 → y * w + x < 262144
index_most y w x h a b c d =
    let m : y ≤ 511 = omega arith in
    let k : y * w ≤ 511 * 512 = mul-le-mul m c in
    omega arith

module _ (grid : Grid) (c : Cell) (k : CellOk grid.depth grid c) where
  pub cell_index : grid_fault true (grid_in grid true) ≡ 0 → c.y * grid.width + c.x < 262144
  cell_index e =
      let s = small true grid e in
      let x = k.xs in
      let y = k.ys in
      index_most c.y grid.width c.x grid.height (omega arith) (omega arith) s.width s.height

  pub cell_rows : (b : List ℕ) → Ready true grid b
      → RowsFit (c.yend - c.y) grid.width (c.y * grid.width + c.x) (c.xend - c.x) (length b)
  cell_rows b r =
      let s = small true grid r.fault in
      let x = k.xs in
      let y = k.ys in
      rw r.size
      (region_fits grid.width grid.height c.x c.y c.xend c.yend s.width (omega arith) (omega arith)
      (omega arith) (omega arith))

  -- Rows and columns of a cell are those that the rules speak of.
  pub cell_hidden : grid_fault true (grid_in grid true) ≡ 0 → (b : List ℕ) (v : Bool)
      → v ≡ rows_high (c.yend - c.y) grid.width (c.y * grid.width + c.x) (c.xend - c.x) c.zend b
      → Hidden Same (grid_in grid true) (region_in c) b v
  unfolding hidden
  cell_hidden e b v h =
      hidden_same (grid_in grid true) (region_in c) b v
      (rw (kind true grid e, ← k.xs.least, ← k.ys.least, ← k.zs.least) (sym h))

  pub cell_fills : grid_fault true (grid_in grid true) ≡ 0 → (b b' : List ℕ)
      → b' ≡ raise_rows (c.yend - c.y) grid.width (c.y * grid.width + c.x) (c.xend - c.x) c.zend b
      → Fills Same (grid_in grid true) (region_in c) b b'
  unfolding filled
  cell_fills e b b' h =
      fills_same (grid_in grid true) (region_in c) b
      (rw (kind true grid e, ← k.xs.least, ← k.ys.least, ← k.zs.least) h)
