-- What the functions of a region's rows of samples ask.
use Rattle.std.specs.Prelude.{◌≡◌, false, List, ℤ, length, ℕ, ◌+◌, ◌-◌, ◌%◌, ◌<◌}
use Rattle.rules.specs.Drawings.{grid_fault}
use Rattle.rules.specs.Accepted.{Accepted}
use Rattle.code.specs.Words.{tape_in}
use Rattle.sweep.specs.Chunks.{block_rows}
use Rattle.picture.specs.Parts.{Blank}
use Rattle.picture.specs.Shapes.{grid_in}
use Rattle.picture.specs.declared.grid.Grid.{Grid}
use Rattle.walk.specs.Cells.{Ready, CellOk}
use Rattle.walk.specs.Walks.{Sound}
use Rattle.walk.specs.declared.cell.Cell.{Cell}
use Rattle.flat_samples.specs.Rows.{materials, SignsAre}

-- The values of a region of side 8.
pub record ForRun (code : List ℕ) (grid : Grid) (parent : Cell) (slots : List (List ℤ)) : Type 0 where
  pub sound : Sound code
  pub fault : grid_fault false (grid_in grid false) ≡ 0
  pub ok : CellOk 1 grid parent
  pub side : parent.side ≡ 8
  pub size : length slots ≡ block_rows

-- Its row y, whose values are at hand, stored, whatever its byte held.
pub record ForRow (code : List ℕ) (grid : Grid) (parent : Cell) (values : List ℤ) (y : ℕ) (picture : List ℕ)
    : Type 0 where
  pub sound : Sound code
  pub ready : Ready false grid picture
  pub ok : CellOk 1 grid parent
  pub side : parent.side ≡ 8
  pub start : parent.x % 8 ≡ 0
  pub row : y < parent.yend
  pub signs : (n : ℕ) → Accepted (tape_in n code)
      → SignsAre (parent.xend - parent.x) values
      (materials (parent.xend - parent.x) (tape_in n code) (grid_in grid false) parent.x y)

-- All its rows.
pub record ForRows (code : List ℕ) (grid : Grid) (parent : Cell) (slots : List (List ℤ)) (picture : List ℕ)
    : Type 0 where
  pub sound : Sound code
  pub ready : Ready false grid picture
  pub ok : CellOk 1 grid parent
  pub side : parent.side ≡ 8
  pub start : parent.x % 8 ≡ 0
  pub size : length slots ≡ block_rows
  pub blank : Blank grid.width parent.x (parent.x + 8) parent.y (parent.y + 8) picture
