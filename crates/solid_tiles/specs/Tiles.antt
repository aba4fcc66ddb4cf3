-- What the tiles of a solid ask: the whole tape's words, a picture that is ready, and room for the marks and words of
-- three levels.
use Rattle.std.specs.Prelude.{◌≡◌, true, List, ℕ, ◌≤◌, length}
use Rattle.picture.specs.declared.grid.Grid.{Grid}
use Rattle.walk.specs.Cells.{Ready, CellOk}
use Rattle.walk.specs.Walks.{Level, MarksFit}
use Rattle.walk.specs.declared.cell.Cell.{Cell}

pub record ForSolid (whole : List ℕ) (grid : Grid) (b work l₁ l₂ l₃ : List ℕ) : Type 0 where
  pub level : Level whole whole
  pub ready : Ready true grid b
  pub room : MarksFit 3 whole work
  pub first : length whole ≤ length l₁
  pub second : length whole ≤ length l₂
  pub third : length whole ≤ length l₃

-- At a cell of side n, with a row of choices for each word, twice.
pub record ForTiles (n : ℕ) (whole : List ℕ) (grid : Grid) (c : Cell) (b work l₁ l₂ l₃ : List ℕ)
    (cs ds : List (List ℕ)) : Type 0 where
  pub tile : ForSolid whole grid b work l₁ l₂ l₃
  pub cell : CellOk grid.depth grid c
  pub side : c.side ≡ n
  pub rows : length whole ≤ length cs
  pub rows_below : length whole ≤ length ds
