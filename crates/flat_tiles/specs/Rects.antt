-- Rectangles of tiles, and what is asked of a drawing by tiles.
use Rattle.std.specs.Prelude.{◌≡◌, false, List, ℕ, ◌+◌, ◌%◌, ◌≤◌, ℤ, length}
use Rattle.sweep.specs.Chunks.{block_rows}
use Rattle.rules.specs.Drawings.{size_limit, flat_bound}
use Rattle.picture.specs.Parts.{Blank, Apart}
use Rattle.picture.specs.declared.grid.Grid.{Grid}
use Rattle.walk.specs.Cells.{Ready, CellOk, region_in}
use Rattle.walk.specs.Children.{last_end, Parent, Whole}
use Rattle.walk.specs.Walks.{Level, MarksFit, Looked, Visits}
use Rattle.walk.specs.declared.cell.Cell.{Cell}
use Rattle.walk.specs.declared.look.Seen.{Seen}
use Rattle.flat_eights.specs.Sides.{below64}

-- Its first column begins a byte of the picture, and its tiles are cells of the grid: each of its ends is the grid's
-- or lies whole tiles behind its start.
pub record Tiled (grid : Grid) (c : Cell) : Type 0 where
  pub start : c.x % 8 ≡ 0
  pub side : c.side ≡ size_limit
  pub parent : Parent c 64
  pub whole : Whole 1 grid c 64

-- The bytes of its tiles are 0; every byte but those is as it was.
abbrev pub TilesBlank : Grid → Cell → List ℕ → Type 0
TilesBlank grid c b = Blank grid.width c.x (last_end c.x c.xend 64) c.y (last_end c.y c.yend 64) b

abbrev pub TilesApart : Grid → Cell → List ℕ → List ℕ → Type 0
TilesApart grid c b b' =
    Apart grid.width c.x (last_end c.x c.xend 64) c.y (last_end c.y c.yend 64) b b'

-- The words of the whole tape, a picture of the grid's size, and room for the marks and the words of two levels.
pub record Lent (whole : List ℕ) (grid : Grid) (picture work first second : List ℕ) : Type 0 where
  pub level : Level whole whole
  pub ready : Ready false grid picture
  pub marks : MarksFit 2 whole work
  pub words_first : length whole ≤ length first
  pub words_second : length whole ≤ length second

-- One tile, and the tiles of a rectangle; with a row of choices for each word.
pub record ForTile (whole : List ℕ) (grid : Grid) (cell : Cell) (picture work first second : List ℕ)
    (slots : List (List ℤ)) (choices : List (List ℕ)) : Type 0 where
  pub lent : Lent whole grid picture work first second
  pub ok : CellOk 1 grid cell
  pub side : cell.side ≡ 64
  pub start : cell.x % 8 ≡ 0
  pub size : length slots ≡ block_rows
  pub rows : length whole ≤ length choices
  pub blank : Blank grid.width cell.x (cell.x + 64) cell.y (cell.y + 64) picture

pub record ForRect (whole : List ℕ) (grid : Grid) (parent : Cell) (picture work first second : List ℕ) : Type 0 where
  pub lent : Lent whole grid picture work first second
  pub tiled : Tiled grid parent
  pub blank : TilesBlank grid parent picture

pub record ForTiles (whole : List ℕ) (grid : Grid) (parent : Cell) (picture work first second : List ℕ)
    (slots : List (List ℤ)) (choices own : List (List ℕ)) : Type 0 where
  pub rect : ForRect whole grid parent picture work first second
  pub size : length slots ≡ block_rows
  pub rows : length whole ≤ length choices
  pub rows_own : length whole ≤ length own

-- A tile after a look at it: `before` is the picture that was looked at.
pub record ForSettle (whole : List ℕ) (grid : Grid) (cell : Cell) (seen : Seen) (picture work first second : List ℕ)
    (slots : List (List ℤ)) (choices : List (List ℕ)) : Type 0 where
  pub before : List ℕ
  pub tile : ForTile whole grid cell before work first second slots choices
  pub looked : Looked false whole whole grid (region_in cell) before picture (length whole) work first seen

-- Whatever picture was looked at: what has become of it is the tile's visit.
pub record TileSettled (whole : List ℕ) (grid : Grid) (cell : Cell) (seen : Seen) (work first b b' : List ℕ) (c : ℕ)
    : Type 0 where
  pub over : (before : List ℕ)
      → Looked false whole whole grid (region_in cell) before b (length whole) work first seen
      → Visits false flat_bound whole grid below64 (region_in cell) before b' c
