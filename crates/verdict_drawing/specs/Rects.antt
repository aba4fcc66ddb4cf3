-- The tiles of a rectangle, one after another.
use Rattle.std.specs.Prelude.{◌≡◌, true, false, List, ℕ, ◌*◌, ◌≤◌, ◌<◌, ℤ, length, replicate}
use Rattle.sweep.specs.Chunks.{block_rows}
use Rattle.rules.specs.Drawings.{grid_fault}
use Rattle.rules.specs.Pictures.{picture}
use Rattle.code.specs.Words.{tape_in}
use Rattle.picture.specs.Shapes.{grid_in}
use Rattle.picture.specs.declared.grid.Grid.{Grid}
use Rattle.walk.specs.Cells.{size_in}
use Rattle.walk.specs.Walks.{Shown}
use Rattle.flat_tiles.specs.Rects.{Lent}
use Rattle.rectangle.specs.Rectangles.{rectangle_in}
use Rattle.rectangle.specs.declared.Rectangle.{Rectangle}
use Rattle.table_rules.specs.Tables.{Shared, rectangle_ok, tiles_in, on_tiles, turn, laid}
use Rattle.verdict_tiles.specs.Shares.{Passed, Passes, Shares}

-- As many bytes as any flat picture has.
abbrev pub picture_limit : ℕ
picture_limit = 32768

-- A rectangle that the grid has, and one of its tiles.
pub record InGrid (grid : Grid) (q : Rectangle) : Type 0 where
  pub fault : grid_fault false (grid_in grid false) ≡ 0
  pub ok : rectangle_ok (grid_in grid false) (rectangle_in q) ≡ true

pub record ForNumber (grid : Grid) (q : Rectangle) (k : ℕ) : Type 0 where
  pub rectangle : InGrid grid q
  pub more : k < q.rows * q.columns

-- A blank picture and a table that passes.
pub record ForRect (whole : List ℕ) (grid : Grid) (q : Rectangle) (table b work first second : List ℕ) : Type 0
  where
    pub lent : Lent whole grid b work first second
    pub rectangle : rectangle_ok (grid_in grid false) (rectangle_in q) ≡ true
    pub passes : Passes whole table
    pub clean : b ≡ replicate (size_in false grid) 0

pub record ForTiles (whole : List ℕ) (grid : Grid) (q : Rectangle) (table b work first second : List ℕ)
    (slots : List (List ℤ)) (choices : List (List ℕ)) : Type 0 where
  pub rect : ForRect whole grid q table b work first second
  pub size : length slots ≡ block_rows
  pub rows : length whole ≤ length choices

pub record TilesShared (whole : List ℕ) (grid : Grid) (q : Rectangle) (table table' b b' : List ℕ) (c : ℕ) : Type 0 where
  pub shares : (n : ℕ) → Passed n whole table
      → Shares (Shown false grid) (on_tiles (tape_in n whole) (grid_in grid false) (tiles_in (grid_in grid false) (rectangle_in q)))
      table table' b b' c

-- The turn on a blank picture, whatever the picture held; and laid over another.
pub record ForTurn (whole : List ℕ) (grid : Grid) (q : Rectangle) (table b work first second : List ℕ) : Type 0
  where
    pub lent : Lent whole grid b work first second
    pub rectangle : rectangle_ok (grid_in grid false) (rectangle_in q) ≡ true
    pub passes : Passes whole table

abbrev pub turn_of : ℕ → List ℕ → Grid → Rectangle → List ℕ → Shared
turn_of n whole grid q table = turn (tape_in n whole) (grid_in grid false) (rectangle_in q) table

pub record TurnDrawn (whole : List ℕ) (grid : Grid) (q : Rectangle) (table table' b : List ℕ) (c : ℕ) : Type 0 where
  pub table_then : (n : ℕ) → Passed n whole table → table' ≡ (turn_of n whole grid q table).table
  pub pixels : (n : ℕ) → Passed n whole table
      → b ≡ picture false (grid_in grid false) (turn_of n whole grid q table).drawing.heights
  pub count : (n : ℕ) → Passed n whole table → c ≡ (turn_of n whole grid q table).drawing.clauses

pub record LaidOver (whole : List ℕ) (grid : Grid) (q : Rectangle) (table table' o o' : List ℕ) (c : ℕ) : Type 0 where
  pub table_then : (n : ℕ) → Passed n whole table → table' ≡ (turn_of n whole grid q table).table
  pub pixels : (n : ℕ) → Passed n whole table
      → o' ≡ laid (grid_in grid false) (rectangle_in q)
      (picture false (grid_in grid false) (turn_of n whole grid q table).drawing.heights) o
  pub count : (n : ℕ) → Passed n whole table → c ≡ (turn_of n whole grid q table).drawing.clauses
