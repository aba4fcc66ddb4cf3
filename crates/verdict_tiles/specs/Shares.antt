-- What a tile, and a list of tiles, makes of a picture and of the table of verdicts: with words, on any number of slots
-- on which they are an accepted tape and the table's entries pass their line.
use Rattle.std.specs.Prelude.{◌≡◌, true, false, List, ℕ, ◌+◌, ◌*◌, ◌/◌, ◌%◌, ◌≤◌, ◌<◌, ℤ, length}
use Rattle.sweep.specs.Chunks.{block_rows}
use Rattle.rules.specs.Drawings.{State, flat_bound}
use Rattle.rules.specs.Accepted.{Accepted}
use Rattle.code.specs.Words.{tape_in}
use Rattle.picture.specs.Parts.{Blank, Apart}
use Rattle.picture.specs.Shapes.{grid_in}
use Rattle.picture.specs.declared.grid.Grid.{Grid}
use Rattle.walk.specs.Draws.{Draws}
use Rattle.walk.specs.Walks.{Shown}
use Rattle.flat_tiles.specs.Rects.{Lent}
use Rattle.plate_tiles.specs.Tiles.{across, ForTile}
use Rattle.table_rules.specs.Tables.{tile_limit, table_length, tile_of, entry_in, verdict_in, marks_in, entry_ok, known}
use Rattle.table_rules.specs.Tables.{Shared, shared, on_tile}

-- Words of an accepted tape on n slots, and a table that passes; on some number of slots.
pub record Passed (n : ℕ) (whole table : List ℕ) : Type 0 where
  pub accepted : Accepted (tape_in n whole)
  pub size : length table ≡ table_length
  pub entries : (i : ℕ) → i < tile_limit → entry_ok (tape_in n whole) (entry_in i table) ≡ true

pub record Passes (whole table : List ℕ) : Type 0 where
  pub slots : ℕ
  pub passed : Passed slots whole table

-- Whatever state the picture b shows, with the table t, b' shows what f makes of it, t' is the table then, and f counts
-- c clauses.
pub record Shares (R : List ℕ → List ℕ → Type 0) (f : Shared → Shared) (t t' b b' : List ℕ) (c : ℕ) : Type 0 where
  pub shown : (s : State) → R b s.heights → R b' (f (shared s t)).drawing.heights
  pub count : (s : State) → R b s.heights → (f (shared s t)).drawing.clauses ≡ s.clauses + c
  pub table : (s : State) → R b s.heights → (f (shared s t)).table ≡ t'

-- The bytes of the tile i are 0; every byte but those is as it was.
abbrev pub TileBlank : Grid → ℕ → List ℕ → Type 0
TileBlank grid i b =
    let x = 64 * (i % across grid) in
    let y = 64 * (i / across grid) in
    Blank grid.width x (x + 64) y (y + 64) b

abbrev pub TileApart : Grid → ℕ → List ℕ → List ℕ → Type 0
TileApart grid i b b' =
    let x = 64 * (i % across grid) in
    let y = 64 * (i / across grid) in
    Apart grid.width x (x + 64) y (y + 64) b b'

-- A tile, with what is lent to draw it, a row of choices for each word, and a table that passes.
pub record ForShared (whole : List ℕ) (grid : Grid) (i : ℕ) (table picture work first second : List ℕ)
    (slots : List (List ℤ)) (choices : List (List ℕ)) : Type 0 where
  pub lent : Lent whole grid picture work first second
  pub tile : ForTile grid i
  pub passes : Passes whole table
  pub blank : TileBlank grid i picture
  pub size : length slots ≡ block_rows
  pub rows : length whole ≤ length choices

-- The same of a tile that is known.
pub record ForKnown (whole : List ℕ) (grid : Grid) (i : ℕ) (table picture work first second : List ℕ)
    (slots : List (List ℤ)) (choices : List (List ℕ)) : Type 0 where
  pub asked : ForShared whole grid i table picture work first second slots choices
  pub known : verdict_in (entry_in i table) ≡ 0 → ⊥

pub record KnownDrawn (whole : List ℕ) (grid : Grid) (i : ℕ) (table b b' : List ℕ) (c : ℕ) : Type 0 where
  pub draws : (n : ℕ) → Passed n whole table
      → let t = tape_in n whole in
      let g = grid_in grid false in
      let e = entry_in i table in
      Draws (Shown false grid) (known (verdict_in e) (marks_in t e) t g (tile_of g i)) b b' c
  pub bound : c ≤ 64 * 65 * length whole

pub record TileShared (whole : List ℕ) (grid : Grid) (i : ℕ) (table table' b b' : List ℕ) (c : ℕ) : Type 0 where
  pub shares : (n : ℕ) → Passed n whole table
      → Shares (Shown false grid) (on_tile (tape_in n whole) (grid_in grid false) i) table table' b b' c
  pub passed : (n : ℕ) → Passed n whole table → Passed n whole table'
  pub bound : c ≤ flat_bound * length whole
