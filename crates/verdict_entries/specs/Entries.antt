-- What is asked and said of a tile's entry: judged and written, met, and read as words. With words, on any number of
-- slots on which they are an accepted tape.
use Rattle.std.specs.Prelude.{◌≡◌, false, List, ◌++◌, ℕ, ◌+◌, ◌≤◌, eqb, length, take, drop}
use Rattle.rules.specs.Values.{pick}
use Rattle.rules.specs.Tapes.{Tape, clause_limit}
use Rattle.rules.specs.Accepted.{Accepted}
use Rattle.rules.specs.Marks.{mark_bytes}
use Rattle.rules.specs.Drawings as D
use Rattle.code.specs.Words.{tape_in}
use Rattle.shortening.specs.Kept.{KeptAs, mark_room}
use Rattle.picture.specs.Shapes.{grid_in}
use Rattle.picture.specs.declared.grid.Grid.{Grid}
use Rattle.walk.specs.Cells.{ForBox}
use Rattle.walk.specs.Walks.{Level, MarksFit}
use Rattle.walk.specs.declared.cell.Cell.{Cell}
use Rattle.plate_tiles.specs.Tiles.{ForTile}
use Rattle.table_rules.specs.Tables.{entry_length, table_length, tile_of, entry_in, verdict_in, marks_from, verdict_of}
use Rattle.table_rules.specs.Tables.{tile_marks, entry_of, put_entry}

-- The bytes b with those of an entry from the place a on; and the entry that stands there.
abbrev pub over : ℕ → List ℕ → List ℕ → List ℕ
over a e b = take a b ++ (e ++ drop (a + entry_length) b)

abbrev pub entry_from : ℕ → List ℕ → List ℕ
entry_from a b = take entry_length (drop a b)

-- Words of the tape as given, a cell, and room for the marks and the words of its short tape.
pub record ForVerdict (whole : List ℕ) (grid : Grid) (c : Cell) (work next : List ℕ) : Type 0 where
  pub level : Level whole whole
  pub cell : ForBox false grid c
  pub room : MarksFit 1 whole work
  pub words : length whole ≤ length next

-- The true verdict on the region r; if it is 3, the bytes of the tile's marks stand behind the choices.
pub record VerdictOn (whole : List ℕ) (grid : Grid) (r : D.Region) (work : List ℕ) (v : ℕ) : Type 0 where
  pub verdict : (n : ℕ) → Accepted (tape_in n whole) → v ≡ verdict_of (tape_in n whole) (grid_in grid false) r
  pub marks : v ≡ 3 → (n : ℕ) → Accepted (tape_in n whole)
      → take (mark_room (length whole)) (drop (length whole) work)
      ≡ mark_bytes (tile_marks (tape_in n whole) (grid_in grid false) r)

-- The same of the tile of a number, with a table.
pub record ForEntry (whole : List ℕ) (grid : Grid) (i : ℕ) (table work next : List ℕ) : Type 0 where
  pub level : Level whole whole
  pub tile : ForTile grid i
  pub size : length table ≡ table_length
  pub room : MarksFit 1 whole work
  pub words : length whole ≤ length next

-- The table once tile i is met.
abbrev pub met_table : Tape → D.Grid → ℕ → List ℕ → List ℕ
met_table t g i b = pick (eqb (verdict_in (entry_in i b)) 0) (put_entry i (entry_of t g (tile_of g i)) b) b

pub record Met (whole : List ℕ) (grid : Grid) (i : ℕ) (b b' : List ℕ) (c : ℕ) : Type 0 where
  pub table : (n : ℕ) → Accepted (tape_in n whole) → b' ≡ met_table (tape_in n whole) (grid_in grid false) i b
  pub count : c ≡ pick (eqb (verdict_in (entry_in i b)) 0) (length whole) 0

-- An entry at the place a, and room for the marks of n clauses.
pub record ForLift (table : List ℕ) (a n : ℕ) (work : List ℕ) (base : ℕ) : Type 0 where
  pub few : n ≤ clause_limit
  pub entry : a + entry_length ≤ length table
  pub room : base + mark_room n ≤ length work

pub record ForKept (whole table : List ℕ) (a : ℕ) (work next : List ℕ) : Type 0 where
  pub level : Level whole whole
  pub entry : a + entry_length ≤ length table
  pub room : MarksFit 1 whole work
  pub words : length whole ≤ length next

-- From start on stand the words that the entry's marks keep.
pub record KeptFrom (whole entry next : List ℕ) (start : ℕ) : Type 0 where
  pub within : start ≤ length next
  pub kept : KeptAs whole (drop start next) (marks_from entry 0 (length whole))
