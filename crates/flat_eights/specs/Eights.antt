-- What the functions of the regions of side 8 ask.
use Rattle.std.specs.Prelude.{◌≡◌, false, List, ℕ, ◌+◌, ◌%◌, ◌≤◌, ℤ, length}
use Rattle.sweep.specs.Chunks.{block_rows}
use Rattle.picture.specs.Parts.{Blank}
use Rattle.picture.specs.declared.grid.Grid.{Grid}
use Rattle.rules.specs.Values.{Box}
use Rattle.walk.specs.Cells.{Ready, CellOk, CellBox, region_in}
use Rattle.walk.specs.Judges.{IsJudged}
use Rattle.walk.specs.Walks.{Level, MarksFit, ForLook, Looked}
use Rattle.walk.specs.declared.cell.Cell.{Cell}
use Rattle.walk.specs.declared.judge.Judgement.{Judgement}
use Rattle.walk.specs.declared.judge.Outcome.{Outcome}
use Rattle.walk.specs.declared.look.Seen.{Seen}
use Rattle.lane_judge.specs.LaneJudges.{LaneOf}
use Rattle.lane_judge.specs.declared.Lane.{Lane}

-- Filling a cell whose columns begin at a byte.
pub record ForFill (grid : Grid) (c : Cell) (b : List ℕ) : Type 0 where
  pub ready : Ready false grid b
  pub cell : CellOk 1 grid c
  pub even : c.x % 8 ≡ 0

-- What is done with an outcome of the judge, over whatever box of the cell it is.
pub record Settled (ws : List ℕ) (grid : Grid) (c : Cell) (o : Outcome) (b b' : List ℕ) (v : Seen) : Type 0 where
  pub over : (whole work next : List ℕ) (base : ℕ) (box : Box) (j : Judgement) → CellBox false grid c box
      → IsJudged whole ws box base work next j → j.outcome ≡ o
      → Looked false whole ws grid (region_in c) b b' base work next v

-- A look at such a cell.
pub record ForFlatLook (whole ws : List ℕ) (grid : Grid) (c : Cell) (b work : List ℕ) (base : ℕ) (next : List ℕ)
    : Type 0 where
  pub look : ForLook false whole ws grid c b work base next
  pub even : c.x % 8 ≡ 0

-- The same look by a lane that has the words' range and choices over the cell's box.
pub record ForLaneLook (whole ws : List ℕ) (grid : Grid) (c : Cell) (l : Lane) (cs : List (List ℕ)) (b work : List ℕ)
    (base : ℕ) (next : List ℕ) : Type 0 where
  pub flat : ForFlatLook whole ws grid c b work base next
  pub run : LaneOf false ws grid c l cs

-- A cell of side n whose bytes are 0, to be visited or with children of side 8; a row of choices for each word of the
-- whole tape.
pub record ForEights (n : ℕ) (whole ws : List ℕ) (grid : Grid) (c : Cell) (b work next : List ℕ)
    (lanes : List (List ℤ)) (cs : List (List ℕ)) : Type 0 where
  pub level : Level whole ws
  pub ready : Ready false grid b
  pub cell : CellOk 1 grid c
  pub side : c.side ≡ n
  pub even : c.x % 8 ≡ 0
  pub room : MarksFit 2 whole work
  pub second : length whole ≤ length next
  pub slots : length lanes ≡ block_rows
  pub rows : length whole ≤ length cs
  pub blank : Blank grid.width c.x (c.x + n) c.y (c.y + n) b

-- A cell of side 8 and its lane.
pub record ForEight (whole ws : List ℕ) (grid : Grid) (c : Cell) (l : Lane) (cs : List (List ℕ)) (b work next : List ℕ)
    (lanes : List (List ℤ)) : Type 0 where
  pub eight : ForEights 8 whole ws grid c b work next lanes cs
  pub run : LaneOf false ws grid c l cs
