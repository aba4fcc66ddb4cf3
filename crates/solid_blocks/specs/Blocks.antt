-- What the functions of the regions of side 16 and 4 ask: words of a level, a cell of side n in a picture that is
-- ready, and room for the marks of three levels and for the words of those below.
use Rattle.std.specs.Prelude.{◌≡◌, true, false, List, ℕ, ◌≤◌, length}
use Rattle.rules.specs.Values.{Box}
use Rattle.picture.specs.Shapes.{grid_in}
use Rattle.picture.specs.declared.grid.Grid.{Grid}
use Rattle.walk.specs.Cells.{Ready, CellOk, CellBox, region_in}
use Rattle.walk.specs.Draws.{Hidden, Same}
use Rattle.walk.specs.Judges.{IsJudged}
use Rattle.walk.specs.Walks.{Level, MarksFit, ForLook, Looked}
use Rattle.walk.specs.declared.cell.Cell.{Cell}
use Rattle.walk.specs.declared.judge.Judgement.{Judgement}
use Rattle.walk.specs.declared.judge.Outcome.{Outcome}
use Rattle.walk.specs.declared.look.Seen.{Seen}
use Rattle.lane_judge.specs.LaneJudges.{LaneOf}
use Rattle.lane_judge.specs.declared.Lane.{Lane}

pub record ForFours (n : ℕ) (whole ws : List ℕ) (grid : Grid) (c : Cell) (b work l₃ : List ℕ) : Type 0 where
  pub level : Level whole ws
  pub ready : Ready true grid b
  pub cell : CellOk grid.depth grid c
  pub side : c.side ≡ n
  pub room : MarksFit 3 whole work
  pub third : length whole ≤ length l₃

pub record ForSixteens (n : ℕ) (whole ws : List ℕ) (grid : Grid) (c : Cell) (b work l₂ l₃ : List ℕ) : Type 0 where
  pub level : Level whole ws
  pub ready : Ready true grid b
  pub cell : CellOk grid.depth grid c
  pub side : c.side ≡ n
  pub room : MarksFit 3 whole work
  pub second : length whole ≤ length l₂
  pub third : length whole ≤ length l₃

-- What is done with an outcome of the judge, over whatever box of the cell it is, if the cell is not hidden.
pub record Settled (ws : List ℕ) (grid : Grid) (c : Cell) (o : Outcome) (b b' : List ℕ) (v : Seen) : Type 0 where
  pub over : (whole work next : List ℕ) (base : ℕ) (box : Box) (j : Judgement) → CellBox true grid c box
      → Hidden Same (grid_in grid true) (region_in c) b false → IsJudged whole ws box base work next j → j.outcome ≡ o
      → Looked true whole ws grid (region_in c) b b' base work next v

-- A look at a cell that is not hidden, by a lane that has its box.
pub record ForLaneLook (whole ws : List ℕ) (grid : Grid) (c : Cell) (l : Lane) (cs : List (List ℕ)) (b work : List ℕ)
    (base : ℕ) (next : List ℕ) : Type 0 where
  pub look : ForLook true whole ws grid c b work base next
  pub seen : Hidden Same (grid_in grid true) (region_in c) b false
  pub run : LaneOf true ws grid c l cs

-- Such a cell of side 4 and its lane.
pub record ForFour (whole ws : List ℕ) (grid : Grid) (c : Cell) (l : Lane) (cs : List (List ℕ)) (b work l₃ : List ℕ)
    : Type 0 where
  pub four : ForFours 4 whole ws grid c b work l₃
  pub seen : Hidden Same (grid_in grid true) (region_in c) b false
  pub run : LaneOf true ws grid c l cs
