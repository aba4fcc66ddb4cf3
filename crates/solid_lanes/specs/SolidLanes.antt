-- The children of a solid's region that are not hidden, run eight at a time.
use Rattle.std.specs.Prelude.{◌≡◌, true, List, ℤ, ℕ, ◌≤◌, ◌<◌, length, get_or}
use Rattle.rules.specs.Accepted.{Accepted}
use Rattle.lanes.specs.Lanes.{lane_count}
use Rattle.code.specs.Words.{tape_in}
use Rattle.picture.specs.declared.grid.Grid.{Grid}
use Rattle.walk.specs.Cells.{Ready}
use Rattle.walk.specs.Children.{children_in}
use Rattle.walk.specs.declared.cell.Cell.{Cell}
use Rattle.child_lanes.specs.ChildLanes.{ForChildren, RanBy}
use Rattle.solid_lanes.specs.declared.Batch.{Batch}

-- What a list of children from number m on, of `end` in all, asks.
pub record ForList (grid : Grid) (parent : Cell) (side m end : ℕ) (b : List ℕ) : Type 0 where
  pub children : ForChildren true grid parent side
  pub ready : Ready true grid b
  pub all : end ≡ length (children_in parent side)
  pub some : m < end
  pub few : end ≤ 4096

-- Child m is in lane 0, and every lane has the number of a child. Which of them follow m is not said: whichever child a
-- lane has, its range serves when that child's turn comes.
pub record ListedFrom (m end : ℕ) (r : List ℕ) : Type 0 where
  pub first : get_or r 0 0 ≡ m
  pub there : (k : ℕ) → k < lane_count → get_or r k 0 < end

-- A lane that has the number m.
pub record Found (ns : List ℕ) (m k : ℕ) : Type 0 where
  pub lane : k < lane_count
  pub own : get_or ns k 0 ≡ m

-- What is asked for child m: the words of an accepted tape, its siblings, a row of choices for each word, and the run of
-- the batch before.
pub record ForBatch (ws : List ℕ) (grid : Grid) (parent : Cell) (side m end : ℕ) (batch : Batch) (b : List ℕ)
    (es : List (List ℤ)) (cs : List (List ℕ)) : Type 0 where
  pub slots : ℕ
  pub accepted : Accepted (tape_in slots ws)
  pub list : ForList grid parent side m end b
  pub room : length ws ≤ length cs
  pub before : RanBy true ws grid parent side batch.numbers es cs batch.result

-- The batch was run, and child m is in its lane.
pub record InBatch (ws : List ℕ) (grid : Grid) (parent : Cell) (side m : ℕ) (es : List (List ℤ)) (cs : List (List ℕ))
    (r : Batch) : Type 0 where
  pub ran : RanBy true ws grid parent side r.numbers es cs r.result
  pub lane : r.lane < lane_count
  pub own : get_or r.numbers r.lane 0 ≡ m
