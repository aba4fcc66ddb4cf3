-- The boxes of eight children of a region, flat or solid, one a lane, and their run.
use Rattle.std.specs.Prelude.{◌≡◌, Bool, false, List, ℤ, ℕ, ◌+◌, ◌-◌, ◌%◌, ◌≤◌, ◌<◌, length, get_or}
use Rattle.rules.specs.Values.{Box}
use Rattle.rules.specs.Drawings.{region, lesser, box_of, grid_fault}
use Rattle.lanes.specs.Lanes.{lane_count}
use Rattle.rules.specs.Tapes.{slot_limit}
use Rattle.rules.specs.Accepted.{Accepted}
use Rattle.code.specs.Words.{tape_in}
use Rattle.code.specs.Runs.{BoxOk, column, Bounded}
use Rattle.range_sweep.specs.Boxes.{box_at, slot_range, LentEnds}
use Rattle.picture.specs.Shapes.{grid_in}
use Rattle.picture.specs.declared.grid.Grid.{Grid}
use Rattle.walk.specs.Cells.{layers_in}
use Rattle.walk.specs.Children.{Parent, Whole, children_in}
use Rattle.walk.specs.declared.cell.Cell.{Cell}

-- The box of the child of a number.
unfoldable pub box_numbered : Bool → Grid → Cell → ℕ → ℕ → Box
box_numbered isSolid grid parent side n =
    box_of (grid_in grid isSolid) (get_or (children_in parent side) n (region 0 0 0 0))

-- A region whose children of the side are cells of a grid that no line refuses.
pub record ForChildren (isSolid : Bool) (grid : Grid) (parent : Cell) (side : ℕ) : Type 0 where
  pub fault : grid_fault isSolid (grid_in grid isSolid) ≡ 0
  pub cells : Whole (layers_in isSolid grid) grid parent side
  pub children : Parent parent side

pub record ForChildBox (isSolid : Bool) (grid : Grid) (parent : Cell) (side n : ℕ) : Type 0 where
  pub children : ForChildren isSolid grid parent side
  pub there : n < length (children_in parent side)

-- The box of child number n, with ends that are values.
pub record ChildBox (isSolid : Bool) (grid : Grid) (parent : Cell) (side n : ℕ) (b : Box) : Type 0 where
  pub same : b ≡ box_numbered isSolid grid parent side n
  pub ok : BoxOk b

-- Each lane has the number of a child.
pub record ForBoxes (isSolid : Bool) (grid : Grid) (parent : Cell) (side : ℕ) (ns : List ℕ) : Type 0 where
  pub children : ForChildren isSolid grid parent side
  pub there : (k : ℕ) → k < lane_count → get_or ns k 0 < length (children_in parent side)

pub record ChildBoxes (isSolid : Bool) (grid : Grid) (parent : Cell) (side : ℕ) (ns : List ℕ) (bs : List (List ℤ))
    : Type 0 where
  pub at : (k : ℕ) → k < lane_count → ChildBox isSolid grid parent side (get_or ns k 0) (box_at bs k)

-- Children by their numbers, one a lane: a lane that has the number of a child has the range over that child's box in
-- slot r, and its choices are those of a run over it.
pub record RanBy (isSolid : Bool) (ws : List ℕ) (grid : Grid) (parent : Cell) (side : ℕ) (ns : List ℕ)
    (es : List (List ℤ)) (cs : List (List ℕ)) (r : ℕ) : Type 0 where
  pub lent : LentEnds es
  pub within : r < slot_limit
  pub lanes : (k : ℕ) → k < lane_count → get_or ns k 0 < length (children_in parent side)
      → Bounded ws (box_numbered isSolid grid parent side (get_or ns k 0)) (column k cs) (column k cs) (slot_range es r k)

-- What is asked: the words of an accepted tape, a child for each lane, the rows and the choices.
pub record ForRunBy (isSolid : Bool) (ws : List ℕ) (grid : Grid) (parent : Cell) (side : ℕ) (ns : List ℕ)
    (es : List (List ℤ)) (cs : List (List ℕ)) : Type 0 where
  pub slots : ℕ
  pub accepted : Accepted (tape_in slots ws)
  pub boxes : ForBoxes isSolid grid parent side ns
  pub lent : LentEnds es
  pub room : length ws ≤ length cs

-- The numbers from m on, and that of the last child where there are no more.
pub record ForFollowing (m end : ℕ) : Type 0 where
  pub some : m < end
  pub few : end ≤ 4096

pub record Following (m end : ℕ) (ns : List ℕ) : Type 0 where
  pub at : (k : ℕ) → k < lane_count → get_or ns k 0 ≡ lesser (m + k) (end - 1)

-- The eight children of a flat region that child m is of were run: in each lane slot r has the range over that child's
-- box, and the lane's choices are those of a run over it.
pub record Ran (ws : List ℕ) (grid : Grid) (parent : Cell) (side m : ℕ) (es : List (List ℤ)) (cs : List (List ℕ))
    (r : ℕ) : Type 0 where
  pub lent : LentEnds es
  pub within : r < slot_limit
  pub lanes : (k : ℕ) → k < lane_count → m - m % 8 + k < length (children_in parent side)
      → Bounded ws (box_numbered false grid parent side (m - m % 8 + k)) (column k cs) (column k cs) (slot_range es r k)

-- What is asked: the words of an accepted tape, one of the children to begin with, the rows and the choices, and that
-- the run was made if child m is not the first of its eight.
pub record ForRun (ws : List ℕ) (grid : Grid) (parent : Cell) (side m end last : ℕ) (es : List (List ℤ))
    (cs : List (List ℕ)) : Type 0 where
  pub slots : ℕ
  pub accepted : Accepted (tape_in slots ws)
  pub children : ForChildren false grid parent side
  pub all : end ≡ length (children_in parent side)
  pub some : m < end
  pub few : end ≤ 4096
  pub lent : LentEnds es
  pub room : length ws ≤ length cs
  pub before : (m % 8 ≡ 0 → ⊥) → Ran ws grid parent side m es cs last
