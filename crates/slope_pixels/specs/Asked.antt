-- What the functions of a block's pixels ask.
use Rattle.std.specs.Prelude.{◌≡◌, List, ℕ, ◌+◌, ◌*◌, ◌≤◌, ◌<◌, ℤ, length}
use Rattle.picture.specs.declared.grid.Grid.{Grid}
use Rattle.slope_runs.specs.Shapes.{Slots, Sized}
use Rattle.walk.specs.Walks.{Sound}
use Rattle.slope_pixels.specs.Shades.{Heights, Fits, BlockIn}
use Rattle.slope_pixels.specs.declared.block.Block.{Block}
use Rattle.slope_pixels.specs.declared.block.Layers.{Layers}
use Rattle.slope_pixels.specs.declared.pixels.Pixel.{Pixel}

-- The heights of row y of a block, and of the block in a window.
pub record ForSeenRow (grid : Grid) (h : List ℕ) (c : Block) (y : ℕ) : Type 0 where
  pub heights : Heights grid h
  pub block : BlockIn grid c
  pub from : c.y ≤ y
  pub to : y < c.yend

pub record ForSeen (grid : Grid) (h : List ℕ) (c : Block) (all : Layers) : Type 0 where
  pub heights : Heights grid h
  pub block : BlockIn grid c
  pub some : all.from ≤ all.end

-- The place of a pixel in a list of slopes of at most 512 by 512 pixels.
pub record PlaceIn (b : List ℤ) (p : ℕ) : Type 0 where
  pub three : 3 * p + 2 < length b
  pub few : p < 262144

-- Slopes of one pixel, of a row and of a block.
pub record ForPixel (code : List ℕ) (grid : Grid) (h : List ℕ) (b : List ℤ) (p : Pixel) (ss : Slots) : Type 0 where
  pub sound : Sound code
  pub fits : Fits grid h b
  pub x_in : p.x < grid.width
  pub y_in : p.y < grid.height
  pub sized : Sized ss

pub record ForRow (code : List ℕ) (grid : Grid) (h : List ℕ) (b : List ℤ) (row : Block) (ss : Slots) : Type 0 where
  pub sound : Sound code
  pub fits : Fits grid h b
  pub block : BlockIn grid row
  pub one : row.yend ≡ row.y + 1
  pub sized : Sized ss

pub record ForRows (code : List ℕ) (grid : Grid) (h : List ℕ) (b : List ℤ) (c : Block) : Type 0 where
  pub sound : Sound code
  pub fits : Fits grid h b
  pub block : BlockIn grid c
