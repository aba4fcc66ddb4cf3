-- What shading some pixels promises: theirs become right, and those that were right stay so.
use Rattle.std.specs.Prelude.{◌≡◌, true, List, ℕ, suc, ◌+◌, ◌*◌, ◌≤◌, ◌<◌, ℤ, length, get_or, set}
use Rattle.rules.specs.Tapes.{Tape}
use Rattle.rules.specs.Drawings.{sample_at, grid_fault}
use Rattle.rules.specs.Accepted.{Accepted}
use Rattle.rules.specs.Slopes.{slopes_at, three_at, pixel_slopes}
use Rattle.code.specs.Words.{tape_in}
use Rattle.picture.specs.Shapes.{grid_in}
use Rattle.picture.specs.declared.grid.Grid.{Grid}
use Rattle.walk.specs.declared.cell.Cell.{Cell}
use Rattle.slope_pixels.specs.declared.block.Block.{Block}
use Rattle.slope_pixels.specs.declared.block.Layers.{Layers}

-- Three numbers at the place of the pixel p.
abbrev pub put_at : List ℤ → ℕ → ℤ → ℤ → ℤ → List ℤ
put_at b p x y z = set (set (set b (3 * p) x) (3 * p + 1) y) (3 * p + 2) z

-- A grid that no line refuses, and heights of a solid on it.
pub record Heights (grid : Grid) (h : List ℕ) : Type 0 where
  pub fault : grid_fault true (grid_in grid true) ≡ 0
  pub size : length h ≡ grid.width * grid.height
  pub most : (p : ℕ) → get_or h p 0 ≤ grid.depth

-- The same, with a list that has three numbers a pixel.
pub record Fits (grid : Grid) (h : List ℕ) (b : List ℤ) : Type 0 where
  pub heights : Heights grid h
  pub slopes : length b ≡ 3 * (grid.width * grid.height)

abbrev pub block_at : ℕ → ℕ → ℕ → ℕ → Block
block_at x xend y yend = record { x = x; xend = xend; y = y; yend = yend }

-- The pixels of a region.
abbrev pub block_of : Cell → Block
block_of p = block_at p.x p.xend p.y p.yend

abbrev pub pixel_at : ℕ → ℕ → Block
pixel_at x y = block_at x (x + 1) y (y + 1)

abbrev pub row_of : Block → ℕ → Block
row_of c y = block_at c.x c.xend y (y + 1)

-- A block of the grid, with pixels; and a pixel of it.
pub record BlockIn (grid : Grid) (c : Block) : Type 0 where
  pub x_some : c.x < c.xend
  pub x_in : c.xend ≤ grid.width
  pub y_some : c.y < c.yend
  pub y_in : c.yend ≤ grid.height

pub record Within (c : Block) (i j : ℕ) : Type 0 where
  pub x_from : c.x ≤ i
  pub x_to : i < c.xend
  pub y_from : c.y ≤ j
  pub y_to : j < c.yend

-- The list has the slopes of the tape t at the visible sample of the pixel (i, j), or three zeros.
pub record Right (t : Tape) (grid : Grid) (h : List ℕ) (b : List ℤ) (i j : ℕ) : Type 0 where
  pub three : three_at b (j * grid.width + i)
      ≡ pixel_slopes t (grid_in grid true) i j (get_or h (j * grid.width + i) 0)

-- The height of the pixel (i, j) lies in the window l; and the window of all heights but 0.
pub record Seen (grid : Grid) (h : List ℕ) (l : Layers) (i j : ℕ) : Type 0 where
  pub above : l.from < get_or h (j * grid.width + i) 0
  pub most : get_or h (j * grid.width + i) 0 ≤ l.end

abbrev pub layers_at : ℕ → ℕ → Layers
layers_at from end = record { from = from; end = end }

abbrev pub all_of : Grid → Layers
all_of grid = layers_at 0 grid.depth

-- Every pixel that was right is so, and each pixel of the block c with its height in the window l is.
pub record Shades (t : Tape) (grid : Grid) (h : List ℕ) (l : Layers) (c : Block) (b b' : List ℤ) : Type 0 where
  pub kept : (i j : ℕ) → i < grid.width → j < grid.height → Right t grid h b i j → Right t grid h b' i j
  pub done : (i j : ℕ) → Within c i j → Seen grid h l i j → Right t grid h b' i j

-- The words ws are an accepted tape, and have the slopes of the tape t at the visible samples of the block c in the
-- window l.
pub record Alike (t : Tape) (ws : List ℕ) (grid : Grid) (h : List ℕ) (l : Layers) (c : Block) : Type 0 where
  pub slots : ℕ
  pub accepted : Accepted (tape_in slots ws)
  pub same : (i j k : ℕ) → Within c i j → Seen grid h l i j → get_or h (j * grid.width + i) 0 ≡ suc k
      → slopes_at (tape_in slots ws) (sample_at (grid_in grid true) i j k) ≡ slopes_at t (sample_at (grid_in grid true) i j k)

-- The part d of the block c is shaded in the window with the words, for whatever tape they stand for in the block.
pub record Shading (ws : List ℕ) (grid : Grid) (h : List ℕ) (l : Layers) (c d : Block) (b b' : List ℤ) : Type 0 where
  pub shades : (t : Tape) → Alike t ws grid h l c → Shades t grid h l d b b'

-- The window r has the window before, and lies in the window all if that does.
pub record Wider (all before r : Layers) : Type 0 where
  pub low : r.from ≤ before.from
  pub high : before.end ≤ r.end
  pub from : all.from ≤ before.from → all.from ≤ r.from
  pub end : before.end ≤ all.end → r.end ≤ all.end

-- Besides, it has the height v, if that lies in all; and those heights of the block c that do.
pub record Joined (v : ℕ) (all before r : Layers) : Type 0 where
  pub wider : Wider all before r
  pub has : all.from < v → v ≤ all.end → (r.from < v) × (v ≤ r.end)

pub record Spans (grid : Grid) (h : List ℕ) (c : Block) (all before r : Layers) : Type 0 where
  pub wider : Wider all before r
  pub has : (i j : ℕ) → Within c i j → Seen grid h all i j → Seen grid h r i j

-- A window in all that has every height of the block c that all has. That it is the least is not promised: a wider one
-- would be as right, and only take longer.
pub record Tight (grid : Grid) (h : List ℕ) (c : Block) (all r : Layers) : Type 0 where
  pub from : all.from ≤ r.from
  pub most : r.from ≤ all.end
  pub end : r.end ≤ all.end
  pub has : (i j : ℕ) → Within c i j → Seen grid h all i j → Seen grid h r i j
