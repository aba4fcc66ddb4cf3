-- What a block's short tape promises, and the shading of a whole picture.
use Rattle.std.specs.Prelude.{◌≡◌, true, List, ℕ, ◌≤◌, ◌<◌, ℤ, length, drop}
use Rattle.rules.specs.Values.{Box}
use Rattle.rules.specs.Drawings.{sample_at, grid_fault}
use Rattle.rules.specs.Accepted.{Accepted}
use Rattle.rules.specs.Slopes.{slopes_at, slopes_of}
use Rattle.code.specs.Words.{tape_in}
use Rattle.code.specs.Runs.{BoxOk}
use Rattle.shortening.specs.Kept.{Kept, MarksAt}
use Rattle.picture.specs.Shapes.{grid_in}
use Rattle.picture.specs.declared.grid.Grid.{Grid}
use Rattle.walk.specs.Cells.{span_of}
use Rattle.walk.specs.Walks.{Level}
use Rattle.slope_pixels.specs.declared.block.Block.{Block}
use Rattle.slope_pixels.specs.declared.block.Layers.{Layers}
use Rattle.slope_pixels.specs.Shades.{BlockIn, Within}

-- Layers of the grid, and the box of a block's samples in them.
pub record LayersIn (grid : Grid) (l : Layers) : Type 0 where
  pub some : l.from < l.end
  pub in_grid : l.end ≤ grid.depth

abbrev pub box_at : Grid → Block → Layers → Box
box_at grid c l =
    record {
      xs = span_of grid.xorigin grid.xstep c.x c.xend;
      ys = span_of grid.yorigin grid.ystep c.y c.yend;
      zs = span_of grid.zorigin grid.zstep l.from l.end;
    }

pub record BlockBox (grid : Grid) (c : Block) (l : Layers) (b : Box) : Type 0 where
  pub same : b ≡ box_at grid c l
  pub ok : BoxOk b

-- A block of the grid and layers of it.
pub record ForBounds (grid : Grid) (c : Block) (l : Layers) : Type 0 where
  pub fault : grid_fault true (grid_in grid true) ≡ 0
  pub block : BlockIn grid c
  pub layers : LayersIn grid l

-- And words of a level with room for the short tape's marks and words.
pub record ForNarrow (whole ws : List ℕ) (grid : Grid) (c : Block) (l : Layers) (work : List ℕ) (base : ℕ)
    (next : List ℕ) : Type 0 where
  pub level : Level whole ws
  pub bounds : ForBounds grid c l
  pub marks : MarksAt whole base work
  pub words : length whole ≤ length next

-- From start on stand words with the slopes of the words ws at every sample of the block c in the layers l; kept of the
-- whole tape, as those are, and accepted as they are.
pub record Narrowed (whole ws : List ℕ) (grid : Grid) (c : Block) (l : Layers) (next : List ℕ) (start : ℕ)
    : Type 0 where
  pub within : start ≤ length next
  pub accepted : (n : ℕ) → Accepted (tape_in n ws) → Accepted (tape_in n (drop start next))
  pub same : (n : ℕ) → Accepted (tape_in n ws) → (i j k : ℕ) → Within c i j → l.from ≤ k → k < l.end
      → slopes_at (tape_in n (drop start next)) (sample_at (grid_in grid true) i j k)
      ≡ slopes_at (tape_in n ws) (sample_at (grid_in grid true) i j k)
  pub kept : Kept whole (drop start next)

-- All of the list, by the slopes of the words' tape.
pub record Shaded (ws : List ℕ) (grid : Grid) (h : List ℕ) (b' : List ℤ) : Type 0 where
  pub slopes : (n : ℕ) → Accepted (tape_in n ws) → b' ≡ slopes_of (tape_in n ws) (grid_in grid true) h
