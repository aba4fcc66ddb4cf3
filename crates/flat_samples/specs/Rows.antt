-- Rows of samples of a flat grid, and the lanes that they are run in.
use Rattle.std.specs.Prelude.{◌≡◌, Bool, false, List, [], ◌∷◌, ℤ, length, get_or, ℕ, zero, suc, ◌+◌, ◌-◌, ◌<◌}
use Rattle.rules.specs.Values.{is_neg}
use Rattle.rules.specs.Tapes.{slot_limit, Tape, material}
use Rattle.rules.specs.Drawings as D
use Rattle.rules.specs.Accepted.{Accepted}
use Rattle.lanes.specs.Lanes.{lane_count, lane}
use Rattle.code.specs.Words.{tape_in}
use Rattle.sweep.specs.Chunks.{block_rows, chunk_row}
use Rattle.sweep.specs.Sweeps.{slot_lane}
use Rattle.picture.specs.Bits.{row_byte}
use Rattle.picture.specs.Shapes.{grid_in}
use Rattle.picture.specs.declared.grid.Grid.{Grid}
use Rattle.walk.specs.declared.cell.Cell.{Cell}

-- Which of m samples from x on in row y have material.
unfoldable pub materials : ℕ → Tape → D.Grid → ℕ → ℕ → List Bool
materials zero t g x y = []
materials (suc m) t g x y = material t (D.sample_at g x y 0) ∷ materials m t g (suc x) y

-- Each value in all lanes of a row.
pub record Splats (vs : List ℤ) (rows : List (List ℤ)) : Type 0 where
  pub at : (c k : ℕ) → c < lane_count → k < lane_count → slot_lane rows c k ≡ lane vs c

-- The first n lanes are below 0 exactly where bs has true.
pub record SignsAre (n : ℕ) (vs : List ℤ) (bs : List Bool) : Type 0 where
  pub count : length bs ≡ n
  pub here : (k : ℕ) → k < n → is_neg (lane vs k) ≡ get_or bs k false

-- The byte of the signs of the first n lanes.
pub record SignByte (n : ℕ) (vs : List ℤ) (b : ℕ) : Type 0 where
  pub byte : (bs : List Bool) → SignsAre n vs bs → b ≡ row_byte bs

-- Slot r of chunk c has the values of row c of a region: below 0 where there is material.
pub record RowsRun (ws : List ℕ) (grid : Grid) (parent : Cell) (ss : List (List ℤ)) (r : ℕ) : Type 0 where
  pub size : length ss ≡ block_rows
  pub within : r < slot_limit
  pub signs : (n c : ℕ) → Accepted (tape_in n ws) → parent.y + c < parent.yend
      → SignsAre (parent.xend - parent.x) (chunk_row ss r c)
      (materials (parent.xend - parent.x) (tape_in n ws) (grid_in grid false) parent.x (parent.y + c))
