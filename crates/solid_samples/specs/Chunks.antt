-- The samples of a region of side 4 in chunks: two rows by four pixels of one layer, from the top layer down and in a
-- layer upward. Chunk m, counted in this order, has the rows `chunk_y` and `chunk_y` + 1 of the layer `chunk_z`.
use Rattle.std.specs.Prelude.{◌≡◌, true, List, [], ◌∷◌, ◌++◌, ℕ, ◌+◌, ◌-◌, ◌*◌, ◌/◌, ◌%◌, ◌≤◌, ◌<◌, ltb, ℤ, length, get_or}
use Rattle.rules.specs.Values.{pick}
use Rattle.rules.specs.Drawings.{Region, along_x, sample_at, at}
use Rattle.lanes.specs.Lanes.{lane_count, lane}
use Rattle.code.specs.Runs.{Evaluated}
use Rattle.picture.specs.Shapes.{grid_in}
use Rattle.picture.specs.declared.grid.Grid.{Grid}
use Rattle.walk.specs.declared.cell.Cell.{Cell}

abbrev pub chunk_count : Cell → ℕ
chunk_count c = 2 * (c.zend - c.z)

abbrev pub chunk_y : Cell → ℕ → ℕ
chunk_y c m = c.y + 2 * (m % 2)

abbrev pub chunk_z : Cell → ℕ → ℕ
chunk_z c m = c.zend - 1 - m / 2

-- Row y of the layer z, if the region has it; and a chunk from that row on.
unfoldable pub row_in : Cell → ℕ → ℕ → List Region
row_in c y z = pick (ltb y c.yend) (along_x 4 c.x y z 1 c.xend) []

abbrev pub chunk_in : Cell → ℕ → ℕ → List Region
chunk_in c y z = row_in c y z ++ row_in c (y + 1) z

-- From the lane `first` on, the lanes are the tape's values at the samples of a row.
pub record RowValues (ws : List ℕ) (grid : Grid) (c : Cell) (y z first : ℕ) (vs : List ℤ) : Type 0 where
  pub here : (x : ℕ) → c.x ≤ x → x < c.xend → y < c.yend
      → Evaluated ws (sample_at (grid_in grid true) x y z) (lane vs (first + (x - c.x)))

pub record ChunkValues (ws : List ℕ) (grid : Grid) (c : Cell) (y z : ℕ) (vs : List ℤ) : Type 0 where
  pub lower : RowValues ws grid c y z 0 vs
  pub upper : RowValues ws grid c (y + 1) z 4 vs

-- Every pixel of a row, and of a chunk, is as high as the layer z would make it.
pub record HighRow (grid : Grid) (c : Cell) (y z : ℕ) (b : List ℕ) : Type 0 where
  pub here : (x : ℕ) → c.x ≤ x → x < c.xend → y < c.yend → z + 1 ≤ get_or b (y * grid.width + x) 0

pub record HighChunk (grid : Grid) (c : Cell) (y z : ℕ) (b : List ℕ) : Type 0 where
  pub lower : HighRow grid c y z b
  pub upper : HighRow grid c (y + 1) z b

-- The first four lanes twice, for the columns of both rows of a chunk; and two lanes four times each, for its rows.
abbrev pub columns_of : List ℤ → List ℤ
columns_of r =
    lane r 0
    ∷ (lane r 1
    ∷ (lane r 2 ∷ (lane r 3 ∷ (lane r 0 ∷ (lane r 1 ∷ (lane r 2 ∷ (lane r 3 ∷ [])))))))

abbrev pub pair_of : List ℤ → ℕ → List ℤ
pair_of r i =
    lane r i
    ∷ (lane r i
    ∷ (lane r i
    ∷ (lane r i ∷ (lane r (i + 1) ∷ (lane r (i + 1) ∷ (lane r (i + 1) ∷ (lane r (i + 1) ∷ [])))))))

-- The rows y and y + 1 and the layer z of a chunk, in lanes.
pub record ChunkLanes (grid : Grid) (c : Cell) (y z : ℕ) (ys zs : List ℤ) : Type 0 where
  pub lower : (k : ℕ) → k < 4 → y < c.yend → lane ys k ≡ at grid.yorigin grid.ystep y
  pub upper : (k : ℕ) → k < 4 → y + 1 < c.yend → lane ys (4 + k) ≡ at grid.yorigin grid.ystep (y + 1)
  pub layer : (k : ℕ) → k < lane_count → lane zs k ≡ at grid.zorigin grid.zstep z

-- Chunk j by its place p among n: wholly hidden, which the place 8 says, or in lanes at that place.
pub record PlaceOf (grid : Grid) (c : Cell) (b : List ℕ) (ys zs : List (List ℤ)) (n j p : ℕ) : Type 0 where
  pub hidden : 8 ≤ p → HighChunk grid c (chunk_y c j) (chunk_z c j) b
  pub within : p < 8 → p < n
  pub lanes : p < 8 → ChunkLanes grid c (chunk_y c j) (chunk_z c j) (get_or ys p []) (get_or zs p [])

-- The chunks before chunk m, n of them at places.
pub record Listed (grid : Grid) (c : Cell) (b : List ℕ) (ys zs : List (List ℤ)) (places : List ℕ) (m n : ℕ)
    : Type 0 where
  pub few : n ≤ m
  pub rows : length ys ≡ 8
  pub layers : length zs ≡ 8
  pub size : length places ≡ 8
  pub chunks : (j : ℕ) → j < m → PlaceOf grid c b ys zs n j (get_or places j 0)
