-- A chunk that no edge of the grid cuts, in lanes: four heights of each of two rows of the picture.
use Rattle.std.specs.Prelude.{◌≡◌, List, [], ◌∷◌, ℕ, zero, suc, ◌+◌, ◌≤◌, ◌<◌, ltb, ℤ, length, get_or, set}
use Rattle.rules.specs.Values.{pick}
use Rattle.lanes.specs.Lanes.{lane_count, lane}
use Rattle.picture.specs.declared.grid.Grid.{Grid}
use Rattle.walk.specs.declared.cell.Cell.{Cell}
use Rattle.solid_samples.specs.Samples.{with_sample, ForChunk}

-- Four pixels from `at` on are in the picture.
pub record FourFrom (at : ℕ) (b : List ℕ) : Type 0 where
  pub small : at < 262144
  pub within : at + 4 ≤ length b

-- Four heights from `at` on before others; and those of both rows.
abbrev pub four_before : List ℕ → ℕ → List ℕ → List ℕ
four_before b at hs = get_or b at 0 ∷ (get_or b (at + 1) 0 ∷ (get_or b (at + 2) 0 ∷ (get_or b (at + 3) 0 ∷ hs)))

abbrev pub heights_of : List ℕ → ℕ → ℕ → List ℕ
heights_of b l u = four_before b l (four_before b u [])

-- 1 where the height a is below h.
abbrev pub one_below : ℕ → ℕ → ℕ
one_below a h = pick (ltb a h) 1 0

-- How many of four heights from lane f on are below h, and of eight.
abbrev pub four_below : List ℕ → ℕ → ℕ → ℕ
four_below hs f h =
    one_below (get_or hs (f + 0) 0) h + one_below (get_or hs (f + 1) 0) h + one_below (get_or hs (f + 2) 0) h
    + one_below (get_or hs (f + 3) 0) h

abbrev pub all_below : List ℕ → ℕ → ℕ
all_below hs h = four_below hs 0 h + four_below hs 4 h

-- The first n pixels from `at` on take the heights of the lanes from `first` on.
unfoldable pub put_row : ℕ → List ℕ → ℕ → List ℕ → ℕ → List ℕ
put_row zero b at rs first = b
put_row (suc n) b at rs first = set (put_row n b at rs first) (at + n) (get_or rs (first + n) 0)

-- The heights as with the samples v of layer h.
pub record Raised (hs : List ℕ) (h : ℕ) (vs : List ℤ) (rs : List ℕ) : Type 0 where
  pub at : (k : ℕ) → k < lane_count → get_or rs k 0 ≡ with_sample (get_or hs k 0) h (lane vs k)

-- A chunk with both rows of four pixels.
pub record ForWhole (ws : List ℕ) (grid : Grid) (c : Cell) (y z : ℕ) (vs : List ℤ) (b : List ℕ) : Type 0 where
  pub chunk : ForChunk ws grid c y z vs b
  pub wide : c.xend ≡ c.x + 4
  pub rows : y + 2 ≤ c.yend
