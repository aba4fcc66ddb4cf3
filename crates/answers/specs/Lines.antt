-- The lines of a drawing: those about the lengths of what is lent, and all of them in their order.
use Rattle.std.specs.Prelude.{◌≡◌, Bool, true, not, List, [], ◌∷◌, ◌++◌, ℕ, ◌*◌, ◌≤◌, eqb, ltb}
use Rattle.rules.specs.Values.{when, first_fault}
use Rattle.rules.specs.Tapes.{read_tape}
use Rattle.rules.specs.Drawings as D
use Rattle.rules.specs.Pictures.{picture_size}

-- Lines 12 and 13: "picture buffer not of the exact length", n its length; "work buffer below 32,768 bytes".
abbrev pub length_fault : Bool → D.Grid → ℕ → ℕ
length_fault isSolid g n = when (not (eqb n (picture_size isSolid g))) 12

abbrev pub work_fault : ℕ → ℕ
work_fault m = when (ltb m D.work_limit) 13

-- "a slope buffer not of three a pixel counts under 12"; m its length.
abbrev pub slope_fault : D.Grid → ℕ → ℕ
slope_fault g m = when (not (eqb m (3 * (g.width * g.height)))) 12

-- "Drawing checks 1 to 4, then 5 to 9 clause by clause, then 10 to 13 (in full, 10 to 12)": n is the picture's length,
-- m the work buffer's. Reading the tape has lines 1 to 9, the grid 10 and 11.
abbrev pub grid_lines : Bool → List ℕ → D.Grid → List ℕ
grid_lines isSolid s g = (read_tape s).number ∷ (D.grid_fault isSolid g ∷ [])

abbrev pub draw_lines : Bool → List ℕ → D.Grid → ℕ → List ℕ
draw_lines isSolid s g n = grid_lines isSolid s g ++ (length_fault isSolid g n ∷ [])

abbrev pub tile_lines : Bool → List ℕ → D.Grid → ℕ → ℕ → List ℕ
tile_lines isSolid s g n m = draw_lines isSolid s g n ++ (work_fault m ∷ [])

-- Lines 1 to 11, 12 for the picture and for the slopes, m their length, and 13.
abbrev pub slope_lines : List ℕ → D.Grid → ℕ → ℕ → ℕ → List ℕ
slope_lines s g n m k = draw_lines true s g n ++ (slope_fault g m ∷ (work_fault k ∷ []))

abbrev pub draw_fault : Bool → List ℕ → D.Grid → ℕ → ℕ
draw_fault isSolid s g n = first_fault (draw_lines isSolid s g n)

abbrev pub tile_fault : Bool → List ℕ → D.Grid → ℕ → ℕ → ℕ
tile_fault isSolid s g n m = first_fault (tile_lines isSolid s g n m)

abbrev pub slopes_fault : List ℕ → D.Grid → ℕ → ℕ → ℕ → ℕ
slopes_fault s g n m k = first_fault (slope_lines s g n m k)

-- What is asked of a drawing that no line refuses: the tape and the grid are accepted, and the picture's length is the
-- grid's.
pub record Draws (isSolid : Bool) (s : List ℕ) (g : D.Grid) (n : ℕ) : Type 0 where
  pub read : (read_tape s).number ≡ 0
  pub grid : D.grid_fault isSolid g ≡ 0
  pub size : n ≡ picture_size isSolid g

-- The same of a drawing by tiles, m the work buffer's length; and of one with slopes, m their length and k the work
-- buffer's.
pub record DrawsByTiles (isSolid : Bool) (s : List ℕ) (g : D.Grid) (n m : ℕ) : Type 0 where
  pub drawing : Draws isSolid s g n
  pub work : D.work_limit ≤ m

pub record DrawsSlopes (s : List ℕ) (g : D.Grid) (n m k : ℕ) : Type 0 where
  pub tiles : DrawsByTiles true s g n k
  pub slopes : m ≡ 3 * (g.width * g.height)
