-- What is asked where a part's tiles are drawn and joined, and what becomes of the bytes.
use Rattle.std.specs.Prelude.{◌≡◌, false, List, ℕ, length, get_or, replicate}
use Rattle.std.specs.Int.Bits.{bit_or}
use Rattle.rules.specs.Tapes.{Tape}
use Rattle.rules.specs.Drawings.{drawn}
use Rattle.rules.specs.Pictures.{bits_of}
use Rattle.picture.specs.Shapes.{grid_in}
use Rattle.picture.specs.declared.grid.Grid.{Grid}
use Rattle.walk.specs.Cells.{size_in}
use Rattle.flat_tiles.specs.Rects.{Lent}
use Rattle.plate_tiles.specs.Tiles.{tile_limit, ForTile}

-- The bytes of a tape's drawing; and a byte joined with that of the drawing at its place.
abbrev pub drawn_bits : Tape → Grid → List ℕ
drawn_bits t grid = bits_of grid.width grid.height (drawn t (grid_in grid false))

abbrev pub with_part : List ℕ → Tape → Grid → ℕ → ℕ
with_part b t grid i = bit_or (get_or b i 0) (get_or (drawn_bits t grid) i 0)

-- What a part's drawing is lent: a blank picture of the grid's size besides the picture.
pub record ForPart (code : List ℕ) (grid : Grid) (blank picture work first second : List ℕ) : Type 0 where
  pub lent : Lent code grid picture work first second
  pub clean : blank ≡ replicate (size_in false grid) 0

pub record ForJoin (code : List ℕ) (grid : Grid) (m : ℕ) (blank picture work first second : List ℕ) : Type 0 where
  pub part : ForPart code grid blank picture work first second
  pub tile : ForTile grid m

pub record ForJoins (code : List ℕ) (grid : Grid) (marks blank picture work first second : List ℕ) : Type 0 where
  pub part : ForPart code grid blank picture work first second
  pub size : length marks ≡ tile_limit
