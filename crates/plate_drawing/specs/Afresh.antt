-- The marked tiles against heights: what they show, and what parts that are joined make of it.
use Rattle.std.specs.Prelude.{◌≡◌, false, List, ◌++◌, ℕ, suc, ◌+◌, ◌-◌, ◌*◌, ◌<◌, ◌≤◌, length, get_or, take, drop, replicate}
use Rattle.rules.specs.Values.{when}
use Rattle.rules.specs.Tapes.{clause_limit, read_tape, Tape}
use Rattle.rules.specs.Drawings as D
use Rattle.rules.specs.Pictures.{stride, bits_of}
use Rattle.picture.specs.Shapes.{grid_in}
use Rattle.picture.specs.declared.grid.Grid.{Grid}
use Rattle.walk.specs.Cells.{Ready, size_in}
use Rattle.plate_rules.specs.Plate.{places, place_size, plate_size, places_from, places_of, place_fault, places_fault}
use Rattle.plate_rules.specs.Plate.{padded, zeros, greater, touched}
use Rattle.plate_drawing.specs.declared.Change.{Change}
use Rattle.plate_drawing.specs.declared.Change.TheVariants.{Added, Removed}
use Rattle.plate_tiles.specs.Tiles.{tile_limit, tile_count, tile_numbered, number_of}

-- The bytes of the marked tiles are those of the heights h.
pub record Show (grid : Grid) (marks h b : List ℕ) : Type 0 where
  pub bytes : (y c : ℕ) → y < grid.height → c < stride grid.width → (get_or marks (number_of grid y c) 0 ≡ 0 → ⊥)
      → get_or b (y * stride grid.width + c) 0
      ≡ get_or (bits_of grid.width grid.height h) (y * stride grid.width + c) 0

-- Those of every other tile are as they were.
pub record Kept (grid : Grid) (marks b b' : List ℕ) : Type 0 where
  pub bytes : (y c : ℕ) → y < grid.height → c < stride grid.width → get_or marks (number_of grid y c) 0 ≡ 0
      → get_or b' (y * stride grid.width + c) 0 ≡ get_or b (y * stride grid.width + c) 0

-- Whatever heights of 0 and 1 the marked tiles showed, they show the greater of these and k.
pub record Joins (grid : Grid) (marks k b b' : List ℕ) : Type 0 where
  pub shown : (h : List ℕ) → ((p : ℕ) → get_or h p 0 ≤ 1) → Show grid marks h b → Show grid marks (greater h k) b'
  pub kept : Kept grid marks b b'

-- What is lent to a drawing of several parts.
pub record Buffers (grid : Grid) (marks blank picture work words first second : List ℕ) : Type 0 where
  pub ready : Ready false grid picture
  pub size : length marks ≡ tile_limit
  pub clean : blank ≡ replicate (size_in false grid) 0
  pub room : D.work_limit ≤ length work
  pub words_in : length words ≡ clause_limit
  pub first_in : length first ≡ clause_limit
  pub second_in : length second ≡ clause_limit

pub record ForPlace (b : List ℕ) : Type 0 where
  pub size : length b ≡ place_size
  pub faultless : (place_fault b).number ≡ 0

pub record ForPlaces (b : List ℕ) (count : ℕ) : Type 0 where
  pub few : count ≤ places
  pub size : length b ≡ count * place_size
  pub faultless : (places_fault (places_from count b)).number ≡ 0

-- The part that comes, as heights; none where the part goes.
abbrev pub added_heights : Change → Tape → Grid → List ℕ
added_heights Added t grid = D.drawn t (grid_in grid false)
added_heights Removed t grid = replicate (grid.width * grid.height) 0

-- The tiles that the part touches are marked with a 1 and show the part if it comes; the others are as they were.
pub record Began (t : Tape) (change : Change) (grid : Grid) (marks b b' : List ℕ) : Type 0 where
  pub each : (m : ℕ) → m < tile_count grid
      → get_or marks m 0 ≡ when (touched t (grid_in grid false) (tile_numbered grid m)) 1
  pub shown : Show grid marks (added_heights change t grid) b'
  pub kept : Kept grid marks b b'

-- The places but one.
abbrev pub others_of : ℕ → List ℕ → List (List ℕ)
others_of p m = places_from p (take (p * place_size) m) ++ places_from (7 - p) (drop (suc p * place_size) m)

pub record ForOthers (m : List ℕ) (p : ℕ) : Type 0 where
  pub size : length m ≡ plate_size
  pub place : p < places
  pub faultless : (places_fault (places_of m)).number ≡ 0

-- What the place holds after the call: the part that comes, or nothing.
abbrev pub comes : Change → List ℕ → List ℕ
comes Added s = padded s
comes Removed s = zeros

-- What is asked of a change: an accepted tape, places that are not at fault, and a picture and a work buffer that no line
-- refuses.
pub record ForChange (m : List ℕ) (p : ℕ) (s : List ℕ) (grid : Grid) (picture work : List ℕ) : Type 0 where
  pub others : ForOthers m p
  pub read : (read_tape s).number ≡ 0
  pub ready : Ready false grid picture
  pub room : D.work_limit ≤ length work

pub record ForRedraw (m : List ℕ) (p : ℕ) (s : List ℕ) (grid : Grid) (blank picture work : List ℕ) : Type 0 where
  pub change : ForChange m p s grid picture work
  pub clean : blank ≡ replicate (size_in false grid) 0

-- As many bytes as any flat picture has; shut, so that no proof counts up to it.
unfoldable pub picture_limit : ℕ
picture_limit = 32768
