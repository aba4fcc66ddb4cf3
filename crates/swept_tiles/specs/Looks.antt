-- What a look at a region and the levels ask and promise.
use Rattle.std.specs.Prelude.{◌≡◌, false, List, ℤ, ℕ, ◌*◌, ◌≤◌, length, take, drop}
use Rattle.rules.specs.Drawings.{Region, grid_fault}
use Rattle.rules.specs.Accepted.{Accepted}
use Rattle.code.specs.Words.{tape_in}
use Rattle.shortening.specs.Kept.{MarksAt}
use Rattle.picture.specs.Shapes.{grid_in}
use Rattle.picture.specs.declared.grid.Grid.{Grid}
use Rattle.walk.specs.Cells.{CellOk}
use Rattle.walk.specs.Walks.{Level, MarksFit}
use Rattle.walk.specs.declared.cell.Cell.{Cell}
use Rattle.swept_rules.specs.Swept.{path_limit, offsets_of, swept}
use Rattle.swept_rules.specs.Keeping.{numbers_from}
use Rattle.swept_rules.proofs.Paths.{AllStay}
use Rattle.swept_path.specs.Asked.{InPath}
use Rattle.swept_pixels.specs.Puts.{Constantly, OnGrid}
use Rattle.swept_pixels.specs.Searches.{OnPath, Agrees}
use Rattle.swept_tiles.specs.declared.look.Glance.{Glance}
use Rattle.swept_tiles.specs.declared.look.Glance.TheVariants.{Same, Open}

-- Words of a level, a cell of the grid, numbers of positions, and room for those kept, for marks and for words.
pub record ForLook (whole ws : List ℕ) (grid : Grid) (c : Cell) (zs : List ℤ) (ks kept work : List ℕ) (base : ℕ)
    (next : List ℕ) : Type 0 where
  pub level : Level whole ws
  pub fault : grid_fault false (grid_in grid false) ≡ 0
  pub cell : CellOk 1 grid c
  pub path : OnPath grid zs ks
  pub list : length ks ≤ length kept
  pub marks : MarksAt whole base work
  pub words : length whole ≤ length next

-- Every pixel of the region has the number v, whatever the words and positions have there.
pub record SameBy (ws : List ℕ) (grid : Grid) (r : Region) (zs : List ℤ) (ks : List ℕ) (v : ℕ) : Type 0 where
  pub constant : (f : ℕ → ℕ → ℕ) → Agrees ws zs grid ks r f → Constantly v grid r f

-- The first positions of the list and the words from start on have the same first covers in the region.
pub record OpenedBy (whole ws : List ℕ) (grid : Grid) (r : Region) (zs : List ℤ) (ks kept next : List ℕ)
    (count start : ℕ) : Type 0 where
  pub within : count ≤ length kept
  pub start_in : start ≤ length next
  pub level : Level whole (drop start next)
  pub in_path : InPath zs (take count kept)
  pub agrees : (f : ℕ → ℕ → ℕ) → Agrees ws zs grid ks r f → Agrees (drop start next) zs grid (take count kept) r f

abbrev pub LookedAs : List ℕ → List ℕ → Grid → Region → List ℤ → List ℕ → List ℕ → List ℕ → Glance → Type 0
LookedAs whole ws grid r zs ks kept next (Same v) = SameBy ws grid r zs ks v
LookedAs whole ws grid r zs ks kept next (Open count start) = OpenedBy whole ws grid r zs ks kept next count start

-- Side 8, with the words and the positions of a tile: for a region of side n.
pub record ForEights (n : ℕ) (whole ws : List ℕ) (grid : Grid) (c : Cell) (zs : List ℤ) (ks kept b work second : List ℕ)
    : Type 0 where
  pub level : Level whole ws
  pub on : OnGrid grid b
  pub cell : CellOk 1 grid c
  pub side : c.side ≡ n
  pub path : OnPath grid zs ks
  pub list : length ks ≤ length kept
  pub marks : MarksFit 2 whole work
  pub words : length whole ≤ length second

-- A list with room for n numbers, and the numbers below n in it.
pub record ForNumbers (n : ℕ) (list : List ℕ) : Type 0 where
  pub few : n ≤ path_limit
  pub room : n ≤ length list

pub record Numbered (n : ℕ) (list : List ℕ) : Type 0 where
  pub numbers : take n list ≡ numbers_from 0 n

-- With the words and all positions.
abbrev pub AllAgree : List ℕ → List ℤ → Grid → Region → (ℕ → ℕ → ℕ) → Type 0
AllAgree ws zs grid r f = Agrees ws zs grid (numbers_from 0 (length (offsets_of zs))) r f

-- All tiles: the words of the whole tape, a path that no line refuses, two lists for its positions, and room for the
-- marks and the words of two levels.
pub record ForSweep (whole : List ℕ) (grid : Grid) (zs : List ℤ) (outer inner b work first second : List ℕ) : Type 0
  where
    pub level : Level whole whole
    pub on : OnGrid grid b
    pub pairs : length zs ≡ 2 * length (offsets_of zs)
    pub few : length (offsets_of zs) ≤ path_limit
    pub stays : AllStay (grid_in grid false) (offsets_of zs)
    pub outer_long : length outer ≡ path_limit
    pub inner_long : length inner ≡ path_limit
    pub marks : MarksFit 2 whole work
    pub words_first : length whole ≤ length first
    pub words_second : length whole ≤ length second

pub record ForTile (n : ℕ) (whole : List ℕ) (grid : Grid) (c : Cell) (zs : List ℤ)
    (outer inner b work first second : List ℕ) : Type 0 where
  pub sweep : ForSweep whole grid zs outer inner b work first second
  pub cell : CellOk 1 grid c
  pub side : c.side ≡ n

-- The whole picture, by the words' tape.
pub record SweptBy (ws : List ℕ) (zs : List ℤ) (grid : Grid) (b' : List ℕ) : Type 0 where
  pub pixels : (n : ℕ) → Accepted (tape_in n ws) → b' ≡ swept (tape_in n ws) (offsets_of zs) (grid_in grid false)
