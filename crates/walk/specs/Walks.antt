-- What a visit to a region, and to a list of regions, draws and counts: with words, on any number of slots on which
-- they are an accepted tape. Flat and solid differ in how a picture shows heights.
use Rattle.std.specs.Prelude.{◌≡◌, Bool, true, false, List, ◌∷◌, ℕ, ◌+◌, ◌*◌, ◌≤◌, length}
use Rattle.rules.specs.Drawings.{Region, box_of, fold, visit, walked}
use Rattle.rules.specs.Pictures.{picture}
use Rattle.rules.specs.Accepted.{Accepted}
use Rattle.rules.specs.Tapes.{range_over}
use Rattle.code.specs.Words.{tape_in}
use Rattle.code.specs.Runs.{Fit}
use Rattle.shortening.specs.Kept.{Kept, mark_room, MarksAt}
use Rattle.picture.specs.Bits.{Shows}
use Rattle.picture.specs.Shapes.{grid_in}
use Rattle.picture.specs.declared.grid.Grid.{Grid}
use Rattle.walk.specs.Cells.{layers_in, Ready, CellOk}
use Rattle.walk.specs.Draws.{Draws, Hidden, Same}
use Rattle.walk.specs.Verdicts.{IsMixed, CutOver}
use Rattle.walk.specs.declared.cell.Cell.{Cell}
use Rattle.walk.specs.declared.look.Seen.{Seen}
use Rattle.walk.specs.declared.look.Seen.TheVariants.{Done, Open}

-- Words of an accepted tape, on some number of slots.
pub record Sound (ws : List ℕ) : Type 0 where
  pub slots : ℕ
  pub accepted : Accepted (tape_in slots ws)

-- The words of one level of the walk: an accepted tape, kept of the words of the whole tape.
pub record Level (whole ws : List ℕ) : Type 0 where
  pub sound : Sound ws
  pub kept : Kept whole ws

-- The work buffer has room for the choices and for the marks of k levels.
abbrev pub MarksFit : ℕ → List ℕ → List ℕ → Type 0
MarksFit k whole work = length whole + k * mark_room (length whole) ≤ length work

-- A picture's list shows heights: a solid's are the heights, a flat one's bytes hold a bit for each.
abbrev pub Shown : Bool → Grid → List ℕ → List ℕ → Type 0
Shown true grid = Same
Shown false grid = Shows grid.width grid.height

-- One region; ns are the sides below its own. At most `most` runs of the words are counted.
pub record Visits (isSolid : Bool) (most : ℕ) (ws : List ℕ) (grid : Grid) (ns : List ℕ) (r : Region) (b b' : List ℕ)
    (c : ℕ) : Type 0 where
  pub draws : (m : ℕ) → Accepted (tape_in m ws)
      → Draws (Shown isSolid grid) (visit ns (tape_in m ws) (grid_in grid isSolid) r) b b' c
  pub bound : c ≤ most * length ws

-- A list of regions.
pub record Folds (isSolid : Bool) (most : ℕ) (ws : List ℕ) (grid : Grid) (ns : List ℕ) (qs : List Region)
    (b b' : List ℕ) (c : ℕ) : Type 0 where
  pub draws : (m : ℕ) → Accepted (tape_in m ws)
      → Draws (Shown isSolid grid) (fold (λ q s. visit ns (tape_in m ws) (grid_in grid isSolid) q s) qs) b b' c
  pub bound : c ≤ most * length ws

-- A region of any side but 1 whose visit ended without its children.
pub record Finished (isSolid : Bool) (ws : List ℕ) (grid : Grid) (r : Region) (b b' : List ℕ) (c : ℕ) : Type 0 where
  pub draws : (n : ℕ) (ns : List ℕ) (m : ℕ) → Accepted (tape_in m ws)
      → Draws (Shown isSolid grid) (visit (n ∷ ns) (tape_in m ws) (grid_in grid isSolid) r) b b' c
  pub bound : c ≤ length ws

-- What a look at a region asks: words of a level, a cell of a picture that is ready, and room for marks and words.
pub record ForLook (isSolid : Bool) (whole ws : List ℕ) (grid : Grid) (c : Cell) (b work : List ℕ) (base : ℕ)
    (next : List ℕ) : Type 0 where
  pub level : Level whole ws
  pub ready : Ready isSolid grid b
  pub cell : CellOk (layers_in isSolid grid) grid c
  pub marks : MarksAt whole base work
  pub words : length whole ≤ length next

-- A region that is seen, and cut over its box, before its children.
pub record Opened (isSolid : Bool) (whole ws : List ℕ) (grid : Grid) (r : Region) (b b' : List ℕ) (base : ℕ)
    (work next : List ℕ) (start : ℕ) : Type 0 where
  pub same : b' ≡ b
  pub seen : Hidden (Shown isSolid grid) (grid_in grid isSolid) r b false
  pub mixed : (n : ℕ) → Fit n ws → IsMixed (range_over (tape_in n ws) (box_of (grid_in grid isSolid) r))
  pub cut : CutOver whole ws (box_of (grid_in grid isSolid) r) base work next start

abbrev pub Looked : Bool → List ℕ → List ℕ → Grid → Region → List ℕ → List ℕ → ℕ → List ℕ → List ℕ → Seen → Type 0
Looked isSolid whole ws grid r b b' base work next (Done c) = Finished isSolid ws grid r b b' c
Looked isSolid whole ws grid r b b' base work next (Open start) =
    Opened isSolid whole ws grid r b b' base work next start

-- The whole drawing.
pub record Walked (isSolid : Bool) (ws : List ℕ) (grid : Grid) (b : List ℕ) (c : ℕ) : Type 0 where
  pub pixels : (m : ℕ) → Accepted (tape_in m ws)
      → b ≡ picture isSolid (grid_in grid isSolid) (walked (tape_in m ws) (grid_in grid isSolid)).heights
  pub count : (m : ℕ) → Accepted (tape_in m ws) → c ≡ (walked (tape_in m ws) (grid_in grid isSolid)).clauses
