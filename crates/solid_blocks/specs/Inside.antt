-- The rest of a visit to a region of side 16 behind its look: what the region counted by itself, and its children.
use Rattle.std.specs.Prelude.{◌≡◌, true, List, ℕ, ◌-◌, ◌*◌, ◌≤◌, length, take, drop}
use Rattle.picture.specs.declared.grid.Grid.{Grid}
use Rattle.walk.specs.Cells.{Ready, CellOk}
use Rattle.walk.specs.Children.{children_in}
use Rattle.walk.specs.Walks.{Level, MarksFit, Folds}
use Rattle.walk.specs.declared.cell.Cell.{Cell}
use Rattle.walk.specs.declared.look.Seen.{Seen}
use Rattle.walk.specs.declared.look.Seen.TheVariants.{Done, Open}
use Rattle.solid_blocks.specs.Sides.{below4}

-- What the region's own run counts: what the look counted or, where its children are to be visited, a run of its words.
abbrev pub own_count : Seen → ℕ → ℕ
own_count (Done c) n = c
own_count (Open start) n = n

pub record OwnRun (seen : Seen) (n r : ℕ) : Type 0 where
  pub same : r ≡ own_count seen n

-- The short words, as the code lends them.
abbrev pub short_from : ℕ → List ℕ → List ℕ
short_from start next = take (length next - start) (drop start next)

pub record Short (whole : List ℕ) (next : List ℕ) (start : ℕ) : Type 0 where
  pub within : start ≤ length next
  pub level : Level whole (short_from start next)

-- A region of side 16 in a picture that is ready; if it is cut, the words of its children; and room for those below.
pub record ForInside (whole : List ℕ) (seen : Seen) (grid : Grid) (c : Cell) (b work l₂ l₃ : List ℕ)
    (cs : List (List ℕ)) : Type 0 where
  pub ready : Ready true grid b
  pub cell : CellOk grid.depth grid c
  pub side : c.side ≡ 16
  pub room : MarksFit 3 whole work
  pub third : length whole ≤ length l₃
  pub rows : length whole ≤ length cs
  pub short : (start : ℕ) → seen ≡ Open start → Short whole l₂ start

-- Nothing more of a region that is done; of one that is cut, its children of side 4 with its short words.
abbrev pub InsideOf : Seen → Grid → Cell → List ℕ → List ℕ → List ℕ → ℕ → Type 0
InsideOf (Done c) grid cell next b b' r = (b' ≡ b) × (r ≡ 0)
InsideOf (Open start) grid cell next b b' r =
    Folds true (64 * 65) (short_from start next) grid below4 (children_in cell 4) b b' r

pub record Inside (seen : Seen) (grid : Grid) (cell : Cell) (next b b' : List ℕ) (r : ℕ) : Type 0 where
  pub rest : InsideOf seen grid cell next b b' r
