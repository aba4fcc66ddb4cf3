-- What the search over positions and the pixels of a region ask and promise.
use Rattle.std.specs.Prelude.{◌≡◌, false, List, ℤ, ℕ, ◌≤◌, ◌<◌, length, get_or}
use Rattle.rules.specs.Values.{Sample}
use Rattle.rules.specs.Drawings.{Region}
use Rattle.rules.specs.Accepted.{Accepted}
use Rattle.code.specs.Words.{tape_in, Runnable}
use Rattle.code.specs.Runs.{Lent}
use Rattle.picture.specs.Shapes.{grid_in}
use Rattle.picture.specs.declared.grid.Grid.{Grid}
use Rattle.walk.specs.Cells.{CellOk}
use Rattle.walk.specs.Walks.{Sound}
use Rattle.walk.specs.declared.cell.Cell.{Cell}
use Rattle.swept_rules.specs.Swept.{Offset, path_limit, offsets_of}
use Rattle.swept_rules.specs.Keeping.{position_at, first_in}
use Rattle.swept_rules.proofs.Paths.{AllStay}
use Rattle.swept_rules.proofs.Regions.{Keeps}
use Rattle.swept_path.specs.Asked.{ForSample, InPath}
use Rattle.swept_pixels.specs.Puts.{OnGrid}

-- A path that no line refuses, and numbers of its positions.
pub record OnPath (grid : Grid) (zs : List ℤ) (ks : List ℕ) : Type 0 where
  pub few : length (offsets_of zs) ≤ path_limit
  pub stays : AllStay (grid_in grid false) (offsets_of zs)
  pub in_path : InPath zs ks

pub record ForSearch (ws : List ℕ) (s : Sample) (zs : List ℤ) (ks : List ℕ) (slots : List ℤ) : Type 0 where
  pub runs : Runnable ws
  pub few : length (offsets_of zs) ≤ path_limit
  pub in_path : InPath zs ks
  pub moves : (i : ℕ) → i < length ks → ForSample s (position_at (offsets_of zs) (get_or ks i 0))
  pub lent : Lent slots

-- On any number of slots on which the words are an accepted tape.
pub record Found (ws : List ℕ) (s : Sample) (os : List Offset) (ks : List ℕ) (r : ℕ) : Type 0 where
  pub first : (n : ℕ) → Accepted (tape_in n ws) → r ≡ first_in (tape_in n ws) os s ks

-- With the words ws and the positions ks the region has the first covers f.
pub record Agrees (ws : List ℕ) (zs : List ℤ) (grid : Grid) (ks : List ℕ) (r : Region) (f : ℕ → ℕ → ℕ) : Type 0 where
  pub slots : ℕ
  pub accepted : Accepted (tape_in slots ws)
  pub keeps : Keeps f (offsets_of zs) (grid_in grid false) r (tape_in slots ws) ks

pub record ForPixel (ws : List ℕ) (grid : Grid) (c : Cell) (zs : List ℤ) (ks b : List ℕ) (slots : List ℤ) : Type 0 where
  pub sound : Sound ws
  pub on : OnGrid grid b
  pub cell : CellOk 1 grid c
  pub one : c.side ≡ 1
  pub path : OnPath grid zs ks
  pub lent : Lent slots

pub record ForPixels (ws : List ℕ) (grid : Grid) (c : Cell) (zs : List ℤ) (ks b : List ℕ) : Type 0 where
  pub sound : Sound ws
  pub on : OnGrid grid b
  pub cell : CellOk 1 grid c
  pub side : c.side ≤ 64
  pub path : OnPath grid zs ks
