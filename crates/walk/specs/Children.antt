-- The children of a cell as a list, and each by its number.
use Rattle.std.specs.Prelude.{◌≡◌, List, ◌∷◌, ℕ, suc, ◌+◌, ◌-◌, ◌*◌, ◌/◌, ◌%◌, ◌≤◌, ◌<◌, length, drop}
use Rattle.rules.specs.Drawings.{Region, over, along_z}
use Rattle.picture.specs.declared.grid.Grid.{Grid}
use Rattle.walk.specs.Cells.{CellOk, region_in}
use Rattle.walk.specs.declared.cell.Cell.{Cell}

-- How many parts of length n begin before the end.
abbrev pub parts_in : ℕ → ℕ → ℕ → ℕ
parts_in from end n = (end - from + n - 1) / n

-- Where the last of them ends.
abbrev pub last_end : ℕ → ℕ → ℕ → ℕ
last_end from end n = from + parts_in from end n * n

-- Numbers of which they can be counted.
pub record ForParts (from end n : ℕ) : Type 0 where
  pub some : from < end
  pub small : end ≤ 512
  pub long : 1 ≤ n
  pub few : n ≤ 512

pub record Axis (from end side : ℕ) : Type 0 where
  pub some : from < end
  pub in_side : end ≤ from + side
  pub small : end ≤ 512

-- A cell whose side the side n divides.
pub record Parent (c : Cell) (n : ℕ) : Type 0 where
  pub count : ℕ
  pub some : 1 ≤ n
  pub few : n ≤ 512
  pub parts : c.side ≡ count * n
  pub xs : Axis c.x c.xend c.side
  pub ys : Axis c.y c.yend c.side
  pub zs : Axis c.z c.zend c.side

-- Its children, by its ends.
unfoldable pub children_in : Cell → ℕ → List Region
children_in c n =
    let l = over c.side n in
    along_z l l c.x c.y c.z n c.xend c.yend c.zend

-- There is a child number m.
pub record ForChild (p : Cell) (n m : ℕ) : Type 0 where
  pub parent : Parent p n
  pub more : m < length (children_in p n)

-- On an axis of w samples it ends where the axis does, or whole parts of length n behind its start.
pub record EndsWhole (w from end n : ℕ) : Type 0 where
  pub in_grid : end ≤ w
  pub whole : end < w → (end - from) % n ≡ 0

-- A rectangle or a cell whose children of side n are cells of the grid.
pub record Whole (layers : ℕ) (grid : Grid) (c : Cell) (n : ℕ) : Type 0 where
  pub xs : EndsWhole grid.width c.x c.xend n
  pub ys : EndsWhole grid.height c.y c.yend n
  pub zs : EndsWhole layers c.z c.zend n

-- Child number m: the next of the list, in the grid as its parent is, and within its parent.
pub record ChildOf (p : Cell) (n m : ℕ) (c : Cell) : Type 0 where
  pub next : drop m (children_in p n) ≡ region_in c ∷ drop (suc m) (children_in p n)
  pub ok : (layers : ℕ) (grid : Grid) → CellOk layers grid p → CellOk layers grid c
  pub cell : (layers : ℕ) (grid : Grid) → Whole layers grid p n → CellOk layers grid c
  pub side : c.side ≡ n
  pub column : ℕ
  pub at_x : c.x ≡ p.x + column * n
  pub x_to : c.x + n ≤ p.x + p.side
  pub y_from : p.y ≤ c.y
  pub y_to : c.y + n ≤ p.y + p.side
  pub x_last : c.x + n ≤ last_end p.x p.xend n
  pub y_last : c.y + n ≤ last_end p.y p.yend n
