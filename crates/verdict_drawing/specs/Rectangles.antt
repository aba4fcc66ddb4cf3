-- The drawing of a rectangle: what is asked once no line refuses it, and what it gives.
use Rattle.std.specs.Prelude.{◌≡◌, true, false, List, ℕ, ◌≤◌}
use Rattle.rules.specs.Tapes.{read_tape}
use Rattle.rules.specs.Drawings.{Grid, grid_fault, work_limit}
use Rattle.rules.specs.Pictures.{picture, picture_size}
use Rattle.table_rules.specs.Tables.{Rectangle, rectangle_ok, table_ok, turn, laid}

-- n is the picture's length, m the work buffer's.
pub record ForRectangle (s : List ℕ) (g : Grid) (q : Rectangle) (b : List ℕ) (n m : ℕ) : Type 0 where
  pub read : (read_tape s).number ≡ 0
  pub rectangle : rectangle_ok g q ≡ true
  pub grid : grid_fault false g ≡ 0
  pub table : table_ok s g b ≡ true
  pub size : n ≡ picture_size false g
  pub work : work_limit ≤ m

pub record RectangleDrawn (s : List ℕ) (g : Grid) (q : Rectangle) (b b' o o' : List ℕ) (c : ℕ) : Type 0 where
  pub table : b' ≡ (turn (read_tape s).tape g q b).table
  pub pixels : o' ≡ laid g q (picture false g (turn (read_tape s).tape g q b).drawing.heights) o
  pub count : c ≡ (turn (read_tape s).tape g q b).drawing.clauses
