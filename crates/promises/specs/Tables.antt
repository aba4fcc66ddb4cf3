-- What the calls of a shared table of verdicts promise: number, place, count and every lent byte, for all inputs.
use Rattle.std.specs.Prelude.{◌≡◌, false, List, ℕ, length, replicate}
use Rattle.rules.specs.Tapes.{read_tape}
use Rattle.rules.specs.Drawings as D
use Rattle.rules.specs.Pictures.{picture}
use Rattle.table_rules.specs.Tables.{flat_grid, begun, turn, laid, begin_fault, draw_fault}
use Rattle.picture.specs.Shapes.{grid_in}
use Rattle.picture.specs.declared.grid.Grid.{Grid}
use Rattle.rectangle.specs.Rectangles.{rectangle_in}
use Rattle.rectangle.specs.declared.Rectangle.{Rectangle}
use Rattle.answers.specs.Says.{Answered, written}
use Rattle.answers.specs.declared.Answer.{Answer}

-- The grid that a table is of: "the program's grid record with depth and third step 0".
abbrev pub table_grid : Grid → D.Grid
table_grid d = flat_grid (grid_in d false)

-- Beginning a table, b before and b' after: lines 1 to 11, then 24 for its length; done, it is the tape, the grid and
-- no verdict. It draws no picture, so its count is 0.
pub record BeginSays (s : List ℕ) (d : Grid) (b b' : List ℕ) (r : Answer) : Type 0 where
  pub answer : Answered (begin_fault s (table_grid d) (length b)) (read_tape s).place 0 r
  pub table : b' ≡ written (begin_fault s (table_grid d) (length b)) (begun s (table_grid d)) b

-- Drawing the rectangle q with the table b, into the picture o, with the work buffer w: lines 1 to 11, 24, 12 and 13;
-- done, table, picture and count are those of the turn over the rectangle's tiles, for every table, picture bytes
-- outside the rectangle stay, and the work buffer is cleared.
pub record DrawSays (s : List ℕ) (d : Grid) (q : Rectangle) (b b' o o' w w' : List ℕ) (r : Answer) : Type 0 where
  pub answer : let g = table_grid d in
      let n = draw_fault s g (rectangle_in q) b (length o) (length w) in
      Answered n (read_tape s).place (turn (read_tape s).tape g (rectangle_in q) b).drawing.clauses r
  pub table : let g = table_grid d in
      let n = draw_fault s g (rectangle_in q) b (length o) (length w) in
      b' ≡ written n (turn (read_tape s).tape g (rectangle_in q) b).table b
  pub pixels : let g = table_grid d in
      let n = draw_fault s g (rectangle_in q) b (length o) (length w) in
      o' ≡ written n
      (laid g (rectangle_in q) (picture false g (turn (read_tape s).tape g (rectangle_in q) b).drawing.heights) o) o
  pub work : let n = draw_fault s (table_grid d) (rectangle_in q) b (length o) (length w) in
      w' ≡ written n (replicate (length w) 0) w
