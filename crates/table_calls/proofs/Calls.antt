-- The two ends of each call: refused with all as it came, or done.
use mathlib.Core.Path.{◌≡◌, refl}
use mathlib.Core.Bool.{false}
use mathlib.Core.List.{List}
use Prim.Native.Nat.{ℕ}
use lib.Dec.{eqb, ltb}
use lib.ListN.{length, replicate}
use borrow.Author.Tests.{eqb-true, ltb-false}
use Rattle.rules.specs.Tapes.{read_tape}
use Rattle.rules.specs.Drawings as D
use Rattle.rules.specs.Pictures.{picture, picture_size}
use Rattle.rules.proofs.Tests.{last_off}
use Rattle.rules.proofs.Lines.{each_line}
use Rattle.table_rules.specs.Tables.{table_length, begun, rectangle_ok, table_ok, Shared, turn, laid, begin_lines}
use Rattle.table_rules.specs.Tables.{draw_lines}
use Rattle.table_rules.proofs.TableLines.{off}
use Rattle.picture.specs.declared.grid.Grid.{Grid}
use Rattle.rectangle.specs.Rectangles.{rectangle_in}
use Rattle.rectangle.specs.declared.Rectangle.{Rectangle}
use Rattle.answers.specs.declared.Answer.{Answer}
use Rattle.answers.specs.Says.{checked_by}
use Rattle.answers.proofs.Ends.{answer, as_it_came, overwritten, no_line, some_line, refused_by, done_by_lem, uncounted}
use Rattle.answers.proofs.Ends.{tape_place}
use Rattle.verdict_drawing.specs.Rectangles.{ForRectangle, RectangleDrawn}
use Rattle.promises.specs.Tables.{table_grid, BeginSays, DrawSays}

-- Beginning: it counts nothing, so that what its checks come to is its answer, refused or done.
module _ (s : List ℕ) (d : Grid) (b : List ℕ) {r : Answer}
    (e : r ≡ checked_by (begin_lines s (table_grid d) (length b)) s) where
  abbrev lines : List ℕ
  lines = begin_lines s (table_grid d) (length b)

  pub begin_refused : (r.number ≡ 0 → ⊥) → BeginSays s d b b r
  begin_refused h =
      record {
        answer = refused_by s lines refl e h;
        table = as_it_came lines (begun s (table_grid d)) b (some_line lines s e h);
      }

  pub begin_read : r.number ≡ 0 → (read_tape s).number ≡ 0
  begin_read z = each_line lines (no_line lines s e z) 0

  pub begin_size : r.number ≡ 0 → length b ≡ table_length
  begin_size z =
      eqb-true (length b) table_length (off (eqb (length b) table_length) 23 (each_line lines (no_line lines s e z) 2))

  pub begin_done : r.number ≡ 0 → {b' : List ℕ} → b' ≡ begun s (table_grid d) → BeginSays s d b b' r
  begin_done z h =
      record {
        answer = uncounted e refl (tape_place s lines refl);
        table = overwritten lines b (no_line lines s e z) h;
      }

-- Drawing.
module _ (s : List ℕ) (d : Grid) (q : Rectangle) (b o w : List ℕ) {r : Answer}
    (e : r ≡ checked_by (draw_lines s (table_grid d) (rectangle_in q) b (length o) (length w)) s) where
  abbrev all : List ℕ
  all = draw_lines s (table_grid d) (rectangle_in q) b (length o) (length w)

  abbrev made : Shared
  made = turn (read_tape s).tape (table_grid d) (rectangle_in q) b

  abbrev pixels : List ℕ
  pixels = laid (table_grid d) (rectangle_in q) (picture false (table_grid d) made.drawing.heights) o

  pub draw_refused : (r.number ≡ 0 → ⊥) → DrawSays s d q b b o o w w r
  draw_refused h =
      let k = some_line all s e h in
      record {
        answer = refused_by s all refl e h;
        table = as_it_came all made.table b k;
        pixels = as_it_came all pixels o k;
        work = as_it_came all (replicate (length w) 0) w k;
      }

  pub draw_asked : r.number ≡ 0
      → ForRectangle s (table_grid d) (rectangle_in q) b (length o) (length w)
  draw_asked z =
      let line = each_line all (no_line all s e z) in
      let g = table_grid d in
      let n = picture_size false g in
      record {
        read = line 0;
        rectangle = off (rectangle_ok g (rectangle_in q)) 9 (line 1);
        grid = line 2;
        table = off (table_ok s g b) 23 (line 3);
        size = eqb-true (length o) n (off (eqb (length o) n) 11 (line 4));
        work = ltb-false (length w) D.work_limit (last_off (ltb (length w) D.work_limit) 12 (line 5));
      }

  pub draw_done : r.number ≡ 0 → {b' o' w' : List ℕ} {k : ℕ} {a : Answer} → a ≡ answer 0 0 k
      → RectangleDrawn s (table_grid d) (rectangle_in q) b b' o o' k → w' ≡ replicate (length w) 0
      → DrawSays s d q b b' o o' w w' a
  draw_done z i v u =
      let y = no_line all s e z in
      record {
        answer = done_by_lem all i y v.count;
        table = overwritten all b y v.table;
        pixels = overwritten all o y v.pixels;
        work = overwritten all w y u;
      }
