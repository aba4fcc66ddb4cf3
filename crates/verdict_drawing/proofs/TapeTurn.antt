-- The words of the tape, with a table that passes: what they draw, the tape draws.
use mathlib.Core.Path.{◌≡◌, sym, ap, subst, ◌∙◌}
use mathlib.Core.Bool.{false, true}
use mathlib.Core.List.{List}
use Prim.Native.Nat.{ℕ, ◌<◌}
use native.Mathlib.Omega.{arith}
use lib.Dec.{eqb}
use lib.ListN.{length, take}
use borrow.Author.Tests.{eqb-true}
use Rattle.rules.specs.Tapes.{Tape, read_tape, clause_limit}
use Rattle.rules.specs.Drawings as D
use Rattle.rules.specs.Pictures.{picture, picture_size}
use Rattle.rules.proofs.Tests.{and_left, and_right}
use Rattle.code.specs.Unpacking.{Unpacked}
use Rattle.picture.specs.Shapes.{grid_in}
use Rattle.picture.specs.declared.grid.Grid.{Grid}
use Rattle.answers.specs.Lines.{Draws}
use Rattle.drawings.proofs.TapeWords.{words_few, words_accepted, words_tape, whole_level}
use Rattle.rectangle.specs.Rectangles.{rectangle_in}
use Rattle.rectangle.specs.declared.Rectangle as P
use Rattle.table_rules.specs.Tables.{Rectangle, tile_limit, table_length, head_length, table_head, same_bytes, entry_in, entry_ok}
use Rattle.table_rules.specs.Tables.{table_ok, turn, laid}
use Rattle.verdict_tiles.specs.Shares.{Passed}
use Rattle.verdict_drawing.specs.Rects.{ForTurn, LaidOver}
use Rattle.verdict_drawing.specs.Rectangles.{ForRectangle, RectangleDrawn}
use Rattle.verdict_drawing.proofs.Laying.{each_entry}

pub as_drawing : {s : List ℕ} {g : D.Grid} {q : Rectangle} {b : List ℕ} {n m : ℕ} → ForRectangle s g q b n m
    → Draws false s g n
as_drawing f = record { read = f.read; grid = f.grid; size = f.size }

table_entries : (s : List ℕ) (g : D.Grid) (b : List ℕ) → table_ok s g b ≡ true
    → (length b ≡ table_length) × ((i : ℕ) → i < tile_limit → entry_ok (read_tape s).tape (entry_in i b) ≡ true)
unfolding table_ok
table_entries s g b e =
    let h = and_right (eqb (length b) table_length) _ e in (
      eqb-true (length b) table_length (and_left _ _ e),
      each_entry tile_limit (read_tape s).tape b (and_right (same_bytes (take head_length b) (table_head s g)) _ h),
    )

module _ {s : List ℕ} (grid : Grid) {q : P.Rectangle} {b : List ℕ} {n m : ℕ}
    (f : ForRectangle s (grid_in grid false) (rectangle_in q) b n m) {ws ws' : List ℕ} {k : ℕ} (o : Unpacked s ws ws' k)
    (l : length ws' ≡ clause_limit) where
  words_passed : Passed (read_tape s).tape.slots (take k ws') b
  words_passed =
      let t = table_entries s (grid_in grid false) b f.table in
      record {
        accepted = words_accepted (as_drawing f) o l;
        size = t.0;
        entries = λ i h. subst (λ (x : Tape). entry_ok x (entry_in i b) ≡ true) (sym (words_tape (as_drawing f) o l)) (t.1 i h);
      }

  pub words_turn : {p work first second : List ℕ} → length p ≡ n → length work ≡ m → length first ≡ clause_limit
      → length second ≡ clause_limit → ForTurn (take k ws') grid q b p work first second
  unfolding picture_size
  words_turn hp hw h₁ h₂ =
      let few = words_few (as_drawing f) o l in
      let room = f.work in
      record {
        lent = record {
          level = whole_level (as_drawing f) o l;
          ready = record { fault = f.grid; size = hp ∙ f.size };
          marks = omega arith;
          words_first = omega arith;
          words_second = omega arith;
        };
        rectangle = f.rectangle;
        passes = record { slots = (read_tape s).tape.slots; passed = words_passed };
      }

  pub tape_drawn : {b' p p' : List ℕ} {c : ℕ} → LaidOver (take k ws') grid q b b' p p' c
      → RectangleDrawn s (grid_in grid false) (rectangle_in q) b b' p p' c
  tape_drawn {b'} {p} v =
      let g = grid_in grid false in
      let r = rectangle_in q in
      let i = (read_tape s).tape.slots in
      let e = words_tape (as_drawing f) o l in
      record {
        table = v.table_then i words_passed ∙ ap (λ x. (turn x g r b).table) e;
        pixels = v.pixels i words_passed ∙ ap (λ x. laid g r (picture false g (turn x g r b).drawing.heights) p) e;
        count = v.count i words_passed ∙ ap (λ x. (turn x g r b).drawing.clauses) e;
      }

-- The same grid by another name.
module _ {s : List ℕ} {g h : D.Grid} {q : Rectangle} {b : List ℕ} (e : g ≡ h) where
  pub same_asked : {n m : ℕ} → ForRectangle s h q b n m → ForRectangle s g q b n m
  same_asked {n} {m} f = subst (λ x. ForRectangle s x q b n m) (sym e) f

  pub same_drawn : {b' p p' : List ℕ} {c : ℕ} → RectangleDrawn s g q b b' p p' c → RectangleDrawn s h q b b' p p' c
  same_drawn {b'} {p} {p'} {c} v = subst (λ x. RectangleDrawn s x q b b' p p' c) e v
