-- The two ends of the call that draws with slopes: refused with all as it came, or done.
use mathlib.Core.Path.{◌≡◌, refl}
use mathlib.Core.Bool.{true}
use mathlib.Core.List.{List}
use Prim.Native.Nat.{ℕ}
use lib.IntN.{ℤ}
use lib.ListN.{length, replicate}
use Rattle.rules.specs.Tapes.{read_tape}
use Rattle.rules.specs.Drawings as D
use Rattle.rules.specs.Pictures.{picture}
use Rattle.rules.specs.Slopes.{slopes_of}
use Rattle.picture.specs.Shapes.{grid_in}
use Rattle.picture.specs.declared.grid.Grid.{Grid}
use Rattle.answers.specs.declared.Answer.{Answer}
use Rattle.answers.specs.Lines.{slope_lines, DrawsSlopes}
use Rattle.answers.specs.Says.{checked_by}
use Rattle.answers.proofs.Ends.{answer, as_it_came, overwritten, no_line, some_line, refused_by, done_by_lem}
use Rattle.answers.proofs.Clear as Clear
use Rattle.promises.specs.Says.{SlopesSay}
use Rattle.slope_drawing.specs.Sloped.{SlopesOf}

module _ (s : List ℕ) (d : Grid) (o : List ℕ) (p : List ℤ) (w : List ℕ) {r : Answer}
    (e : r ≡ checked_by (slope_lines s (grid_in d true) (length o) (length p) (length w)) s) where
  abbrev lines : List ℕ
  lines = slope_lines s (grid_in d true) (length o) (length p) (length w)

  pub slopes_refused : (r.number ≡ 0 → ⊥) → SlopesSay s d o o p p w w r
  slopes_refused h =
      let g = grid_in d true in
      let t = (read_tape s).tape in
      let k = some_line lines s e h in
      record {
        answer = refused_by s lines refl e h;
        pixels = as_it_came lines (picture true g (D.walked t g).heights) o k;
        slopes = as_it_came lines (slopes_of t g (D.walked t g).heights) p k;
        work = as_it_came lines (replicate (length w) 0) w k;
      }

  pub slopes_draw : r.number ≡ 0 → DrawsSlopes s (grid_in d true) (length o) (length p) (length w)
  slopes_draw z = Clear.slopes_clear s (grid_in d true) (length o) (length p) (length w) (no_line lines s e z)

  pub slopes_done : r.number ≡ 0 → {o' : List ℕ} {p' : List ℤ} {w' : List ℕ} {k : ℕ} {a : Answer} → a ≡ answer 0 0 k
      → SlopesOf s (grid_in d true) o' p' k → w' ≡ replicate (length w) 0 → SlopesSay s d o o' p p' w w' a
  slopes_done z i v u =
      let y = no_line lines s e z in
      record {
        answer = done_by_lem lines i y v.tiles.count;
        pixels = overwritten lines o y v.tiles.pixels;
        slopes = overwritten lines p y v.slopes;
        work = overwritten lines w y u;
      }
