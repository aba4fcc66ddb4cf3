-- The two ends of a drawing call, flat or solid: refused with all as it came, or done.
use mathlib.Core.Path.{◌≡◌, refl}
use mathlib.Core.Bool.{Bool}
use mathlib.Core.List.{List}
use Prim.Native.Nat.{ℕ}
use lib.ListN.{length, replicate}
use Rattle.rules.specs.Tapes.{read_tape}
use Rattle.rules.specs.Drawings as D
use Rattle.rules.specs.Pictures.{picture}
use Rattle.picture.specs.Shapes.{grid_in}
use Rattle.picture.specs.declared.grid.Grid.{Grid}
use Rattle.answers.specs.declared.Answer.{Answer}
use Rattle.answers.specs.Lines.{draw_lines, tile_lines, Draws, DrawsByTiles}
use Rattle.answers.specs.Says.{checked_by}
use Rattle.answers.proofs.Ends.{answer, as_it_came, overwritten, no_line, some_line, refused_by, done_by_lem}
use Rattle.answers.proofs.Clear as Clear
use Rattle.promises.specs.Says.{FullSays, TilesSay}
use Rattle.drawings.specs.Drawn.{FullOf, TilesOf}

-- The full drawing.
module _ (t : Bool) (s : List ℕ) (d : Grid) (o : List ℕ) {r : Answer}
    (e : r ≡ checked_by (draw_lines t s (grid_in d t) (length o)) s) where
  abbrev lines : List ℕ
  lines = draw_lines t s (grid_in d t) (length o)

  pub full_refused : (r.number ≡ 0 → ⊥) → FullSays t s d o o r
  full_refused h =
      record {
        answer = refused_by s lines refl e h;
        pixels = as_it_came lines (picture t (grid_in d t) (D.drawn (read_tape s).tape (grid_in d t))) o
            (some_line lines s e h);
      }

  pub full_draws : r.number ≡ 0 → Draws t s (grid_in d t) (length o)
  full_draws z = Clear.draws t s (grid_in d t) (length o) (no_line lines s e z)

  pub full_done : r.number ≡ 0 → {o' : List ℕ} {k : ℕ} {a : Answer} → a ≡ answer 0 0 k → FullOf t s (grid_in d t) o' k
      → FullSays t s d o o' a
  full_done z i v =
      record {
        answer = done_by_lem lines i (no_line lines s e z) v.count;
        pixels = overwritten lines o (no_line lines s e z) v.pixels;
      }

-- The drawing by tiles.
module _ (t : Bool) (s : List ℕ) (d : Grid) (o w : List ℕ) {r : Answer}
    (e : r ≡ checked_by (tile_lines t s (grid_in d t) (length o) (length w)) s) where
  abbrev all : List ℕ
  all = tile_lines t s (grid_in d t) (length o) (length w)

  pub tiles_refused : (r.number ≡ 0 → ⊥) → TilesSay t s d o o w w r
  tiles_refused h =
      let g = grid_in d t in
      let k = some_line all s e h in
      record {
        answer = refused_by s all refl e h;
        pixels = as_it_came all (picture t g (D.walked (read_tape s).tape g).heights) o k;
        work = as_it_came all (replicate (length w) 0) w k;
      }

  pub tiles_draw : r.number ≡ 0 → DrawsByTiles t s (grid_in d t) (length o) (length w)
  tiles_draw z = Clear.tiles_clear t s (grid_in d t) (length o) (length w) (no_line all s e z)

  pub tiles_done : r.number ≡ 0 → {o' w' : List ℕ} {k : ℕ} {a : Answer} → a ≡ answer 0 0 k
      → TilesOf t s (grid_in d t) o' k → w' ≡ replicate (length w) 0 → TilesSay t s d o o' w w' a
  tiles_done z i v u =
      let y = no_line all s e z in
      record {
        answer = done_by_lem all i y v.count;
        pixels = overwritten all o y v.pixels;
        work = overwritten all w y u;
      }
