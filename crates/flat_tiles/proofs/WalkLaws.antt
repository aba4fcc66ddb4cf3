-- The whole drawing: all tiles, from a blank picture; and what is lent, from one call to the next.
use mathlib.Core.Path.{◌≡◌, sym, ap, ◌∙◌}
use mathlib.Core.Bool.{false}
use mathlib.Core.List.{List}
use Prim.Native.Nat.{ℕ, ◌*◌, ◌<◌}
use native.Mathlib.Omega.{arith}
use lib.ListN.{length, get_or, replicate}
use Rattle.rules.specs.Drawings.{Region, children, whole, grid_fault}
use Rattle.rules.specs.Pictures.{stride, picture}
use Rattle.picture.specs.Shapes.{grid_in}
use Rattle.picture.specs.declared.grid.Grid.{Grid}
use Rattle.picture.proofs.BitShows.{blank_shows, shows_packed}
use Rattle.walk.specs.Cells.{CellOf}
use Rattle.walk.specs.Children.{children_in}
use Rattle.walk.specs.Walks.{Shown, Folds, Walked}
use Rattle.walk.specs.declared.cell.Cell.{Cell}
use Rattle.walk.proofs.ChildLaws.{children_in_lem}
use Rattle.walk.proofs.Places.{ready_again}
use Rattle.walk.proofs.WalkLaws.{walk_shown}
use Rattle.flat_eights.specs.Sides.{below64}
use Rattle.flat_tiles.specs.Rects.{Lent}

pub lent_again : {whole : List ℕ} {grid : Grid} {b b' work work' first first' second second' : List ℕ}
    → Lent whole grid b work first second → length b' ≡ length b → length work' ≡ length work
    → length first' ≡ length first → length second' ≡ length second → Lent whole grid b' work' first' second'
lent_again l b w f s =
    record {
      level = l.level;
      ready = ready_again l.ready b;
      marks = omega (arith, l.marks);
      words_first = omega (arith, l.words_first);
      words_second = omega (arith, l.words_second);
    }

module _ {ws : List ℕ} {grid : Grid} {cell : Cell} (k : CellOf 1 grid whole cell)
    (e : grid_fault false (grid_in grid false) ≡ 0) {most c : ℕ} {b b' : List ℕ}
    (f : Folds false most ws grid below64 (children_in cell 64) b b' c)
    (h : b ≡ replicate (grid.height * stride grid.width) 0) where
  tiles : children (grid_in grid false) whole 64 ≡ children_in cell 64
  tiles =
      ap (λ r. children (grid_in grid false) r 64) (sym k.same)
      ∙ children_in_lem false grid cell 64 8 (omega arith) (omega arith) (ap (λ (q : Region). q.long) k.same) e k.ok

  blank : Shown false grid b (replicate (grid.width * grid.height) 0)
  blank = rw h (blank_shows grid.width grid.height)

  pub folds_walked : ((j : ℕ) → get_or b' j 0 < 256) → Walked false ws grid b' c
  unfolding picture
  folds_walked bytes =
      record {
        pixels = λ m a. shows_packed grid.width grid.height b' _ bytes (walk_shown false e tiles f blank m a).0;
        count = λ m a. sym (walk_shown false e tiles f blank m a).1;
      }
