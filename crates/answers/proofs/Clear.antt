-- What the checks leave of a drawing that none of them refuses.
use mathlib.Core.Path.{◌≡◌, refl}
use mathlib.Core.Bool.{Bool, true, false, not}
use mathlib.Core.List.{List}
use Prim.Native.Nat.{ℕ, suc, ◌*◌}
use native.Mathlib.Omega.{arith}
use lib.Dec.{eqb, ltb}
use borrow.Author.Tests.{eqb-true, ltb-false}
use Rattle.rules.specs.Values.{when}
use Rattle.rules.specs.Drawings as D
use Rattle.rules.specs.Pictures.{picture_size}
use Rattle.rules.proofs.Tests.{last_off}
use Rattle.rules.proofs.Lines.{each_line}
use Rattle.answers.specs.Lines.{draw_lines, tile_lines, slope_lines, draw_fault, tile_fault, slopes_fault}
use Rattle.answers.specs.Lines.{Draws, DrawsByTiles, DrawsSlopes}

when_zero : (t : Bool) (n : ℕ) → when (not t) (suc n) ≡ 0 → t ≡ true
when_zero true n e = refl
when_zero false n e = absurd (omega arith)

module _ (t : Bool) (s : List ℕ) (g : D.Grid) (n : ℕ) where
  pub draws : draw_fault t s g n ≡ 0 → Draws t s g n
  draws e =
      let z = each_line (draw_lines t s g n) e in
      record {
        read = z 0;
        grid = z 1;
        size = eqb-true n (picture_size t g) (when_zero (eqb n (picture_size t g)) 11 (z 2));
      }

-- And of a drawing by tiles, m the work buffer's length.
pub tiles_clear : (t : Bool) (s : List ℕ) (g : D.Grid) (n m : ℕ) → tile_fault t s g n m ≡ 0 → DrawsByTiles t s g n m
tiles_clear t s g n m e =
    let z = each_line (tile_lines t s g n m) e in
    record {
      drawing = draws t s g n (rw (z 0, z 1, z 2));
      work = ltb-false m D.work_limit (last_off (ltb m D.work_limit) 12 (z 3));
    }

-- And of one with slopes, m their length and k the work buffer's.
pub slopes_clear : (s : List ℕ) (g : D.Grid) (n m k : ℕ) → slopes_fault s g n m k ≡ 0 → DrawsSlopes s g n m k
slopes_clear s g n m k e =
    let z = each_line (slope_lines s g n m k) e in
    let a = 3 * (g.width * g.height) in
    record {
      tiles = record {
        drawing = draws true s g n (rw (z 0, z 1, z 2));
        work = ltb-false k D.work_limit (last_off (ltb k D.work_limit) 12 (z 4));
      };
      slopes = eqb-true m a (when_zero (eqb m a) 11 (z 3));
    }
