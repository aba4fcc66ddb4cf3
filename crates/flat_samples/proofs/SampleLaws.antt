-- A sample of a flat grid, from what the calls answer for each axis.
use mathlib.Core.Path.{◌≡◌, sym, subst, ◌∙◌}
use mathlib.Core.Bool.{false}
use Prim.Native.Nat.{ℕ, ◌^◌, ◌<◌}
use lib.IntN.{ℤ}
use lib.Signed.{mag}
use mir.Syntax.{w32}
use mir.Val.{SFits}
use Rattle.rules.specs.Values.{IsValue, Sample}
use Rattle.rules.specs.Drawings.{at, sample_at, grid_fault}
use Rattle.rules.proofs.Words.{read, back}
use Rattle.code.specs.Runs.{SampleOk}
use Rattle.picture.specs.Shapes.{grid_in}
use Rattle.picture.specs.declared.grid.Grid.{Grid}
use Rattle.picture.proofs.Grids.{accepted}
use Rattle.picture.proofs.GridWords.{at_read}
use Rattle.walk.specs.Cells.{InGrid}

-- What a call for one sample asks, and what its answer is.
pub axis_asked : (o s : ℤ) (i : ℕ) → SFits w32 o → SFits w32 s → IsValue (at o s i)
    → IsValue (at (read w32 o) (read w32 s) i)
axis_asked o s i fo fs v = rw (at_read o s i fo fs) v

pub axis_answer : (o s : ℤ) (i : ℕ) (r : ℤ) → SFits w32 o → SFits w32 s → mag r < 2 ^ 31
    → r ≡ at (read w32 o) (read w32 s) i → read w32 r ≡ at o s i
axis_answer o s i r fo fs h e = back w32 r h (e ∙ at_read o s i fo fs)

module _ (grid : Grid) (x y : ℕ) {a b c : ℤ} (ea : a ≡ at grid.xorigin grid.xstep x)
    (eb : b ≡ at grid.yorigin grid.ystep y) (ec : c ≡ grid.zorigin) where
  pub sample_is : ◌≡◌ {A = Sample} (record { x = a; y = b; z = c }) (sample_at (grid_in grid false) x y 0)
  unfolding sample_at
  sample_is = rw (ea, eb, ec)

  pub sample_ok_lem : grid_fault false (grid_in grid false) ≡ 0 → InGrid 1 grid x y 0
      → SampleOk (record { x = a; y = b; z = c })
  sample_ok_lem e i =
      let t = accepted grid false e in
      record {
        x = subst IsValue (sym ea) (t.x_value x i.x_in);
        y = subst IsValue (sym eb) (t.y_value y i.y_in);
        z = subst IsValue (sym ec) t.flat_z;
      }
