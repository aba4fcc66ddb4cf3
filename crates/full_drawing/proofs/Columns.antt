-- A column of samples, from the least z up: one turn of the loop over it.
use mathlib.Core.Path.{◌≡◌, refl, sym, ap, ◌∙◌}
use mathlib.Core.Bool.{true, false}
use mathlib.Core.List.{List}
use Prim.Native.Nat.{ℕ, suc, ◌+◌, ◌≤◌, ◌<◌}
use native.Mathlib.Numerals.{add-one}
use native.Mathlib.Omega.{arith}
use Rattle.rules.specs.Values.{pick}
use Rattle.rules.specs.Tapes.{Tape, material}
use Rattle.rules.specs.Drawings as D
use Rattle.rules.specs.Drawings.{at, solid, layers, sample_at, column_from}
use Rattle.rules.specs.Accepted.{Accepted}
use Rattle.code.specs.Words.{tape_in}
use Rattle.code.specs.Runs.{SampleOk}
use Rattle.picture.specs.Shapes.{grid_in}
use Rattle.picture.specs.declared.grid.Grid.{Grid}
use Rattle.picture.proofs.Grids.{Accepted as AcceptedGrid}
use Rattle.full_drawing.specs.Full.{sample_in, Says, Height}

-- The column's two equations.
pub column_found : (k : ℕ) (t : Tape) (g : D.Grid) (i j : ℕ) → true ≡ material t (sample_at g i j k)
    → column_from (suc k) t g i j ≡ suc k
unfolding column_from
column_found k t g i j e = rw (sym e, column_from)

pub column_passed : (k : ℕ) (t : Tape) (g : D.Grid) (i j : ℕ) → false ≡ material t (sample_at g i j k)
    → column_from (suc k) t g i j ≡ column_from k t g i j
unfolding column_from
column_passed k t g i j e = rw (sym e, column_from)

pub column_none : (t : Tape) (g : D.Grid) (i j : ℕ) → column_from 0 t g i j ≡ 0
unfolding column_from
column_none t g i j = refl

-- Before layer k: the layers below k alone give the height h.
pub record Climbed (ws : List ℕ) (g : D.Grid) (i j k h : ℕ) : Type 0 where
  pub below : k ≤ layers g
  pub same : (n : ℕ) → Accepted (tape_in n ws) → h ≡ column_from k (tape_in n ws) g i j

module _ {ws : List ℕ} {g : D.Grid} {i j : ℕ} where
  pub start_climb : Climbed ws g i j 0 0
  start_climb = record { below = omega arith; same = λ n f. sym (column_none (tape_in n ws) g i j) }

  pub next_found : (k : ℕ) → k < layers g → Says ws (sample_at g i j k) true → Climbed ws g i j (k + 1) (k + 1)
  next_found k l s =
      record {
        below = omega arith;
        same = λ n f. rw (add-one k) (sym (column_found k (tape_in n ws) g i j (s.material n f)));
      }

  pub next_passed : (k h : ℕ) → k < layers g → Climbed ws g i j k h → Says ws (sample_at g i j k) false
      → Climbed ws g i j (k + 1) h
  next_passed k h l c s =
      record {
        below = omega arith;
        same = λ n f. rw (add-one k) (c.same n f ∙ sym (column_passed k (tape_in n ws) g i j (s.material n f)));
      }

  pub climbed : (k h : ℕ) → layers g ≤ k → Climbed ws g i j k h → Height ws g i j h
  climbed k h l c =
      let e : k ≡ layers g = omega arith in
      record { height = λ n f. c.same n f ∙ ap (λ m. column_from m (tape_in n ws) g i j) e }

-- A solid grid's layers and samples, as the code has them; its samples are values.
module _ (grid : Grid) (a : AcceptedGrid grid true) where
  pub solid_layers : grid.depth ≡ layers (grid_in grid true)
  solid_layers = ap (λ t. pick t grid.depth 1) a.kind

  pub solid_sample : (i j k : ℕ)
      → sample_in grid i j (at grid.zorigin grid.zstep k) ≡ sample_at (grid_in grid true) i j k
  unfolding sample_at
  solid_sample i j k =
      ap (λ t. sample_in grid i j (pick t (at grid.zorigin grid.zstep k) grid.zorigin)) a.kind

  pub solid_ok : (i j k : ℕ) → i < grid.width → j < grid.height → k < grid.depth
      → SampleOk (sample_in grid i j (at grid.zorigin grid.zstep k))
  solid_ok i j k l m o = record { x = a.x_value i l; y = a.y_value j m; z = a.z_value refl k o }
