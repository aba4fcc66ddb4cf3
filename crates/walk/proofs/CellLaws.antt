-- Cells, flat and solid: their ends, the samples of their axes, and their box.
use mathlib.Core.Path.{◌≡◌, refl, sym, ap, ◌∙◌}
use mathlib.Core.Bool.{Bool, true, false}
use mathlib.Core.List.{List}
use Prim.Native.Nat.{ℕ, ◌+◌, ◌-◌, ◌*◌, ◌≤◌, ◌<◌}
use native.Mathlib.Omega.{arith}
use lib.IntN.{ℤ}
use mir.Syntax.{w32}
use mir.Val.{SFits}
use mir.Facts.{to_z-of_z}
use Rattle.rules.specs.Values.{Range, range, Box}
use Rattle.rules.specs.Drawings.{lesser, solid, at, box_of, grid_fault, children, along_y, along_z}
use Rattle.rules.proofs.Words.{read}
use Rattle.code.specs.Runs.{EndsOk}
use Rattle.picture.specs.Shapes.{grid_in}
use Rattle.picture.specs.declared.grid.Grid.{Grid}
use Rattle.picture.proofs.Grids.{accepted}
use Rattle.walk.specs.Cells.{layers_in, Ready, Small, InGrid, Ends, CellOk, region_in, SpanIn, span_of}
use Rattle.walk.specs.Cells.{ForBounds, BoundsOf, CellBox}
use Rattle.walk.specs.declared.cell.Cell.{Cell}
use Rattle.walk.proofs.Along.{part, children_rows, children_layers}

-- What an accepted grid has: sizes within the limit, a first sample, and its kind.
module _ (isSolid : Bool) (grid : Grid) (e : grid_fault isSolid (grid_in grid isSolid) ≡ 0) where
  layers_sized : (t : Bool) → isSolid ≡ t → (1 ≤ layers_in t grid) × (layers_in t grid ≤ 512)
  layers_sized true h = let d = (accepted grid isSolid e).sizes.depth h in (d.least, d.most)
  layers_sized false h = (omega arith, omega arith)

  pub small : Small (layers_in isSolid grid) grid
  small =
      let s = (accepted grid isSolid e).sizes in
      record { width = s.width.most; height = s.height.most; depth = (layers_sized isSolid refl).1 }

  pub first_in_lem : InGrid (layers_in isSolid grid) grid 0 0 0
  first_in_lem =
      let s = (accepted grid isSolid e).sizes in
      record { x_in = s.width.least; y_in = s.height.least; z_in = (layers_sized isSolid refl).0 }

  pub kind : solid (grid_in grid isSolid) ≡ isSolid
  kind = sym (accepted grid isSolid e).kind

pub ready_small : {isSolid : Bool} {grid : Grid} {b : List ℕ} → Ready isSolid grid b
    → Small (layers_in isSolid grid) grid
ready_small {isSolid} {grid} r = small isSolid grid r.fault

pub ends : (w i n e : ℕ) → e ≡ lesser w (i + n) → i < w → 1 ≤ n → Ends w i n e
ends w i n e h l k =
    let p = part w i n l k in
    record { least = h; some = omega arith; in_grid = omega arith; in_side = omega arith }

-- A part of a cell is in the grid.
pub child_in : {layers : ℕ} {grid : Grid} {c : Cell} (x y z : ℕ) → CellOk layers grid c → x < c.xend → y < c.yend
    → z < c.zend → InGrid layers grid x y z
child_in x y z k hx hy hz = record { x_in = omega arith; y_in = omega arith; z_in = omega arith }

-- The origin and the step of an axis, handed over as words.
module _ {f s : ℤ} (hf : SFits w32 f) (hs : SFits w32 s) where
  pub span_words : {a e : ℕ} → SpanIn f s a e → SpanIn (read w32 f) (read w32 s) a e
  span_words k = rw (to_z-of_z {w = w32} {z = f} hf, to_z-of_z {w = w32} {z = s} hs) k

  pub span_read : (a e : ℕ) {r : Range} → r ≡ span_of (read w32 f) (read w32 s) a e → r ≡ span_of f s a e
  span_read a e k = rw (to_z-of_z {w = w32} {z = f} hf, to_z-of_z {w = w32} {z = s} hs) at k

-- The samples of a cell's axes are values.
module _ (isSolid : Bool) (grid : Grid) (c : Cell) (k : CellOk (layers_in isSolid grid) grid c)
    (e : grid_fault isSolid (grid_in grid isSolid) ≡ 0) where
  pub x_span : SpanIn grid.xorigin grid.xstep c.x c.xend
  x_span =
      let x = k.xs in
      record { some = x.some; values = λ i l. (accepted grid isSolid e).x_value i (omega (arith, x, l)) }

  pub y_span : SpanIn grid.yorigin grid.ystep c.y c.yend
  y_span =
      let y = k.ys in
      record { some = y.some; values = λ i l. (accepted grid isSolid e).y_value i (omega (arith, y, l)) }

pub z_span : (grid : Grid) (c : Cell) → CellOk grid.depth grid c → grid_fault true (grid_in grid true) ≡ 0
    → SpanIn grid.zorigin grid.zstep c.z c.zend
z_span grid c k e =
    let z = k.zs in
    record { some = z.some; values = λ i l. (accepted grid true e).z_value refl i (omega (arith, z, l)) }

span_ok_lem : {f s : ℤ} {a e : ℕ} {r : Range} → SpanIn f s a e → r ≡ span_of f s a e → EndsOk r
span_ok_lem {f} {s} {a} {e} k h =
    rw h (record { low = k.values a k.some; high = k.values (e - 1) (omega (arith, k.some)) })

-- A cell's box, from the ranges of its axes: each ends before the least end, and the one z of a flat grid is as given.
boxes : {a b c d f g : Range} → a ≡ b → c ≡ d → f ≡ g
    → ◌≡◌ {A = Box} (record { xs = a; ys = c; zs = f }) (record { xs = b; ys = d; zs = g })
boxes p q r = cc

span_least : (f s : ℤ) (a : ℕ) {e p : ℕ} → e ≡ p → span_of f s a e ≡ span_of f s a p
span_least f s a h = ap (λ v. range (at f s a) (at f s (v - 1))) h

pub for_bounds : (isSolid : Bool) (grid : Grid) (c : Cell) → CellOk (layers_in isSolid grid) grid c
    → grid_fault isSolid (grid_in grid isSolid) ≡ 0 → ForBounds grid c
for_bounds isSolid grid c k e = record { xs = x_span isSolid grid c k e; ys = y_span isSolid grid c k e }

module _ (grid : Grid) (c : Cell) {zs : Range} {b : Box} where
  pub solid_box : CellOk grid.depth grid c → grid_fault true (grid_in grid true) ≡ 0 → BoundsOf grid c zs b
      → zs ≡ span_of grid.zorigin grid.zstep c.z c.zend → CellBox true grid c b
  unfolding box_of
  solid_box k e o hz =
      record {
        same = rw (kind true grid e)
            (boxes
            (o.xs ∙ span_least grid.xorigin grid.xstep c.x k.xs.least)
            (o.ys ∙ span_least grid.yorigin grid.ystep c.y k.ys.least)
            (o.zs ∙ hz ∙ span_least grid.zorigin grid.zstep c.z k.zs.least));
        ok = record {
          xs = span_ok_lem (x_span true grid c k e) o.xs;
          ys = span_ok_lem (y_span true grid c k e) o.ys;
          zs = span_ok_lem (z_span grid c k e) (o.zs ∙ hz);
        };
      }

  pub flat_box : CellOk 1 grid c → grid_fault false (grid_in grid false) ≡ 0 → BoundsOf grid c zs b
      → zs ≡ range grid.zorigin grid.zorigin → CellBox false grid c b
  unfolding box_of
  flat_box k e o hz =
      let v = (accepted grid false e).flat_z in
      record {
        same = boxes
            (o.xs ∙ span_least grid.xorigin grid.xstep c.x k.xs.least)
            (o.ys ∙ span_least grid.yorigin grid.ystep c.y k.ys.least)
            (o.zs ∙ hz);
        ok = record {
          xs = span_ok_lem (x_span false grid c k e) o.xs;
          ys = span_ok_lem (y_span false grid c k e) o.ys;
          zs = rw (o.zs ∙ hz) (record { low = v; high = v });
        };
      }

-- The children of a cell, by its ends: layers of a solid, rows of a flat grid.
module _ (grid : Grid) (c : Cell) (n l : ℕ) (some : 1 ≤ n) (some_part : 1 ≤ l) (parts : c.side ≡ l * n) where
  pub cell_layers : CellOk grid.depth grid c → grid_fault true (grid_in grid true) ≡ 0
      → children (grid_in grid true) (region_in c) n
      ≡ along_z l l c.x c.y c.z n c.xend c.yend c.zend
  cell_layers k e =
      children_layers (grid_in grid true) (region_in c) n l (kind true grid e)
      (record { positive = some; parts = parts; some_part = some_part })
      ∙ rw (← k.xs.least, ← k.ys.least, ← k.zs.least)

  pub cell_rows : CellOk 1 grid c → children (grid_in grid false) (region_in c) n
      ≡ along_y l l c.x c.y 0 n c.xend c.yend
  cell_rows k =
      let z = k.zs in
      children_rows (grid_in grid false) (region_in c) n l refl
      (record { positive = some; parts = parts; some_part = some_part }) (omega arith)
      ∙ rw (← k.xs.least, ← k.ys.least)
