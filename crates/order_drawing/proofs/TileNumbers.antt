-- "numbered from 0 as the walk meets them": the 64-tile with a number, and how many there are, in closed form.
use mathlib.Core.Path.{◌≡◌, refl, sym, ap, ◌∙◌}
use mathlib.Core.Bool.{true}
use Prim.Native.Nat.{ℕ, ◌+◌, ◌-◌, ◌*◌, ◌/◌, ◌%◌, ◌<◌}
use native.Mathlib.Nat.{zero-add}
use native.Mathlib.Omega.{arith}
use lib.ListN.{length, get_or}
use Rattle.rules.specs.Drawings.{region, whole, grid_fault}
use Rattle.order_rules.specs.Orders.{tiles, tile_count, across, tile_at}
use Rattle.picture.specs.Shapes.{grid_in}
use Rattle.picture.specs.declared.grid.Grid.{Grid}
use Rattle.walk.specs.Cells.{CellOf}
use Rattle.walk.specs.Children.{parts_in, children_in}
use Rattle.walk.specs.declared.cell.Cell.{Cell}
use Rattle.walk.proofs.Along.{lesser_first}
use Rattle.walk.proofs.CellLaws.{small, first_in_lem, ends}
use Rattle.walk.proofs.ChildLaws.{child_length, spot}
use Rattle.solid_tiles.proofs.WalkLaws.{tiles_in_lem}
use Rattle.order_drawing.proofs.OrderWalk.{parent, number_is}

module _ (grid : Grid) (e : grid_fault true (grid_in grid true) ≡ 0) where
  abbrev all : Cell
  all =
      record {
        x = 0;
        xend = grid.width;
        y = 0;
        yend = grid.height;
        z = 0;
        zend = grid.depth;
        side = 512;
      }

  all_cell : CellOf grid.depth grid whole all
  all_cell =
      let s = small true grid e in
      let f = first_in_lem true grid e in
      record {
        ok = record {
          xs = ends grid.width 0 512 grid.width (sym (lesser_first grid.width 512 s.width)) f.x_in
              (omega arith);
          ys = ends grid.height 0 512 grid.height (sym (lesser_first grid.height 512 s.height)) f.y_in
              (omega arith);
          zs = ends grid.depth 0 512 grid.depth (sym (lesser_first grid.depth 512 s.depth)) f.z_in
              (omega arith);
        };
        same = refl;
      }

  parts : (w : ℕ) → parts_in 0 w 64 ≡ across w
  parts w = ap (λ v. v / 64) (omega arith)

  pub tile_count_lem : tile_count (grid_in grid true)
      ≡ across grid.depth * (across grid.height * across grid.width)
  tile_count_lem =
      ap length (tiles_in_lem all_cell e)
      ∙ child_length (parent all_cell e)
      ∙ rw (parts grid.width, parts grid.height, parts grid.depth)

  from_zero : (a b c : ℕ) → region (0 + a) (0 + b) (0 + c) 64 ≡ region a b c 64
  from_zero a b c = rw (zero-add a, zero-add b, zero-add c)

  pub tile_numbered_lem : (m : ℕ) → m < tile_count (grid_in grid true)
      → get_or (tiles (grid_in grid true)) m whole ≡ tile_at (grid_in grid true) m
  unfolding tile_at
  tile_numbered_lem m h =
      let l : m < length (children_in all 64) = omega (arith, ap length (tiles_in_lem all_cell e)) in
      let nx = across grid.width in
      let ny = across grid.height in
      let nz = across grid.depth in
      let at = spot (parent all_cell e) m (sym (parts grid.width)) (sym (parts grid.height))
      (sym (parts grid.depth)) l in
      ap (λ qs. get_or qs m whole) (tiles_in_lem all_cell e)
      ∙ number_is (children_in all 64) m l at.next
      ∙ from_zero (m % nx * 64) (m / nx % ny * 64) ((nz - 1 - m / nx / ny) * 64)
