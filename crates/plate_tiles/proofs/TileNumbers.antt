-- Tiles by their number: in the grid, few, and each byte in the one of its number.
use mathlib.Core.Path.{◌≡◌, sym, ap, ap₂, ◌∙◌}
use mathlib.Core.Bool.{false}
use mathlib.Core.List.{List}
use Prim.Native.Nat.{ℕ, ◌+◌, ◌*◌, ◌/◌, ◌%◌, ◌<◌, ◌≤◌}
use native.Mathlib.Nat.{div-add-mod', mod-lt, div-lt_iff_lt-mul, mul-le-mul}
use native.Mathlib.Omega.{arith}
use lib.Arith.{digits_lt, digits_div, digits_mod}
use Rattle.rules.specs.Drawings.{Region, region}
use Rattle.rules.specs.Pictures.{stride}
use Rattle.rules.proofs.Regions.{lesser_both}
use Rattle.picture.specs.Bits.{Within}
use Rattle.picture.specs.Parts.{ByteIn}
use Rattle.picture.specs.declared.grid.Grid.{Grid}
use Rattle.picture.proofs.BitShows.{rows_in}
use Rattle.picture.proofs.Grids.{Size, accepted}
use Rattle.walk.specs.Cells.{Ready, ForCell}
use Rattle.walk.specs.declared.cell.Cell.{Cell}
use Rattle.walk.proofs.CellLaws.{small}
use Rattle.plate_rules.specs.Plate.{tile_of}
use Rattle.plate_tiles.specs.Tiles.{Sized, across, tile_count, tile_limit, tile_numbered, number_of, IsTile, ForPatch}

module _ {grid : Grid} (s : Sized grid) where
  pub wide : Size grid.width
  wide = (accepted grid false s.fault).sizes.width

  pub high : Size grid.height
  high = (accepted grid false s.fault).sizes.height

  pub some_tile : 0 < across grid
  some_tile = omega (arith, wide.least)

  pub few_tiles : tile_count grid ≤ tile_limit
  few_tiles =
      let a : across grid ≤ 8 = omega (arith, wide.most) in
      let b : (grid.height + 63) / 64 ≤ 8 = omega (arith, high.most) in
      mul-le-mul b a

  -- Where a tile begins.
  module _ (m : ℕ) (l : m < tile_count grid) where
    pub begins_x : 64 * (m % across grid) < grid.width
    begins_x = let h = mod-lt m some_tile in omega (arith, h)

    pub begins_y : 64 * (m / across grid) < grid.height
    begins_y =
        let h : m / across grid < (grid.height + 63) / 64 = (div-lt_iff_lt-mul some_tile).1 l in
        omega (arith, h)

    pub for_cell : ForCell 1 grid (64 * (m % across grid)) (64 * (m / across grid)) 0 64
    for_cell =
        record {
          small = small false grid s.fault;
          place = record { x_in = begins_x; y_in = begins_y; z_in = omega arith };
          some = omega arith;
          few = omega arith;
        }

  -- The tile of a byte.
  module _ (y c : ℕ) (l : y < grid.height) (o : c < stride grid.width) where
    column : c / 8 < across grid
    column = omega arith

    row : y / 64 < (grid.height + 63) / 64
    row = omega arith

    pub number_below : number_of grid y c < tile_count grid
    number_below =
        digits_lt {q = y / 64} {m = (grid.height + 63) / 64} {r = c / 8} {c = across grid} row column

    pub numbered_tile : tile_numbered grid (number_of grid y c) ≡ tile_of y c
    numbered_tile =
        ap₂ (λ a b. region (64 * a) (64 * b) 0 64) (digits_mod (y / 64) column) (digits_div (y / 64) column)

    -- It is a byte of the cell of that number, and of no other.
    module _ {m : ℕ} {k : Cell} (t : IsTile grid m k) where
      at_x : k.x ≡ 64 * (m % across grid)
      at_x = ap (λ (q : Region). q.i) t.cell.same

      at_y : k.y ≡ 64 * (m / across grid)
      at_y = ap (λ (q : Region). q.j) t.cell.same

      side : k.side ≡ 64
      side = ap (λ (q : Region). q.long) t.cell.same

      pub in_tile : number_of grid y c ≡ m → ByteIn k.x k.xend k.y k.yend y c
      in_tile e =
          let a : m % across grid ≡ c / 8 = ap (λ i. i % across grid) (sym e) ∙ digits_mod (y / 64) column in
          let b : m / across grid ≡ y / 64 = ap (λ i. i / across grid) (sym e) ∙ digits_div (y / 64) column in
          let u = lesser_both (8 * c) grid.width (k.x + k.side) (omega arith) (omega (arith, at_x, a, side)) in
          let v = lesser_both y grid.height (k.y + k.side) l (omega (arith, at_y, b, side)) in
          record {
            from_row = omega (arith, at_y, b);
            to_row = omega (arith, v, t.cell.ok.ys.least);
            from_pixel = omega (arith, at_x, a);
            to_pixel = omega (arith, u, t.cell.ok.xs.least);
          }

      pub of_tile : ByteIn k.x (k.x + 64) k.y (k.y + 64) y c → number_of grid y c ≡ m
      of_tile i =
          let a : c / 8 ≡ m % across grid = omega (arith, at_x, i.from_pixel, i.to_pixel) in
          let b : y / 64 ≡ m / across grid = omega (arith, at_y, i.from_row, i.to_row) in
          ap₂ (λ u v. u * across grid + v) b a ∙ div-add-mod' m (across grid)

      pub of_cell : ByteIn k.x k.xend k.y k.yend y c → number_of grid y c ≡ m
      of_cell i =
          of_tile
          (record {
            from_row = i.from_row;
            to_row = omega (arith, i.to_row, t.cell.ok.ys.in_side, side);
            from_pixel = i.from_pixel;
            to_pixel = omega (arith, i.to_pixel, t.cell.ok.xs.in_side, side);
          })

-- A tile begins with a byte.
pub tile_even : {grid : Grid} {m : ℕ} {k : Cell} → IsTile grid m k → k.x % 8 ≡ 0
tile_even {grid} {m} t =
    let e : _ ≡ 64 * (m % across grid) = ap (λ (q : Region). q.i) t.cell.same in
    omega (arith, e)

pub tile_side : {grid : Grid} {m : ℕ} {k : Cell} → IsTile grid m k → k.side ≡ 64
tile_side t = ap (λ (q : Region). q.long) t.cell.same

-- What is asked of a part of the picture.
pub tile_patch : {grid : Grid} {m : ℕ} {k : Cell} {b : List ℕ} → Ready false grid b → IsTile grid m k → ForPatch grid k b
tile_patch r t = record { ready = r; ok = t.cell.ok; start = tile_even t }

pub to_patch : {grid : Grid} {k : Cell} {b : List ℕ} → ForPatch grid k b
    → Within grid.width k.x k.xend k.yend b × (k.y ≤ k.yend)
to_patch {grid} {k} {b} p = (
  record {
    narrow = (accepted grid false p.ready.fault).sizes.width.most;
    start = p.start;
    some = p.ok.xs.some;
    columns = p.ok.xs.in_grid;
    rows = rows_in grid.width grid.height k.yend b p.ready.size p.ok.ys.in_grid;
  },
  omega (arith, p.ok.ys.some),
)
