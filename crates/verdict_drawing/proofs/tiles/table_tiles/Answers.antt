-- Tile by tile.
use mathlib.Core.Path.{refl, sym, subst, ◌∙◌}
use mathlib.Core.Bool.{false}
use Prim.Native.Nat.{ℕ, ◌*◌, ◌≤◌, ◌<◌}
use native.Mathlib.Nat.{mul_comm, mul-le-mul_right}
use native.Mathlib.Omega.{arith}
use mathlib.Core.List.{List}
use lib.ListN.{length, get_or}
use Rattle.rules.specs.Drawings.{flat_bound}
use Rattle.picture.specs.Shapes.{grid_in}
use Rattle.walk.specs.Cells.{size_in}
use Rattle.flat_tiles.proofs.WalkLaws.{lent_again}
use Rattle.rectangle.specs.Rectangles.{rectangle_in}
use Rattle.table_rules.specs.Tables.{tiles_across, tiles_down, tiles_in}
use Rattle.table_rules.proofs.Numbers.{in_tiles, tiles_rising}
use Rattle.picture.specs.declared.grid.Grid.{Grid}
use Rattle.rectangle.specs.declared.Rectangle.{Rectangle}
use Rattle.verdict_drawing.specs.Rects.{InGrid, ForRect}
use Rattle.verdict_drawing.proofs.Numbering.{few_tiles, tiles_length, clean_all, clean_tile}
use Rattle.verdict_drawing.proofs.TileLoop.{tile_begins, number_from, number_below, tile_again, tile_done}
use Rattle.verdict_drawing.proofs.tiles.table_tiles.Goals as goal

-- What is required of a rectangle holds what its numbers ask.
in_grid : {whole : List ℕ} {grid : Grid} {q : Rectangle} {table b work first second : List ℕ}
    → ForRect whole grid q table b work first second → InGrid grid q
in_grid p = record { fault = p.lent.ready.fault; ok = p.rectangle }

pub overflow_mul-k-end : goal.overflow_mul-k-end
overflow_mul-k-end c = omega (arith, few_tiles (in_grid c.requires.rect))

pub loop-k-init : goal.loop-k-init
loop-k-init c =
    let g = grid_in c.args.grid false in
    let q = rectangle_in c.args.rectangle in (
      tile_begins (tiles_rising g q (in_tiles g q c.requires.rect.rectangle)) (clean_all (size_in false c.args.grid) c.requires.rect.clean),
      refl,
      refl,
      refl,
      c.requires.size,
      refl,
    )

pub number_in-number-requires : goal.number_in-number-requires
number_in-number-requires c = record { rectangle = in_grid c.requires.rect; more = omega (arith, c.loop-k-test.true) }

pub table_tile-count-requires : goal.table_tile-count-requires
table_tile-count-requires c =
    let more : (let a = c.args in c.loop-k.k < length (tiles_in (grid_in a.grid false) (rectangle_in a.rectangle))) = let a = c.args in omega (arith, c.loop-k-test.true, tiles_length (grid_in a.grid false) (rectangle_in a.rectangle)) in
    let i = c.loop-k.invariant in
    let p = c.requires.rect in
    let m = more in
    let a = c.args in
    let below = number_below i.0 m in
    record {
      lent = lent_again p.lent i.0.size i.1 i.2 i.3;
      tile = record {
        sized = record { fault = p.lent.ready.fault };
        more = rw c.number_in-number.ensures (subst (λ x. get_or (tiles_in (grid_in a.grid false) (rectangle_in a.rectangle)) c.loop-k.k 0 < x)
            (mul_comm (tiles_across (grid_in a.grid false)) (tiles_down (grid_in a.grid false))) below);
      };
      passes = record { slots = p.passes.slots; passed = i.0.passed p.passes.slots p.passes.passed };
      blank = rw c.number_in-number.ensures (clean_tile i.0.clean (number_from i.0 m) (i.0.size ∙ p.lent.ready.size));
      size = i.4;
      rows = omega (arith, c.requires.rows, i.5);
    }

pub overflow_add-count : goal.overflow_add-count
overflow_add-count c =
    let i = c.loop-k.invariant in
    let f = few_tiles (in_grid c.requires.rect) in
    let t = c.loop-k-test.true in
    let w = c.requires.rect.lent.level.kept.kept.within in
    let k : c.loop-k.k ≤ 64 = omega (arith, f, t) in
    omega (arith, i.0.bound, c.table_tile-count.ensures.tile_shared.bound, w, mul-le-mul_right (flat_bound * length c.args.whole.now) k)

pub loop-k-preserved : goal.loop-k-preserved
loop-k-preserved c =
    let more : (let a = c.args in c.loop-k.k < length (tiles_in (grid_in a.grid false) (rectangle_in a.rectangle))) = let a = c.args in omega (arith, c.loop-k-test.true, tiles_length (grid_in a.grid false) (rectangle_in a.rectangle)) in
    let i = c.loop-k.invariant in (
      tile_again i.0 more c.number_in-number.ensures c.table_tile-count.ensures.tile_shared c.table_tile-count.ensures.tile_apart c.table_tile-count.auto.picture,
      c.table_tile-count.auto.work ∙ i.1,
      c.table_tile-count.auto.first ∙ i.2,
      c.table_tile-count.auto.second ∙ i.3,
      c.table_tile-count.ensures.slots_len,
      c.table_tile-count.auto.choices ∙ i.5,
    )

pub shape_of-table : goal.shape_of-table
shape_of-table c =
    let q = c.requires.rect.passes in
    (c.loop-k.invariant.0.passed q.slots q.passed).size ∙ sym q.passed.size

pub shape_of-picture : goal.shape_of-picture
shape_of-picture c = c.loop-k.invariant.0.size

pub shape_of-work : goal.shape_of-work
shape_of-work c = c.loop-k.invariant.1

pub shape_of-first : goal.shape_of-first
shape_of-first c = c.loop-k.invariant.2

pub shape_of-second : goal.shape_of-second
shape_of-second c = c.loop-k.invariant.3

pub shape_of-choices : goal.shape_of-choices
shape_of-choices c = c.loop-k.invariant.5

pub returns : goal.returns
returns c =
    let a = c.args in
    let e = tiles_length (grid_in a.grid false) (rectangle_in a.rectangle) in
    record { shares = tile_done c.loop-k.invariant.0 (omega (arith, e, c.loop-k-test.false)) }
