-- The tiles of the picture, by their number.
use mathlib.Core.Path.{◌≡◌, refl, ap, ◌∙◌}
use mathlib.Core.Bool.{false}
use Prim.Native.Nat.{◌*◌, ◌<◌}
use native.Mathlib.Omega.{arith}
use lib.ListN.{length}
use Rattle.rules.specs.Drawings.{Region}
use Rattle.walk.specs.Children.{Parent, children_in}
use Rattle.walk.proofs.CellLaws.{small, first_in_lem}
use Rattle.swept_pixels.proofs.PutLaws.{cell_parent, draws_of, parts_begin, parts_next, parts_done}
use Rattle.swept_pixels.proofs.SearchLaws.{agrees_part}
use Rattle.swept_tiles.proofs.TileLaws.{all_swept, sweep_again}
use Rattle.swept_tiles.proofs.tiles.sweep.Goals as goal
use Rattle.swept_tiles.proofs.tiles.sweep.Goals.{After-cell_at-parent, In-loop-m}

side : (c : After-cell_at-parent) → c.cell_at-parent.result.side ≡ 8 * 64
side c = ap (λ (r : Region). r.long) c.cell_at-parent.ensures.same

parent : (c : After-cell_at-parent) → Parent c.cell_at-parent.result 64
parent c =
    cell_parent 64 8 c.requires.on c.cell_at-parent.ensures.ok (omega arith) (omega arith) (side c)

more : (c : In-loop-m)
    → c.loop-m.m < length (children_in c.cell_at-parent.result 64)
more c = omega (arith, c.loop-m-test.true, c.child_count-m-end.ensures)

pub cell_at-parent-requires : goal.cell_at-parent-requires
cell_at-parent-requires c =
    let e = c.requires.on.fault in
    record {
      small = small false c.args.grid e;
      place = first_in_lem false c.args.grid e;
      some = omega arith;
      few = omega arith;
    }

pub child_count-m-end-requires : goal.child_count-m-end-requires
child_count-m-end-requires c = parent (goal.at.child_count-m-end-requires c).After-cell_at-parent

pub loop-m-init : goal.loop-m-init
loop-m-init c =
    (parts_begin c.cell_at-parent.result 64 (parent (goal.at.loop-m-init c).After-cell_at-parent) c.cell_at-parent.ensures.ok _, refl, refl, refl, refl, refl)

pub child-cell-requires : goal.child-cell-requires
child-cell-requires c = record { parent = parent (goal.at.child-cell-requires c).After-cell_at-parent; more = more (goal.at.child-cell-requires c).In-loop-m }

pub visit_tile-requires : goal.visit_tile-requires
visit_tile-requires c =
    let i = c.loop-m.invariant in
    let h = c.child-cell.ensures in
    record {
      sweep = sweep_again c.requires i.1 i.2 i.0.size i.3 i.4 i.5;
      cell = h.ok 1 c.args.grid c.cell_at-parent.ensures.ok;
      side = h.side;
    }

pub loop-m-preserved : goal.loop-m-preserved
loop-m-preserved c =
    let v = c.visit_tile in
    let i = c.loop-m.invariant in
    let p = c.cell_at-parent in
    let h = c.child-cell.ensures in
    let k = h.ok 1 c.args.grid p.ensures.ok in (
      parts_next p.result 64 c.loop-m.m i.0 h (draws_of (agrees_part p.ensures.ok k h) v.ensures)
          v.auto.picture,
      v.auto.outer ∙ i.1,
      v.auto.inner ∙ i.2,
      v.auto.work ∙ i.3,
      v.auto.first ∙ i.4,
      v.auto.second ∙ i.5,
    )

pub shape_of-outer : goal.shape_of-outer
shape_of-outer c = c.loop-m.invariant.1

pub shape_of-inner : goal.shape_of-inner
shape_of-inner c = c.loop-m.invariant.2

pub shape_of-picture : goal.shape_of-picture
shape_of-picture c = c.loop-m.invariant.0.size

pub shape_of-work : goal.shape_of-work
shape_of-work c = c.loop-m.invariant.3

pub shape_of-first : goal.shape_of-first
shape_of-first c = c.loop-m.invariant.4

pub shape_of-second : goal.shape_of-second
shape_of-second c = c.loop-m.invariant.5

pub returns : goal.returns
returns c =
    let t = c.cell_at-parent in
    let e = c.child_count-m-end.ensures in
    all_swept c.requires t.ensures.same
    (parts_done t.result 64 c.loop-m.m c.loop-m.invariant.0 (omega (arith, c.loop-m-test.false)))
    c.loop-m.invariant.0.size
