-- All tiles in the order of the list, from heights of 0.
use mathlib.Core.Path.{refl, sym, ap, ◌∙◌}
use mathlib.Core.Bool.{true}
use native.Mathlib.Omega.{arith}
use lib.ListN.{replicate}
use Rattle.walk.proofs.CellLaws.{small, first_in_lem}
use Rattle.walk.proofs.LookLaws.{sound_length}
use Rattle.walk.proofs.Places.{ready_again}
use Rattle.order_drawing.proofs.OrderWalk.{parent, numbered, orders_few, tile_is}
use Rattle.order_drawing.proofs.OrderWalk.{begins, sum_most, again, done}
use Rattle.order_drawing.proofs.tiles.tile_in_order.Goals as goal

pub cell_at-all-requires : goal.cell_at-all-requires
cell_at-all-requires c =
    let e = c.requires.solid.ready.fault in
    record { small = small true _ e; place = first_in_lem true _ e; some = omega arith; few = omega arith }

pub loop-number-init : goal.loop-number-init
loop-number-init c =
    let r = c.requires.solid.ready in (
      begins _ _ (c.clear.ensures ∙ ap (λ n. replicate n 0) r.size) refl,
      refl,
      refl,
      refl,
      refl,
      refl,
      refl,
    )

pub overflow_cast-number : goal.overflow_cast-number
overflow_cast-number c = omega (arith, c.type_inv.order c.loop-number.number-index)

pub child-cell-requires : goal.child-cell-requires
child-cell-requires c =
    let k = c.cell_at-all.ensures in
    let p = c.requires in
    let e = p.solid.ready.fault in
    record { parent = parent k e; more = numbered k e _ p.list c.loop-number.number-index c.loop-number-test.true }

pub slice_bounds-visit_tile-end : goal.slice_bounds-visit_tile-end
slice_bounds-visit_tile-end c =
    sym c.loop-number.invariant.5

pub slice_bounds-visit_tile-end-in-loop-number : goal.slice_bounds-visit_tile-end-in-loop-number
slice_bounds-visit_tile-end-in-loop-number c = sym c.loop-number.invariant.6

pub visit_tile-count-requires : goal.visit_tile-count-requires
visit_tile-count-requires c =
    let i = c.loop-number.invariant in
    let k = c.child-cell.ensures in
    let a = c.requires.solid in
    record {
      tile = record {
        level = a.level;
        ready = ready_again a.ready (i.0.size ∙ c.clear.auto.heights);
        room = omega (arith, a.room, i.1);
        first = omega (arith, a.first, i.2);
        second = omega (arith, a.second, i.3);
        third = omega (arith, a.third, i.4);
      };
      cell = k.ok _ _ c.cell_at-all.ensures.ok;
      side = k.side;
      rows = omega (arith, sound_length a.level.sound, i.5);
      rows_below = omega (arith, sound_length a.level.sound, i.6);
    }

pub overflow_add-count : goal.overflow_add-count
overflow_add-count c =
    let p = c.requires in
    let few = orders_few c.cell_at-all.ensures p.solid.ready.fault _ p.list in
    let sum = sum_most c.loop-number.invariant.0 few c.loop-number-test.true c.visit_tile-count.ensures.bound in
    omega (arith, sound_length p.solid.level.sound, sum)

pub loop-number-preserved : goal.loop-number-preserved
loop-number-preserved c =
    let v = c.visit_tile-count in
    let k = c.cell_at-all.ensures in
    let p = c.requires in
    let e = p.solid.ready.fault in
    let i = c.loop-number.invariant in
    let kept = v.auto.picture in
    let h = numbered k e _ p.list c.loop-number.number-index c.loop-number-test.true in (
      again i.0 e c.loop-number-test.true (tile_is k e c.child-cell.ensures h) v.ensures c.visit_tile-count.auto.picture,
      c.visit_tile-count.auto.work ∙ i.1,
      c.visit_tile-count.auto.first ∙ i.2,
      c.visit_tile-count.auto.second ∙ i.3,
      c.visit_tile-count.auto.third ∙ i.4,
      c.visit_tile-count.auto.choices ∙ i.5,
      c.visit_tile-count.auto.below ∙ i.6,
    )

pub shape_of-picture : goal.shape_of-picture
shape_of-picture c = c.loop-number.invariant.0.size ∙ c.clear.auto.heights

pub shape_of-work : goal.shape_of-work
shape_of-work c = c.loop-number.invariant.1

pub shape_of-first : goal.shape_of-first
shape_of-first c = c.loop-number.invariant.2

pub shape_of-second : goal.shape_of-second
shape_of-second c = c.loop-number.invariant.3

pub shape_of-third : goal.shape_of-third
shape_of-third c = c.loop-number.invariant.4

pub returns : goal.returns
returns c = done c.loop-number.invariant.0 (omega (arith, c.loop-number-test.false, c.loop-number.invariant.0.few))
