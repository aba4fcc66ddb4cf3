-- Windows from the greatest height of the block down.
use mathlib.Core.Path.{refl, ◌∙◌}
use native.Mathlib.Omega.{arith}
use Rattle.slope_blocks.proofs.WindowLaws.{left_begins, left_next, left_done, lent_again}
use Rattle.slope_blocks.proofs.sixteens.visit_sixteen.Goals as goal

pub seen_in-left-requires : goal.seen_in-left-requires
seen_in-left-requires c =
    let p = c.requires in
    record { heights = p.lent.fits.heights; block = p.block.in_grid; some = omega arith }

pub loop-left-init : goal.loop-left-init
loop-left-init c =
    (left_begins c.requires.block.in_grid _ c.seen_in-left.ensures, refl, refl, refl)

pub upper_from-from-requires : goal.upper_from-from-requires
upper_from-from-requires c = c.loop-left-test.true

pub shade_window-requires : goal.shade_window-requires
shade_window-requires c =
    let i = c.loop-left.invariant in
    let p = c.requires in
    record {
      sixteen = record { lent = lent_again p.lent i.0.size i.1 i.2 i.3; block = p.block };
      window = record { some = c.upper_from-from.ensures.1; in_grid = i.0.in_grid };
    }

pub seen_in-left-requires-in-loop-left : goal.seen_in-left-requires-in-loop-left
seen_in-left-requires-in-loop-left c =
    let p = c.requires in
    record { heights = p.lent.fits.heights; block = p.block.in_grid; some = c.upper_from-from.ensures.0 }

pub loop-left-smaller : goal.loop-left-smaller
loop-left-smaller c =
    omega (arith, c.upper_from-from.ensures.1, c.seen_in-left-in-loop-left.ensures.end)

pub loop-left-preserved : goal.loop-left-preserved
loop-left-preserved c =
    let v = c.shade_window in
    let i = c.loop-left.invariant in (
      left_next c.requires.block.in_grid _ i.0 c.upper_from-from.ensures.1 v.ensures c.seen_in-left-in-loop-left.ensures
          v.auto.slopes,
      v.auto.work ∙ i.1,
      v.auto.first ∙ i.2,
      v.auto.second ∙ i.3,
    )

pub shape_of-slopes : goal.shape_of-slopes
shape_of-slopes c = c.loop-left.invariant.0.size

pub shape_of-work : goal.shape_of-work
shape_of-work c = c.loop-left.invariant.1

pub shape_of-first : goal.shape_of-first
shape_of-first c = c.loop-left.invariant.2

pub shape_of-second : goal.shape_of-second
shape_of-second c = c.loop-left.invariant.3

pub returns : goal.returns
returns c =
    left_done c.requires.block.in_grid c.loop-left.invariant.0 (omega (arith, c.loop-left-test.false))
