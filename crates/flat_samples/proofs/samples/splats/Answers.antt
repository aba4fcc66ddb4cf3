-- Row by row.
use mathlib.Core.Path.{refl, ◌∙◌}
use borrow.Author.Rules.{sfits_of}
use native.Mathlib.Omega.{arith}
use mir.Syntax.{w32}
use mir.Facts.{to_z-of_z}
use Rattle.lanes.proofs.LaneLaws.{none_below, one_more, all_below_lem}
use Rattle.flat_samples.proofs.samples.splats.Goals as goal

pub loop-c-init : goal.loop-c-init
loop-c-init c = (omega arith, none_below _ _ _ refl)

pub loop-c-preserved : goal.loop-c-preserved
loop-c-preserved c =
    let l = c.loop-c in (
      omega arith,
      one_more _ _ l.r l.c _ c.loop-c-test.true l.invariant.1
          (λ k h. c.splat.ensures.at k h ∙ to_z-of_z {w = w32} (sfits_of c.splat-arg-1.given)),
    )

pub returns : goal.returns
returns c =
    record { at = λ j k h l. all_below_lem _ _ _ _ c.loop-c-test.false c.loop-c.invariant.1 j h k l }
