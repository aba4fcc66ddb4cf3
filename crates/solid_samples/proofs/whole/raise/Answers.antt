-- Lane by lane.
use mathlib.Core.Path.{refl}
use native.Mathlib.Omega.{arith}
use borrow.Author.Rules.{rules}
use mir.Facts.{to_z-of_z}
use Rattle.lanes.proofs.LaneLaws.{none_below, one_more, all_below_lem}
use mir.Syntax.{w32}
use Rattle.lanes.specs.Lanes.{lane}
use Rattle.solid_samples.proofs.whole.raise.Goals as goal

pub loop-k-init : goal.loop-k-init
loop-k-init c = (omega arith, none_below _ _ _ refl)

pub loop-k-preserved : goal.loop-k-preserved
loop-k-preserved c =
    let l = c.loop-k in (
      omega arith,
      one_more _ _ l.r l.k _ c.loop-k-test.true l.invariant.1
          (rw (to_z-of_z {w = w32} {z = lane c.args.values.now l.k} (search rules)) at c.raised.ensures),
    )

pub returns : goal.returns
returns c = record { at = all_below_lem _ _ _ _ c.loop-k-test.false c.loop-k.invariant.1 }
