-- Lane by lane, the sample at the lane's index.
use mathlib.Core.Path.{refl, ap, ◌∙◌}
use native.Mathlib.Omega.{arith}
use mir.Syntax.{w32}
use mir.Facts.{to_z-of_z}
use Rattle.rules.specs.Drawings.{at}
use Rattle.rules.proofs.Words.{read, back}
use Rattle.lanes.proofs.LaneLaws.{none_below, one_more, all_below_lem}
use Rattle.walk.proofs.CellLaws.{span_words}
use Rattle.axis_lanes.proofs.lane_samples.Goals as goal

pub loop-k-init : goal.loop-k-init
loop-k-init c = none_below _ _ _ refl

pub lane_index-requires : goal.lane_index-requires
lane_index-requires c =
    let p = c.requires in
    (p.span.some, p.small, c.loop-k-test.true)

pub sample-requires : goal.sample-requires
sample-requires c =
    (span_words c.ranges.origin c.ranges.step c.requires.span).values _ c.lane_index.ensures.0

pub loop-k-preserved : goal.loop-k-preserved
loop-k-preserved c =
    let l = c.loop-k in
    let a = c.args in
    let v = c.sample in
    one_more _ _ l.r l.k _ c.loop-k-test.true l.invariant (λ h.
    back w32 v.result v.type_inv (v.ensures ∙ ap (at (read w32 a.origin) (read w32 a.step)) (c.lane_index.ensures.1 h)))

pub returns : goal.returns
returns c =
    let f = c.ranges in
    record {
      here = rw (to_z-of_z f.origin, to_z-of_z f.step) at
          (all_below_lem _ _ _ _ (omega arith) c.loop-k.invariant);
    }
