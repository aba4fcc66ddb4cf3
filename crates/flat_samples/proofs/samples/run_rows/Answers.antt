-- The lanes and chunks of a region's rows, swept.
use mathlib.Core.Path.{◌∙◌}
use mathlib.Core.Bool.{false}
use native.Mathlib.Omega.{arith}
use mir.Facts.{to_z-of_z}
use Rattle.lanes.specs.Lanes.{All}
use Rattle.picture.proofs.GridWords.{InWords, in_words}
use Rattle.walk.proofs.CellLaws.{small, span_words, x_span, y_span}
use Rattle.walk.proofs.LookLaws.{sound_runs}
use Rattle.flat_samples.proofs.SignRows.{rows_run}
use Rattle.flat_samples.proofs.samples.run_rows.Goals as goal

pub lane_samples-xs-requires : goal.lane_samples-xs-requires
lane_samples-xs-requires c =
    let p = c.requires in
    let f : InWords c.args.grid = in_words c.struct_told-1.given in
    let d = small false c.args.grid p.fault in
    let x = x_span false _ _ p.ok p.fault in
    record { span = span_words f.xorigin f.xstep x; small = omega (arith, d.width, p.ok.xs) }

pub lane_samples-requires : goal.lane_samples-requires
lane_samples-requires c =
    let p = c.requires in
    let f : InWords c.args.grid = in_words c.struct_told-1.given in
    let d = small false c.args.grid p.fault in
    let y = y_span false _ _ p.ok p.fault in
    record { span = span_words f.yorigin f.ystep y; small = omega (arith, d.height, p.ok.ys) }

pub overflow_sub-parent : goal.overflow_sub-parent
overflow_sub-parent c =
    omega (arith, c.requires.ok.ys)

pub run_chunks-requires : goal.run_chunks-requires
run_chunks-requires c =
    let p = c.requires in
    record { runs = sound_runs p.sound; few = omega (arith, p.ok.ys, p.side); size = p.size }

pub returns : goal.returns
returns c =
    let p = c.requires in
    let f : InWords c.args.grid = in_words c.struct_told-1.given in
    let ex = rw (to_z-of_z f.xorigin, to_z-of_z f.xstep) at c.lane_samples-xs.ensures in
    let ey = rw (to_z-of_z f.yorigin, to_z-of_z f.ystep) at c.lane_samples.ensures in
    let ez : All c.args.grid.zorigin c.splat.result =
    record { at = λ k h. c.splat.ensures.at k h ∙ to_z-of_z f.zorigin } in
    rows_run p.ok p.side p.fault ex ey c.splats-ys.ensures ez c.splats-zs.ensures c.run_chunks.ensures
