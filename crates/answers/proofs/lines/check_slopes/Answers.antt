-- The lines of a full drawing, and then the lengths of the slopes and of the work buffer.
use Rattle.std.proofs.lemmas.Result.{err_from_is_err_and}
use Rattle.answers.proofs.Chains.{stage_refuses, line_refuses, line_passes}
use Rattle.answers.proofs.lines.check_slopes.Goals as goal

pub returns-in_err-check_full : goal.returns-in_err-check_full
returns-in_err-check_full c =
    let p = err_from_is_err_and c.from_residual.result c.from_residual.ensures.1 in
    rw (p.1, p.2) (stage_refuses _ c.in_err-check_full.ensures)

pub returns-in_err-check_slope_length : goal.returns-in_err-check_slope_length
returns-in_err-check_slope_length c =
    let r = c.from_residual-in_err-check_slope_length in
    let p = err_from_is_err_and r.result r.ensures.1 in
    rw (p.1, p.2) (line_refuses _ c.in_ok-check_full.ensures c.in_err-check_slope_length.ensures)

pub returns-in_err-check_work : goal.returns-in_err-check_work
returns-in_err-check_work c =
    let r = c.from_residual-in_err-check_work in
    let p = err_from_is_err_and r.result r.ensures.1 in
    rw (p.1, p.2)
    (line_refuses _ (line_passes c.in_ok-check_full.ensures c.in_ok-check_slope_length.ensures)
    c.in_err-check_work.ensures)

pub returns : goal.returns
returns c =
    line_passes (line_passes c.in_ok-check_full.ensures c.in_ok-check_slope_length.ensures) c.in_ok-check_work.ensures
