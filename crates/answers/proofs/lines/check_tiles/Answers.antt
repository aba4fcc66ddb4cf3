-- The lines of a full drawing, and then the length of the work buffer.
use Rattle.std.proofs.lemmas.Result.{err_from_is_err_and}
use Rattle.answers.proofs.Chains.{stage_refuses, line_refuses, line_passes}
use Rattle.answers.proofs.lines.check_tiles.Goals as goal

pub returns-in_err-check_full : goal.returns-in_err-check_full
returns-in_err-check_full c =
    let p = err_from_is_err_and c.from_residual.result c.from_residual.ensures.1 in
    rw (p.1, p.2) (stage_refuses _ c.in_err-check_full.ensures)

pub returns-in_err-check_work : goal.returns-in_err-check_work
returns-in_err-check_work c =
    let r = c.from_residual-in_err-check_work in
    let p = err_from_is_err_and r.result r.ensures.1 in
    rw (p.1, p.2) (line_refuses _ c.in_ok-check_full.ensures c.in_err-check_work.ensures)

pub returns : goal.returns
returns c = line_passes c.in_ok-check_full.ensures c.in_ok-check_work.ensures
