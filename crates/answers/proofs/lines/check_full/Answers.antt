-- The lines of tape and grid, and then the length of the picture.
use Rattle.std.proofs.lemmas.Result.{err_from_is_err_and}
use Rattle.answers.proofs.Chains.{stage_refuses, line_refuses, line_passes}
use Rattle.answers.proofs.lines.check_full.Goals as goal

pub returns-in_err-check_grid : goal.returns-in_err-check_grid
returns-in_err-check_grid c =
    let p = err_from_is_err_and c.from_residual.result c.from_residual.ensures.1 in
    rw (p.1, p.2) (stage_refuses _ c.in_err-check_grid.ensures)

pub returns-in_err-check_length : goal.returns-in_err-check_length
returns-in_err-check_length c =
    let r = c.from_residual-in_err-check_length in
    let p = err_from_is_err_and r.result r.ensures.1 in
    rw (p.1, p.2) (line_refuses _ c.in_ok-check_grid.ensures c.in_err-check_length.ensures)

pub returns : goal.returns
returns c = line_passes c.in_ok-check_grid.ensures c.in_ok-check_length.ensures
