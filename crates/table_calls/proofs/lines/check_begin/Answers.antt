-- The lines of tape and grid, then the table's length.
use Rattle.rules.specs.Drawings.{grid_fault}
use Rattle.std.proofs.lemmas.Result.{err_from_is_err_and}
use Rattle.answers.proofs.Chains.{stage_refuses, line_refuses, line_passes}
use Rattle.table_calls.proofs.lines.check_begin.Goals as goal

pub returns-in_err-check_grid : goal.returns-in_err-check_grid
unfolding grid_fault
returns-in_err-check_grid c =
    let p = err_from_is_err_and c.from_residual.result c.from_residual.ensures.1 in
    rw (p.1, p.2) (stage_refuses _ c.in_err-check_grid.ensures)

pub returns-in_err-check_size : goal.returns-in_err-check_size
unfolding grid_fault
returns-in_err-check_size c =
    let r = c.from_residual-in_err-check_size in
    let p = err_from_is_err_and r.result r.ensures.1 in
    rw (p.1, p.2) (line_refuses _ c.in_ok-check_grid.ensures c.in_err-check_size.ensures)

pub returns : goal.returns
unfolding grid_fault
returns c = line_passes c.in_ok-check_grid.ensures c.in_ok-check_size.ensures
