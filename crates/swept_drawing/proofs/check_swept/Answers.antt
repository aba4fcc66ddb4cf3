-- The lines of the grid, and behind them line 25 and the lengths.
use Rattle.std.proofs.lemmas.Result.{err_from_is_err_and}
use Rattle.answers.proofs.Chains.{stage_refuses, line_refuses, line_passes}
use Rattle.swept_drawing.proofs.Calls.{grid_passed, pixels_line}
use Rattle.swept_drawing.proofs.check_swept.Goals as goal

pub returns-in_err-check_grid : goal.returns-in_err-check_grid
returns-in_err-check_grid c =
    let p = err_from_is_err_and c.from_residual.result c.from_residual.ensures.1 in
    rw (p.1, p.2) (stage_refuses _ c.in_err-check_grid.ensures)

pub check_path-requires : goal.check_path-requires
check_path-requires c = grid_passed c.args.tape.now c.args.grid c.in_ok-check_grid.ensures

pub returns-in_err-check_path : goal.returns-in_err-check_path
returns-in_err-check_path c =
    let r = c.from_residual-in_err-check_path in
    let p = err_from_is_err_and r.result r.ensures.1 in
    rw (p.1, p.2) (line_refuses _ c.in_ok-check_grid.ensures c.in_err-check_path.ensures)

pub returns-in_err-check_length : goal.returns-in_err-check_length
returns-in_err-check_length c =
    let r = c.from_residual-in_err-check_length in
    let p = err_from_is_err_and r.result r.ensures.1 in
    rw (p.1, p.2)
    (line_refuses _ (line_passes c.in_ok-check_grid.ensures c.in_ok-check_path.ensures)
    (pixels_line c.args.grid c.args.length c.in_err-check_length.ensures))

pub returns-in_err-check_work : goal.returns-in_err-check_work
returns-in_err-check_work c =
    let r = c.from_residual-in_err-check_work in
    let p = err_from_is_err_and r.result r.ensures.1 in
    rw (p.1, p.2)
    (line_refuses _ (line_passes (line_passes c.in_ok-check_grid.ensures c.in_ok-check_path.ensures)
    (pixels_line c.args.grid c.args.length c.in_ok-check_length.ensures)) c.in_err-check_work.ensures)

pub returns : goal.returns
returns c =
    line_passes (line_passes (line_passes c.in_ok-check_grid.ensures c.in_ok-check_path.ensures)
    (pixels_line c.args.grid c.args.length c.in_ok-check_length.ensures)) c.in_ok-check_work.ensures
