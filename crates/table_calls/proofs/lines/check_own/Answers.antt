-- The tape's lines, the rectangle's and the grid's.
use Rattle.rules.specs.Drawings.{grid_fault}
use Rattle.std.proofs.lemmas.Result.{err_from_is_err_and}
use Rattle.answers.proofs.Chains.{tape_refuses, tape_passes, line_refuses, line_passes}
use Rattle.table_calls.proofs.lines.check_own.Goals as goal

pub returns-in_err-check_tape : goal.returns-in_err-check_tape
returns-in_err-check_tape c =
    let p = err_from_is_err_and c.from_residual.result c.from_residual.ensures.1 in
    rw (p.1, p.2) (tape_refuses _ c.in_err-check_tape.ensures)

pub returns-in_err-check_rectangle : goal.returns-in_err-check_rectangle
returns-in_err-check_rectangle c =
    let r = c.from_residual-in_err-check_rectangle in
    let p = err_from_is_err_and r.result r.ensures.1 in
    rw (p.1, p.2) (line_refuses _ (tape_passes c.in_ok-check_tape.ensures) c.in_err-check_rectangle.ensures)

pub returns-in_err-check_axes : goal.returns-in_err-check_axes
unfolding grid_fault
returns-in_err-check_axes c =
    let r = c.from_residual-in_err-check_axes in
    let p = err_from_is_err_and r.result r.ensures.1 in
    rw (p.1, p.2)
    (line_refuses _ (line_passes (tape_passes c.in_ok-check_tape.ensures) c.in_ok-check_rectangle.ensures)
    c.in_err-check_axes.ensures)

pub returns : goal.returns
unfolding grid_fault
returns c =
    line_passes (line_passes (tape_passes c.in_ok-check_tape.ensures) c.in_ok-check_rectangle.ensures)
    c.in_ok-check_axes.ensures
