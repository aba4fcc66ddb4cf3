-- The first of its three lines.
use mathlib.Core.Path.{◌∙◌}
use Rattle.std.proofs.lemmas.Result.{err_from_is_err_and}
use Rattle.plate_checks.proofs.CheckLaws.{grid_at_fault, length_at_fault, work_decides}
use Rattle.plate_checks.proofs.check_lent.Goals as goal

pub returns-in_err-check_axes : goal.returns-in_err-check_axes
returns-in_err-check_axes c =
    let p = err_from_is_err_and c.from_residual.result c.from_residual.ensures.1 in
    rw (p.1, p.2) (grid_at_fault _ _ _ _ c.in_err-check_axes.ensures)

pub returns-in_err-check_length : goal.returns-in_err-check_length
returns-in_err-check_length c =
    let r = c.from_residual-in_err-check_length in
    let p = err_from_is_err_and r.result r.ensures.1 in
    rw (p.1, p.2) (length_at_fault _ _ _ _ c.in_ok-check_axes.ensures c.in_err-check_length.ensures)

pub returns : goal.returns
returns c =
    c.check_work.ensures ∙ work_decides _ _ _ c.in_ok-check_axes.ensures c.in_ok-check_length.ensures
