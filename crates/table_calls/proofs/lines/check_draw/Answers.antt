-- The lines of tape, rectangle and grid, and where none of them holds the table's, the picture's and the work buffer's.
use Rattle.rules.specs.Pictures.{picture_size}
use Rattle.rules.proofs.Lines.{each_line}
use Rattle.table_rules.specs.Tables.{own_lines}
use Rattle.rectangle.specs.Rectangles.{rectangle_in}
use Rattle.std.proofs.lemmas.Result.{err_from_is_err_and}
use Rattle.answers.proofs.Chains.{stage_refuses, line_refuses, line_passes, none_holds}
use Rattle.promises.specs.Tables.{table_grid}
use Rattle.table_calls.proofs.lines.check_draw.Goals as goal

pub returns-in_err-check_own : goal.returns-in_err-check_own
returns-in_err-check_own c =
    let p = err_from_is_err_and c.from_residual.result c.from_residual.ensures.1 in
    rw (p.1, p.2) (stage_refuses _ c.in_err-check_own.ensures)

pub check_verdicts-requires : goal.check_verdicts-requires
check_verdicts-requires c =
    let a = c.args in
    let lines = own_lines a.tape.now (table_grid a.grid) (rectangle_in a.rectangle) in
    each_line lines (none_holds lines a.tape.now c.in_ok-check_own.ensures) 0

pub returns-in_err-check_verdicts : goal.returns-in_err-check_verdicts
returns-in_err-check_verdicts c =
    let r = c.from_residual-in_err-check_verdicts in
    let p = err_from_is_err_and r.result r.ensures.1 in
    rw (p.1, p.2) (line_refuses _ c.in_ok-check_own.ensures c.in_err-check_verdicts.ensures)

pub returns-in_err-check_length : goal.returns-in_err-check_length
unfolding picture_size
returns-in_err-check_length c =
    let r = c.from_residual-in_err-check_length in
    let p = err_from_is_err_and r.result r.ensures.1 in
    rw (p.1, p.2)
    (line_refuses _ (line_passes c.in_ok-check_own.ensures c.in_ok-check_verdicts.ensures) c.in_err-check_length.ensures)

pub returns-in_err-check_work : goal.returns-in_err-check_work
unfolding picture_size
returns-in_err-check_work c =
    let r = c.from_residual-in_err-check_work in
    let p = err_from_is_err_and r.result r.ensures.1 in
    rw (p.1, p.2)
    (line_refuses _ (line_passes (line_passes c.in_ok-check_own.ensures c.in_ok-check_verdicts.ensures)
    c.in_ok-check_length.ensures) c.in_err-check_work.ensures)

pub returns : goal.returns
unfolding picture_size
returns c =
    line_passes (line_passes (line_passes c.in_ok-check_own.ensures c.in_ok-check_verdicts.ensures)
    c.in_ok-check_length.ensures) c.in_ok-check_work.ensures
