-- The lines of a full drawing, and where none of them holds the list's and the work buffer's.
use mathlib.Core.Path.{ap, ◌∙◌}
use mathlib.Core.Bool.{true, not}
use Rattle.rules.specs.Values.{when}
use Rattle.order_rules.specs.Orders.{is_order}
use Rattle.picture.specs.Shapes.{grid_in}
use Rattle.answers.specs.Lines.{draw_lines}
use Rattle.answers.proofs.Clear.{draws}
use Rattle.std.proofs.lemmas.Result.{err_from_is_err_and}
use Rattle.answers.proofs.Chains.{stage_refuses, line_refuses, line_passes, none_holds}
use Rattle.order_drawing.proofs.check_order.Goals as goal

pub returns-in_err-check_full : goal.returns-in_err-check_full
returns-in_err-check_full c =
    let p = err_from_is_err_and c.from_residual.result c.from_residual.ensures.1 in
    rw (p.1, p.2) (stage_refuses _ c.in_err-check_full.ensures)

pub tile_count-requires : goal.tile_count-requires
tile_count-requires c =
    let a = c.args in
    let g = grid_in a.grid true in
    (draws true a.tape.now g a.length
    (none_holds (draw_lines true a.tape.now g a.length) a.tape.now c.in_ok-check_full.ensures)).grid

pub returns-in_err-check_list : goal.returns-in_err-check_list
returns-in_err-check_list c =
    let r = c.from_residual-in_err-check_list in
    let p = err_from_is_err_and r.result r.ensures.1 in
    rw (p.1, p.2)
    (line_refuses _ c.in_ok-check_full.ensures
    (c.in_err-check_list.ensures ∙ ap (λ m. when (not (is_order m c.args.order.now)) 12) c.tile_count.ensures.count))

pub returns-in_err-check_work : goal.returns-in_err-check_work
returns-in_err-check_work c =
    let r = c.from_residual-in_err-check_work in
    let p = err_from_is_err_and r.result r.ensures.1 in
    rw (p.1, p.2)
    (line_refuses _ (line_passes c.in_ok-check_full.ensures
    (c.in_ok-check_list.ensures ∙ ap (λ m. when (not (is_order m c.args.order.now)) 12) c.tile_count.ensures.count))
    c.in_err-check_work.ensures)

pub returns : goal.returns
returns c =
    line_passes (line_passes c.in_ok-check_full.ensures
    (c.in_ok-check_list.ensures ∙ ap (λ m. when (not (is_order m c.args.order.now)) 12) c.tile_count.ensures.count))
    c.in_ok-check_work.ensures
