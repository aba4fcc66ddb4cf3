-- Refused with every byte as it was, or the turn's table, picture and count, and the work buffer cleared.
use mathlib.Core.Path.{refl, ap, ◌∙◌}
use lib.ListN.{replicate}
use Rattle.std.proofs.lemmas.Result.{err_from_is_err_and}
use Rattle.faults.proofs.NumberLaws.{some_number}
use Rattle.table_calls.proofs.Calls.{draw_refused, draw_asked, draw_done}
use Rattle.table_calls.proofs.draw_checked.Goals as goal

pub returns-in_err-check_draw : goal.returns-in_err-check_draw
returns-in_err-check_draw c =
    let p = err_from_is_err_and c.from_residual.result c.from_residual.ensures.1 in
    rw (p.1, p.2) (draw_refused _ _ _ _ _ _ c.in_err-check_draw.ensures.answer (some_number _))

pub draw_rectangle-count-requires : goal.draw_rectangle-count-requires
draw_rectangle-count-requires c =
    let a = c.args in
    draw_asked a.tape.now a.grid a.rectangle a.table.now a.picture.now a.work.now c.in_ok-check_draw.ensures.answer refl

pub returns : goal.returns
returns c =
    draw_done _ _ _ _ _ _ c.in_ok-check_draw.ensures.answer refl refl c.draw_rectangle-count.ensures
    (c.clear.ensures ∙ ap (λ m. replicate m 0) c.draw_rectangle-count.auto.work)
