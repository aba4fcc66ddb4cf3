-- Refused with every byte as it was, or the walk's picture and count in the order, and the work buffer cleared.
use mathlib.Core.Path.{refl, ap, ◌∙◌}
use lib.ListN.{replicate}
use Rattle.std.proofs.lemmas.Result.{err_from_is_err_and}
use Rattle.faults.proofs.NumberLaws.{some_number}
use Rattle.order_drawing.proofs.Calls.{order_refused, order_draws, order_done}
use Rattle.order_drawing.proofs.tile_checked.Goals as goal

pub returns-in_err-check_order : goal.returns-in_err-check_order
returns-in_err-check_order c =
    let p = err_from_is_err_and c.from_residual.result c.from_residual.ensures.1 in
    rw (p.1, p.2) (order_refused _ _ _ _ _ c.in_err-check_order.ensures.answer (some_number _))

pub tile-count-requires : goal.tile-count-requires
tile-count-requires c =
    let a = c.args in
    order_draws a.tape.now a.grid a.order.now a.picture.now a.work.now c.in_ok-check_order.ensures.answer refl

pub returns : goal.returns
returns c =
    order_done _ _ _ _ _ c.in_ok-check_order.ensures.answer refl refl c.tile-count.ensures
    (c.clear.ensures ∙ ap (λ m. replicate m 0) c.tile-count.auto.work)
