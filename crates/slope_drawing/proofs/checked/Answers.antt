-- Refused with all as it was, or the walk's picture and count, the slopes, and the work buffer cleared.
use Rattle.std.proofs.Common.{refl, ap, ◌∙◌}
use lib.ListN.{replicate}
use Rattle.std.proofs.lemmas.Result.{err_from_is_err_and}
use Rattle.faults.proofs.NumberLaws.{some_number}
use Rattle.slope_drawing.proofs.Calls.{slopes_refused, slopes_draw, slopes_done}
use Rattle.slope_drawing.proofs.checked.Goals as goal

pub returns-in_err-check_slopes : goal.returns-in_err-check_slopes
returns-in_err-check_slopes c =
    let p = err_from_is_err_and c.from_residual.result c.from_residual.ensures.1 in
    rw (p.1, p.2) (slopes_refused _ _ _ _ _ c.in_err-check_slopes.ensures.answer (some_number _))

pub slope-count-requires : goal.slope-count-requires
slope-count-requires c =
    let a = c.args in
    slopes_draw a.tape.now a.grid a.picture.now a.slopes.now a.work.now c.in_ok-check_slopes.ensures.answer refl

pub returns : goal.returns
returns c =
    slopes_done _ _ _ _ _ c.in_ok-check_slopes.ensures.answer refl refl c.slope-count.ensures
    (c.clear.ensures ∙ ap (λ m. replicate m 0) c.slope-count.auto.work)
