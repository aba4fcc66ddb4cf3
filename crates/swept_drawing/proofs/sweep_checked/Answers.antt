-- Refused with all as it was, or the swept picture, and the work buffer cleared.
use mathlib.Core.Path.{refl, ap, ◌∙◌}
use lib.ListN.{replicate}
use Rattle.std.proofs.lemmas.Result.{err_from_is_err_and}
use Rattle.faults.proofs.NumberLaws.{some_number}
use Rattle.swept_drawing.proofs.Calls.{swept_refused, swept_asked, swept_done}
use Rattle.swept_drawing.proofs.sweep_checked.Goals as goal

pub returns-in_err-check_swept : goal.returns-in_err-check_swept
returns-in_err-check_swept c =
    let a = c.args in
    let p = err_from_is_err_and c.from_residual.result c.from_residual.ensures.1 in
    rw (p.1, p.2)
    (swept_refused a.tape.now a.grid a.path.now a.picture.now a.work.now c.in_err-check_swept.ensures.answer (some_number _))

pub sweep_tape-requires : goal.sweep_tape-requires
sweep_tape-requires c =
    let a = c.args in
    swept_asked a.tape.now a.grid a.path.now a.picture.now a.work.now c.in_ok-check_swept.ensures.answer refl

pub returns : goal.returns
returns c =
    let a = c.args in
    swept_done a.tape.now a.grid a.path.now a.picture.now a.work.now c.in_ok-check_swept.ensures.answer
    refl refl c.sweep_tape.ensures (c.clear.ensures ∙ ap (λ m. replicate m 0) c.sweep_tape.auto.work)
