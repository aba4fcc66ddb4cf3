-- Refused with every byte as it was, or the full drawing.
use Rattle.std.proofs.Common.{refl, true, false}
use Rattle.std.proofs.lemmas.Result.{err_from_is_err_and}
use Rattle.faults.proofs.NumberLaws.{some_number}
use Rattle.drawings.proofs.Calls.{full_refused, full_draws, full_done}
use Rattle.solid_drawing.proofs.full.Goals as goal

pub returns-in_err-check_full : goal.returns-in_err-check_full
returns-in_err-check_full c =
    let p = err_from_is_err_and c.from_residual.result c.from_residual.ensures.1 in
    rw (p.1, p.2) (full_refused true _ _ _ c.in_err-check_full.ensures.answer (some_number _))

pub draw-requires : goal.draw-requires
draw-requires c =
    full_draws true c.args.tape.now c.args.grid c.args.picture.now c.in_ok-check_full.ensures.answer refl

pub returns : goal.returns
returns c = full_done true _ _ _ c.in_ok-check_full.ensures.answer refl refl c.draw.ensures
