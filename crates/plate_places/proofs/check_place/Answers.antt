-- Empty, or what reading its tape comes to.
use mathlib.Core.Path.{sym, ◌∙◌}
use lib.Seq.{length-take-le}
use Rattle.std.proofs.lemmas.Result.{err_from_is_err_and}
use Rattle.plate_places.proofs.PlaceLaws.{place_empty, place_refused, place_accepted}
use Rattle.plate_places.proofs.check_place.Goals as goal

pub returns-then-all_zero : goal.returns-then-all_zero
returns-then-all_zero c = place_empty _ (sym c.if-all_zero.true ∙ c.all_zero.ensures)

pub slice_bounds-check_tape-end : goal.slice_bounds-check_tape-end
slice_bounds-check_tape-end c = sym (length-take-le _ _ c.tape_end-end.ensures.within)

pub returns-in_err-check_tape : goal.returns-in_err-check_tape
returns-in_err-check_tape c =
    let p = err_from_is_err_and c.from_residual.result c.from_residual.ensures.1 in
    rw (p.1, p.2)
    (place_refused _ _ (sym c.if-all_zero.false ∙ c.all_zero.ensures) c.tape_end-end.ensures c.in_err-check_tape.ensures)

pub returns : goal.returns
returns c = place_accepted _ _ (sym c.if-all_zero.false ∙ c.all_zero.ensures) c.tape_end-end.ensures c.in_ok-check_tape.ensures
