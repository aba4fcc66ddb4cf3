-- Refused with every byte as it was, or the walk's picture and count, and the work buffer cleared.
use Rattle.std.proofs.Common.{refl, ap, ◌∙◌, true, false}
use lib.ListN.{replicate}
use Rattle.std.proofs.lemmas.Result.{err_from_is_err_and}
use Rattle.faults.proofs.NumberLaws.{some_number}
use Rattle.drawings.proofs.Calls.{tiles_refused, tiles_draw, tiles_done}
use Rattle.solid_drawing.proofs.by_tiles.Goals as goal

pub returns-in_err-check_tiles : goal.returns-in_err-check_tiles
returns-in_err-check_tiles c =
    let p = err_from_is_err_and c.from_residual.result c.from_residual.ensures.1 in
    rw (p.1, p.2) (tiles_refused true _ _ _ _ c.in_err-check_tiles.ensures.answer (some_number _))

pub tile-count-requires : goal.tile-count-requires
tile-count-requires c =
    let a = c.args in
    tiles_draw true a.tape.now a.grid a.picture.now a.work.now c.in_ok-check_tiles.ensures.answer refl

pub returns : goal.returns
returns c =
    tiles_done true _ _ _ _ c.in_ok-check_tiles.ensures.answer refl refl c.tile-count.ensures
    (c.clear.ensures ∙ ap (λ m. replicate m 0) c.tile-count.auto.work)
