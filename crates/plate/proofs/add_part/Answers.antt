-- Line by line refused with all as it was; or the picture, the memory, and the work buffer cleared.
use mathlib.Core.Path.{ap, ◌∙◌}
use lib.ListN.{replicate}
use Rattle.std.proofs.lemmas.Result.{err_from_is_err_and}
use Rattle.plate.proofs.CallEnds.{memory_refused, memory_size}
use Rattle.plate.proofs.Adding.{tape_fits, place_free, add_lines_lem, add_at_22, add_at_tape, add_at_lent, add_asked, add_done}
use Rattle.plate.proofs.add_part.Goals as goal

pub returns-in_err-check_memory : goal.returns-in_err-check_memory
returns-in_err-check_memory c =
    let p = err_from_is_err_and c.from_residual.result c.from_residual.ensures.1 in
    rw (p.1, p.2)
    (memory_refused _ _ _ _ (add_lines_lem c.args.place c.args.tape.now c.args.grid _ _ _) _ c.in_err-check_memory.ensures)

pub check_free-requires : goal.check_free-requires
check_free-requires c = memory_size _ c.in_ok-check_memory.ensures

pub returns-in_err-check_free : goal.returns-in_err-check_free
returns-in_err-check_free c =
    let r = c.from_residual-in_err-check_free in
    let p = err_from_is_err_and r.result r.ensures.1 in
    rw (p.1, p.2) (add_at_22 _ _ c.args.grid _ _ _ c.in_ok-check_memory.ensures _ c.in_err-check_free.ensures)

pub returns-in_err-check_tape : goal.returns-in_err-check_tape
returns-in_err-check_tape c =
    let r = c.from_residual-in_err-check_tape in
    let p = err_from_is_err_and r.result r.ensures.1 in
    rw (p.1, p.2)
    (add_at_tape _ _ c.args.grid _ _ _ c.in_ok-check_memory.ensures c.in_ok-check_free.ensures _ c.in_err-check_tape.ensures)

pub returns-in_err-check_lent : goal.returns-in_err-check_lent
returns-in_err-check_lent c =
    let r = c.from_residual-in_err-check_lent in
    let p = err_from_is_err_and r.result r.ensures.1 in
    rw (p.1, p.2)
    (add_at_lent _ _ c.args.grid _ _ _ c.in_ok-check_memory.ensures c.in_ok-check_free.ensures c.in_ok-check_tape.ensures.number
    _ c.in_err-check_lent.ensures)

pub draw_change-requires : goal.draw_change-requires
draw_change-requires c =
    add_asked _ _ _ _ _ _ c.in_ok-check_memory.ensures c.in_ok-check_free.ensures c.in_ok-check_tape.ensures.number
    c.in_ok-check_lent.ensures

pub store_tape-requires : goal.store_tape-requires
store_tape-requires c =
    record {
      memory_len = memory_size _ c.in_ok-check_memory.ensures;
      place_in_memory = place_free _ _ c.in_ok-check_free.ensures;
      tape_in_place = tape_fits _ c.in_ok-check_tape.ensures.number;
    }

pub returns : goal.returns
returns c =
    add_done _ _ c.args.grid _ _ _ c.in_ok-check_memory.ensures c.in_ok-check_free.ensures c.in_ok-check_tape.ensures.number
    c.in_ok-check_lent.ensures c.store_tape.ensures c.draw_change.ensures
    (c.clear.ensures ∙ ap (λ n. replicate n 0) c.draw_change.auto.work)
