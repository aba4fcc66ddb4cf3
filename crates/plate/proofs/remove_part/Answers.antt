-- Line by line refused with all as it was; or the picture, the memory, and the work buffer cleared.
use mathlib.Core.Path.{ap, ◌∙◌}
use lib.ListN.{replicate}
use Rattle.std.proofs.lemmas.Result.{err_from_is_err_and}
use Rattle.plate.proofs.CallEnds.{memory_refused, memory_size}
use Rattle.plate.proofs.Removing.{place_taken, remove_lines_lem, remove_at_22, remove_at_lent, remove_asked, remove_done}
use Rattle.plate.proofs.remove_part.Goals as goal

pub returns-in_err-check_memory : goal.returns-in_err-check_memory
returns-in_err-check_memory c =
    let p = err_from_is_err_and c.from_residual.result c.from_residual.ensures.1 in
    rw (p.1, p.2)
    (memory_refused _ _ _ _ (remove_lines_lem c.args.place c.args.grid _ _ _) _ c.in_err-check_memory.ensures)

pub check_taken-requires : goal.check_taken-requires
check_taken-requires c = memory_size _ c.in_ok-check_memory.ensures

pub returns-in_err-check_taken : goal.returns-in_err-check_taken
returns-in_err-check_taken c =
    let r = c.from_residual-in_err-check_taken in
    let p = err_from_is_err_and r.result r.ensures.1 in
    rw (p.1, p.2) (remove_at_22 _ c.args.grid _ _ _ c.in_ok-check_memory.ensures _ c.in_err-check_taken.ensures)

pub returns-in_err-check_lent : goal.returns-in_err-check_lent
returns-in_err-check_lent c =
    let r = c.from_residual-in_err-check_lent in
    let p = err_from_is_err_and r.result r.ensures.1 in
    rw (p.1, p.2)
    (remove_at_lent _ c.args.grid _ _ _ c.in_ok-check_memory.ensures c.in_ok-check_taken.ensures _ c.in_err-check_lent.ensures)

pub draw_removed-requires : goal.draw_removed-requires
draw_removed-requires c =
    remove_asked _ _ _ _ _ c.in_ok-check_memory.ensures c.in_ok-check_taken.ensures c.in_ok-check_lent.ensures

pub empty_place-requires : goal.empty_place-requires
empty_place-requires c =
    record {
      memory_len = memory_size _ c.in_ok-check_memory.ensures;
      place_in_memory = place_taken _ _ c.in_ok-check_taken.ensures;
    }

pub returns : goal.returns
returns c =
    remove_done _ c.args.grid _ _ _ c.in_ok-check_memory.ensures c.in_ok-check_taken.ensures c.in_ok-check_lent.ensures
    c.empty_place.ensures c.draw_removed.ensures
    (c.clear.ensures ∙ ap (λ n. replicate n 0) c.draw_removed.auto.work)
