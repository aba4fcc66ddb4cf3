-- Refused with no figure and every byte as it was, or the stop's figures and the work buffer cleared.
use mathlib.Core.Path.{refl, ap, ◌∙◌}
use lib.ListN.{replicate}
use Rattle.faults.proofs.NumberLaws.{some_number}
use Rattle.reason.proofs.Calls.{same_figures, asked, says_refused, says_done}
use borrow.Author.Rules.{rules}
use Rattle.reason.proofs.explain_pixel.Goals as goal

pub returns-in-Err : goal.returns-in-Err
returns-in-Err c =
    let a = c.args in
    says_refused a.tape.now a.grid a.x a.y a.work.now c.in-Err.ensures.answer (some_number _) c.into.ensures refl

pub find_stop-s-requires : goal.find_stop-s-requires
find_stop-s-requires c =
    let a = c.args in
    asked a.tape.now a.grid a.x a.y a.work.now c.in-Ok.ensures.answer refl

pub returns-in-Ok : goal.returns-in-Ok
returns-in-Ok c =
    let a = c.args in
    says_done a.tape.now a.grid a.x a.y a.work.now c.in-Ok.ensures.answer refl c.of.ensures
    (same_figures c.find_stop-s.result (search rules) (search rules)
    ∙ c.find_stop-s.ensures)
    (c.clear.ensures ∙ ap (λ m. replicate m 0) c.find_stop-s.auto.work)
