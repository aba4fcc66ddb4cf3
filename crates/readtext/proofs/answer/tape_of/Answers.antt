-- The tape that was read, as long as its head says, or the line of the refusal in front of the bytes as they came.
use Rattle.std.proofs.Common.{rules, refl}
use Rattle.faults.proofs.NumberLaws.{some_number}
use Rattle.formula.proofs.TextLaws.{answered}
use Rattle.readtext.proofs.Answering.{said_refused, said_done}
use Rattle.readtext.proofs.answer.tape_of.Goals as goal

pub returns-in-Ok : goal.returns-in-Ok
returns-in-Ok c =
    said_done _ _ _ _ (answered _ c.in-Ok.ensures refl) (search rules) refl _ c.word_at.ensures.0

pub returns-in-Err : goal.returns-in-Err
returns-in-Err c =
    said_refused _ _ _ _ (answered _ c.in-Err.ensures refl) (search rules) (some_number _)
    (rw c.number.ensures at c.put_refused.ensures.0)
