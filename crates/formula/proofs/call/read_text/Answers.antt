-- Reading a text, with the place and the count of a call that reads no tape and draws nothing.
use Rattle.formula.proofs.TextLaws.{answered}
use Rattle.formula.proofs.call.read_text.Goals as goal

pub returns-in-Ok : goal.returns-in-Ok
returns-in-Ok c = answered _ c.in-Ok.ensures c.of.ensures

pub returns-in-Err : goal.returns-in-Err
returns-in-Err c = answered _ c.in-Err.ensures (rw c.into.ensures at c.of-in-Err.ensures)
