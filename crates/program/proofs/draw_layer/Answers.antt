-- The refusal's line in place of the file, or the file and the count's line.
use Rattle.std.proofs.Common.{refl}
use Rattle.faults.proofs.NumberLaws.{some_number}
use Rattle.program.proofs.Inputs.{said_refused, said_done}
use Rattle.program.proofs.draw_layer.Goals as goal

pub returns-in-Ok : goal.returns-in-Ok
returns-in-Ok c =
    said_done _ _ _ _ c.in-Ok.ensures _ _ _ refl c.put_count.ensures.0 c.of.ensures refl

pub returns-in-Err : goal.returns-in-Err
returns-in-Err c =
    said_refused _ _ _ _ c.in-Err.ensures _ _ _ (some_number _)
    (rw c.number.ensures at c.put_refused.ensures.0) c.of-in-Err.ensures refl
