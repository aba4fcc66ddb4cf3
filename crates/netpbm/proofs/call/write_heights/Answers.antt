-- The file, with the place and the count of a call that reads no tape and draws nothing.
use Rattle.answers.proofs.Ends.{unplaced}
use Rattle.netpbm.proofs.call.write_heights.Goals as goal

pub returns : goal.returns
returns c =
    record { answer = unplaced c.answer.ensures c.write_heights.ensures.number; out = c.write_heights.ensures.bytes }
