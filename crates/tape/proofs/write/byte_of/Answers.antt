-- `write::byte_of` meets its contract.
use Rattle.tape.proofs.FieldValues.{slot_nat, byte_cast}
use Rattle.tape.proofs.write.byte_of.Goals as goal

pub overflow_cast-result : goal.overflow_cast-result
overflow_cast-result c = byte_cast c.args.v c.ranges.v c.requires

pub returns : goal.returns
returns c = slot_nat 256 c.args.v c.ranges.v c.requires
