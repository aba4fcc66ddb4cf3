-- `clause::is_opcode` meets its contract.
use Rattle.tape_check.proofs.FieldTests.{opcode_test}
use Rattle.tape_check.proofs.clause.is_opcode.Goals as goal

pub returns : goal.returns
returns c = opcode_test c.args.opcode c.ranges.opcode
