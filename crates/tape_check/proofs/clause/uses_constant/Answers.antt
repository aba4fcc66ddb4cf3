-- `clause::uses_constant` meets its contract.
use Rattle.tape_check.proofs.FieldTests.{constant_test}
use Rattle.tape_check.proofs.clause.uses_constant.Goals as goal

pub returns : goal.returns
returns c = constant_test c.args.opcode c.ranges.opcode
