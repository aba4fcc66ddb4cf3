-- `clause::uses_right` meets its contract.
use Rattle.tape_check.proofs.FieldTests.{uses_test}
use Rattle.tape_check.proofs.clause.uses_right.Goals as goal

pub returns : goal.returns
returns c = uses_test 8 c.args.opcode c.ranges.opcode
