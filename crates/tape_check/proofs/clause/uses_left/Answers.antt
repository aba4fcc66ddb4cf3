-- `clause::uses_left` meets its contract.
use Rattle.tape_check.proofs.FieldTests.{uses_test}
use Rattle.tape_check.proofs.clause.uses_left.Goals as goal

pub returns : goal.returns
returns c = uses_test 3 c.args.opcode c.ranges.opcode
