-- `clause::is_slot` meets its contract.
use borrow.Author.Rules.{rules}
use Rattle.tape_check.proofs.FieldTests.{slot_test}
use Rattle.tape_check.proofs.clause.is_slot.Goals as goal

pub returns : goal.returns
returns c = slot_test c.args.slots c.args.v c.ranges.v (search rules)
