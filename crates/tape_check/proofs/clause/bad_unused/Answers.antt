-- `clause::bad_unused` meets its contract.
use Rattle.tape.proofs.FieldValues.{all_kept}
use Rattle.tape_check.proofs.ClauseLines.{unused_line}
use Rattle.tape_check.proofs.FieldTests.{zero_test}
use Rattle.tape_check.proofs.clause.bad_unused.Goals as goal

pub returns : goal.returns
returns c =
    let f = c.args.f in
    let told = c.struct_told-1.given in
    unused_line f (all_kept f told) _ _ _ _ _ _ c.uses_left.ensures
    (zero_test f.left told.1.1.0.1) c.uses_right.ensures
    (zero_test f.right told.1.1.1.0.1) c.uses_constant.ensures
    (zero_test f.constant told.1.1.1.1.0.1)
