-- `clause::bad_constant` meets its contract.
use Rattle.tape.proofs.FieldValues.{all_kept}
use Rattle.tape_check.proofs.ClauseLines.{constant_line}
use Rattle.tape_check.proofs.FieldTests.{least_test}
use Rattle.tape_check.proofs.clause.bad_constant.Goals as goal

pub returns : goal.returns
returns c =
    let f = c.args.f in
    let told = c.struct_told-1.given in
    constant_line f (all_kept f told) _ _ c.uses_constant.ensures
    (least_test f.constant told.1.1.1.1.0.1)
