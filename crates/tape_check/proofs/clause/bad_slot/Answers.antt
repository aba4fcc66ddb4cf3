-- `clause::bad_slot` meets its contract.
use Rattle.tape.proofs.FieldValues.{all_kept}
use Rattle.tape_check.proofs.ClauseLines.{slot_line}
use Rattle.tape_check.proofs.clause.bad_slot.Goals as goal

pub returns : goal.returns
returns c =
    let a = c.args in
    slot_line a.f (all_kept a.f c.struct_told-1.given) a.slots _ _ _ _ _
    c.is_slot-3.ensures
    c.uses_left.ensures c.is_slot.ensures c.uses_right.ensures
    c.is_slot-2.ensures
