-- `clause::bad_read` meets its contract.
use Rattle.tape.proofs.FieldValues.{all_kept}
use Rattle.tape_check.proofs.ClauseLines.{left_slot, right_slot, read_line}
use Rattle.tape_check.proofs.clause.bad_read.Goals as goal

pub unwritten-left-requires : goal.unwritten-left-requires
unwritten-left-requires c =
    left_slot c.args.f (all_kept c.args.f c.struct_told-1.given) c.args.slots _ c.requires.slots_le_slot_limit c.requires.f_value
    c.uses_left.ensures

pub unwritten-right-requires : goal.unwritten-right-requires
unwritten-right-requires c =
    right_slot c.args.f (all_kept c.args.f c.struct_told-1.given) c.args.slots _ c.requires.slots_le_slot_limit
    c.requires.f_value
    c.uses_right.ensures

pub returns : goal.returns
returns c =
    λ ns i.
    let f = c.args.f in
    read_line f (all_kept f c.struct_told-1.given) ns _ _ _ _ c.uses_left.ensures
    (c.unwritten-left.ensures ns i) c.uses_right.ensures (c.unwritten-right.ensures ns i)
