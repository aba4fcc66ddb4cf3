-- `raise::raised` meets its contract.
use Rattle.tape.proofs.FieldValues.{all_kept}
use Rattle.merge.proofs.Raising.{raised_to}
use Rattle.merge.proofs.raise.raised.Goals as goal

pub returns : goal.returns
returns c =
    raised_to c.args.f (all_kept c.args.f c.struct_told-1.given) c.args.by c.requires.in_slots c.requires.by_le_slot_limit
    _ _ _ _ _ c.raised_field.ensures c.uses_left.ensures c.raised_field-2.ensures
    c.uses_right.ensures c.raised_field-3.ensures
