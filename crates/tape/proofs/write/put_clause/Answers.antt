-- `write::put_clause` meets its contract: four runs of bytes, the last of them the constant's.
use native.Mathlib.Omega.{arith}
use Rattle.tape.proofs.FieldValues.{all_kept}
use Rattle.tape.proofs.WrittenBytes.{clause_stored}
use Rattle.tape.proofs.write.put_clause.Goals as goal

pub overflow_add-at-3 : goal.overflow_add-at-3
overflow_add-at-3 c = omega (arith, c.requires.at_in_bounds, c.well_formed)

pub returns : goal.returns
returns c =
    let a = c.args in
    clause_stored a.out.now c.put_mark.new.out c.put_pair.new.out c.put_pair-2.new.out
    c.put_constant.new.out a.at _ _ _ _ a.f (all_kept a.f c.struct_told-1.given)
    c.byte_of-opcode.ensures c.byte_of-target.ensures c.byte_of-left.ensures
    c.byte_of-right.ensures c.put_mark.ensures c.put_pair.ensures
    c.put_pair-2.ensures
    c.put_constant.ensures
