-- `bytes::fields_in` meets its contract.
use Rattle.tape.proofs.ByteClauses.{raw_is}
use Rattle.tape.proofs.bytes.fields_in.Goals as goal

pub returns : goal.returns
returns c =
    raw_is c.args.s.now c.args.at _ _ _ _ _ c.opcode_at.type_inv
    c.constant_at.type_inv
    c.opcode_at.ensures c.byte_at.ensures c.byte_at-2.ensures
    c.byte_at-3.ensures c.constant_at.ensures
