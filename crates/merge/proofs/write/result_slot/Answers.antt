-- `write::result_slot` meets its contract.
use native.Mathlib.Omega.{arith}
use Rattle.merge.proofs.Copying.{sizes, result_is}
use Rattle.merge.proofs.write.result_slot.Goals as goal

pub byte_at-requires : goal.byte_at-requires
byte_at-requires c =
    omega (arith, (sizes c.args.tape.now c.args.count c.requires).bytes)

pub returns : goal.returns
returns c =
    result_is c.args.tape.now c.args.count c.requires c.byte_at.result c.byte_at.ensures.0
