-- `bytes::constant_at` meets its contract.
use mathlib.Core.Path.{◌∙◌}
use Rattle.tape.proofs.ByteClauses.{constant_is, four_bytes}
use Rattle.tape.proofs.FieldValues.{kept_is}
use Rattle.tape.proofs.bytes.constant_at.Goals as goal

pub returns : goal.returns
returns c =
    let r = c.from_le_bytes in
    kept_is r.result r.type_inv ∙ r.ensures
    ∙ constant_is c.args.s.now c.args.at _ (four_bytes c.args.s.now c.args.at)
