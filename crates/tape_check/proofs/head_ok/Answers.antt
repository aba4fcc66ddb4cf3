-- `head_ok` meets its contract.
use Rattle.tape_check.proofs.Reading.{head_is}
use Rattle.tape_check.proofs.head_ok.Goals as goal

pub returns : goal.returns
returns c =
    head_is _ _ _ c.has_mark.ensures c.is_edition.ensures
