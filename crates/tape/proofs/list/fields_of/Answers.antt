-- `list::fields_of` meets its contract.
use Rattle.tape.proofs.ListClauses.{raw_at}
use Rattle.tape.proofs.list.fields_of.Goals as goal

pub returns : goal.returns
returns c =
    raw_at c.args.list.now c.args.at c.requires c.result-1.given
    c.result-2-1.given
    c.result-3-1.given c.result-4-1.given c.result-5-1.given
