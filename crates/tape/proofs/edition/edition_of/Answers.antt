-- `edition::edition_of` meets its contract.
use mathlib.Core.Path.{sym, ap}
use Rattle.rules.specs.Values.{pick}
use Rattle.rules.specs.Tapes.{edition}
use Rattle.tape.proofs.edition.edition_of.Goals as goal

pub returns-then-slots-clauses : goal.returns-then-slots-clauses
unfolding edition
returns-then-slots-clauses c = sym (ap (λ t. pick t 1 2) c.if-slots-clauses.true)

pub returns : goal.returns
unfolding edition
returns c = sym (ap (λ t. pick t 1 2) c.if-slots-clauses.false)
