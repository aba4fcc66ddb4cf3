-- `write::put_minimum` meets its contract.
use mathlib.Core.Path.{ap, ◌∙◌}
use mathlib.Core.List.{[], ◌∷◌}
use lib.Seq.{sets}
use Rattle.rules.specs.Values.{Clause}
use Rattle.rules.specs.Tapes.{clause_bytes}
use Rattle.merge.proofs.Raising.{minimum_bytes, minimum_is}
use Rattle.merge.proofs.write.put_minimum.Goals as goal

pub put_clause-requires : goal.put_clause-requires
put_clause-requires c = record {
  at_in_bounds = c.requires.at_bound;
  in_bytes = minimum_bytes c.args.first c.args.second c.requires.first_bound.0 c.requires.first_bound.1;
}

pub returns : goal.returns
returns c =
    c.put_clause.ensures
    ∙ ap (λ (m : Clause). sets c.args.out.now c.args.at (clause_bytes (m ∷ [])))
    (minimum_is c.args.first c.args.second c.requires.first_bound.0 c.requires.first_bound.1)
