-- `head_counts` meets its contract.
use mathlib.Core.Path.{ap₂}
use mathlib.Core.Bool.{◌&&◌}
use lib.Dec.{eqb}
use Rattle.rules.specs.Tapes.{head_counts}
use Rattle.tape_check.proofs.head_counts.Goals as goal

pub returns : goal.returns
unfolding head_counts
returns c =
    ap₂ (λ t e. t && eqb c.args.edition e) c.counts_ok.ensures c.edition_of.ensures
