-- The part's bytes, by what becomes of one.
use Rattle.std.proofs.Common.{rules}
use Rattle.patches.proofs.clear_part.Goals as goal

pub returns : goal.returns
returns c = c.set_part.ensures (λ b i. 0) (λ b i r h. search rules)
