-- The part's bytes, by what becomes of one.
use Rattle.std.proofs.Common.{rules}
use Rattle.patches.specs.Patches.{bytes_in}
use Rattle.patches.proofs.copy_part.Goals as goal

pub returns : goal.returns
returns c = c.set_part.ensures (λ b i. bytes_in c.args.other.now i) (λ b i r h. search rules)
