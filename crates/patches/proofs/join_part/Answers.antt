-- The part's bytes, by what becomes of one.
use Rattle.std.proofs.Common.{rules, bit_or, get_or}
use Rattle.patches.proofs.join_part.Goals as goal

pub returns : goal.returns
returns c = c.set_part.ensures (λ b i. bit_or b (get_or c.args.other.now i 0)) (λ b i r h. search rules)
