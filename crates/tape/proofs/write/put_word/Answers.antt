-- `write::put_word` meets its contract; written out, so that a wrong order of the bytes is refused here.
use mathlib.Core.Path.{ap, ◌∙◌}
use mathlib.Core.List.{[], ◌∷◌}
use lib.ListN.{get_or}
use lib.Seq.{sets}
use Rattle.tape.proofs.write.put_word.Goals as goal

pub returns : goal.returns
returns c =
    c.put_pair.ensures
    ∙ ap (λ b. sets c.args.out.now c.args.at (get_or b 0 0 ∷ (get_or b 1 0 ∷ [])))
    c.to_le_bytes-bytes.ensures
