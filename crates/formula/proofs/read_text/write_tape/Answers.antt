-- The part that is lent becomes the tape's bytes, and the rest stays.
use Rattle.formula.proofs.TextLaws.{packed_front}
use Rattle.formula.proofs.read_text.write_tape.Goals as goal

pub returns : goal.returns
returns c = packed_front _ c.args.out.now c.requires c.pack.new.out c.pack.result c.pack.ensures.packs
