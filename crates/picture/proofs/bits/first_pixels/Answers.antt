-- `bits::first_pixels` meets its contract.
use Rattle.picture.proofs.BitBytes.{first_bits}
use Rattle.picture.proofs.bits.first_pixels.Goals as goal

pub returns : goal.returns
returns c = λ k o. first_bits c.args.count k c.requires.some c.requires.in_byte o
