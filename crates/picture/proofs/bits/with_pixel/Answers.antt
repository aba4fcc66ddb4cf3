-- `bits::with_pixel` meets its contract.
use Rattle.picture.proofs.BitBytes.{with_pixel_lem}
use Rattle.picture.proofs.bits.with_pixel.Goals as goal

pub returns : goal.returns
returns c = λ bs e f. with_pixel_lem c.args.byte c.args.k c.args.on bs c.requires e f
