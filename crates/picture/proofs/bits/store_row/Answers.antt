-- `bits::store_row` meets its contract.
use Rattle.std.proofs.Common.{◌+◌, ◌*◌, ◌/◌, ◌<◌, length, arith}
use Rattle.rules.specs.Pictures.{stride}
use Rattle.picture.proofs.BitShows.{stored, row_in}
use Rattle.picture.proofs.bits.store_row.Goals as goal

pub returns : goal.returns
returns c =
    let a = c.args in
    let place : a.y * stride a.width + a.x / 8 < length a.picture.now =
    omega (arith, row_in a.width a.x (a.x + 1) (a.y + 1) a.y a.picture.now c.requires.within (omega arith)) in
    rw (c.store.ensures, c.stride.ensures) (stored a.width a.x a.y a.byte a.picture.now place c.requires.spare_zero)
