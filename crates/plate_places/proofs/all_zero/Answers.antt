-- Each byte by its test.
use Rattle.std.proofs.Common.{rules}
use Rattle.plate_places.proofs.PlaceLaws.{zero_told}
use Rattle.plate_places.proofs.all_zero.Goals as goal

pub returns : goal.returns
returns c = zero_told _ _ (search rules)
