-- Cleared, and the tape copied to its front.
use mathlib.Core.Path.{ap}
use mathlib.Core.List.{◌++◌}
use lib.ListN.{length, drop}
use Rattle.plate_places.proofs.PlaceLaws.{fill_padded}
use Rattle.plate_places.proofs.fill_place.Goals as goal

pub returns : goal.returns
returns c =
    let t = c.args.tape.now in
    fill_padded t c.clear.new.picture _ _ c.clear.ensures c.requires.place_len
    (ap (λ b. b ++ drop (length t) c.clear.new.picture) c.copy_from_slice.ensures.after)
