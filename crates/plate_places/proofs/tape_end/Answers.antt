-- The tape's length by its head, or the whole place.
use mathlib.Core.Path.{ap}
use Prim.Native.Nat.{◌+◌, ◌*◌}
use native.Mathlib.Omega.{arith}
use Rattle.plate_rules.proofs.Places.{place_size_lem}
use Rattle.plate_places.proofs.PlaceLaws.{tape_least}
use Rattle.plate_places.proofs.tape_end.Goals as goal

pub word_at-requires : goal.word_at-requires
word_at-requires c = omega (arith, place_size_lem, c.requires)

pub returns : goal.returns
returns c = tape_least _ _ _ (ap (λ n. 8 + 10 * n) c.word_at.ensures.0) c.min.ensures
