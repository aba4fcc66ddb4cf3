-- The place's bytes scanned.
use mathlib.Core.Path.{ap, ◌∙◌}
use native.Mathlib.Omega.{arith}
use Rattle.plate_rules.specs.Plate.{all_zero}
use Rattle.plate_rules.proofs.Places.{place_size_lem}
use Rattle.plate_places.proofs.PlaceLaws.{place_bytes}
use Rattle.plate_checks.proofs.is_empty.Goals as goal

pub slice_bounds-all_zero-end : goal.slice_bounds-all_zero-end
slice_bounds-all_zero-end c = omega (arith, place_size_lem)

pub returns : goal.returns
returns c =
    c.all_zero.ensures ∙ ap all_zero (place_bytes c.args.memory.now c.args.place c.requires.place_in_memory)
