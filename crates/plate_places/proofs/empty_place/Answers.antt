-- The place's bytes cleared.
use mathlib.Core.Path.{ap, ◌∙◌}
use Prim.Native.Nat.{◌+◌, ◌*◌, ◌-◌}
use borrow.Rule.Slice.PartMut.{put_mid}
use native.Mathlib.Omega.{arith}
use Rattle.plate_rules.proofs.Places.{place_size_lem}
use Rattle.plate_places.proofs.PlaceLaws.{part_size, stored_part, zeros_of}
use Rattle.plate_places.proofs.empty_place.Goals as goal

pub slice_bounds-clear-end : goal.slice_bounds-clear-end
slice_bounds-clear-end c = omega (arith, place_size_lem)

pub returns : goal.returns
returns c =
    let a = c.args in
    ap (λ b. put_mid (a.place * 65536) (a.place * 65536 + 65536 - a.place * 65536) a.memory.now b)
    (zeros_of _ _ c.clear.ensures (part_size a.place a.memory.now c.requires.memory_len c.requires.place_in_memory ∙ place_size_lem))
    ∙ stored_part a.place (a.place * 65536 + 65536 - a.place * 65536) _ a.memory.now (omega arith)
