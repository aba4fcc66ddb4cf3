-- The place's bytes filled.
use mathlib.Core.Path.{ap, ◌∙◌}
use Prim.Native.Nat.{◌+◌, ◌*◌, ◌-◌}
use borrow.Rule.Slice.PartMut.{put_mid}
use native.Mathlib.Omega.{arith}
use Rattle.plate_rules.proofs.Places.{place_size_lem}
use Rattle.plate_places.proofs.PlaceLaws.{part_size, stored_part}
use Rattle.plate_places.proofs.store_tape.Goals as goal

pub slice_bounds-fill_place-end : goal.slice_bounds-fill_place-end
slice_bounds-fill_place-end c = omega (arith, place_size_lem)

pub fill_place-requires : goal.fill_place-requires
fill_place-requires c = record {
  place_len = part_size _ _ c.requires.memory_len c.requires.place_in_memory;
  tape_in_place = c.requires.tape_in_place;
}

pub returns : goal.returns
returns c =
    let a = c.args in
    ap (λ b. put_mid (a.place * 65536) (a.place * 65536 + 65536 - a.place * 65536) a.memory.now b) c.fill_place.ensures
    ∙ stored_part a.place (a.place * 65536 + 65536 - a.place * 65536) _ a.memory.now (omega arith)
