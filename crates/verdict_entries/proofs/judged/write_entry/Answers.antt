-- Judged and written.
use mathlib.Core.Path.{ap}
use Prim.Native.Nat.{◌+◌, ◌≤◌}
use native.Mathlib.Omega.{arith}
use lib.Dec.{eqb}
use lib.ListN.{length}
use Rattle.shortening.specs.Kept.{mark_room}
use Rattle.verdicts.specs.Verdicts.{byte_of}
use Rattle.plate_tiles.proofs.TileNumbers.{few_tiles}
use Rattle.verdict_entries.proofs.Judging.{entry_written, room_most, part_most}
use Rattle.verdict_entries.proofs.judged.write_entry.Goals.{After-kept_room}
use Rattle.verdict_entries.proofs.judged.write_entry.Goals as goal

room : (c : After-kept_room) → c.kept_room.result ≤ mark_room (length c.args.whole.now)
room c = room_most (eqb (byte_of c.tile_verdict-verdict.result) 3) _ _ c.kept_room.ensures

pub overflow_add-end : goal.overflow_add-end
overflow_add-end c = omega (arith, room c, c.requires.level.kept.kept.within)

pub entry_at-requires : goal.entry_at-requires
entry_at-requires c =
    let t = c.requires.tile in
    omega (arith, t.more, few_tiles t.sized)

pub slice_bounds-put_entry-end : goal.slice_bounds-put_entry-end
slice_bounds-put_entry-end c =
    let room : c.kept_room.result ≤ mark_room (length c.args.whole.now) = room_most (eqb (byte_of c.tile_verdict-verdict.result) 3) _ _ c.kept_room.ensures in
    omega (arith, room, c.requires.room, c.tile_verdict-verdict.auto.work)

pub put_entry-requires : goal.put_entry-requires
put_entry-requires c =
    let room : c.kept_room.result ≤ mark_room (length c.args.whole.now) = room_most (eqb (byte_of c.tile_verdict-verdict.result) 3) _ _ c.kept_room.ensures in
    let t = c.requires.tile in record {
      entry_in_table = omega (arith, c.entry_at.ensures, c.requires.size, t.more, few_tiles t.sized);
      marks_fit = part_most (length c.args.whole.now) 1536 c.kept_room.result _ (omega (arith, room, c.requires.level.kept.kept.within));
    }

pub returns : goal.returns
returns c =
    entry_written c.tile-cell.ensures c.tile_verdict-verdict.ensures _
    c.entry_at.ensures
    (ap (λ r. length c.args.whole.now + r) c.kept_room.ensures)
    (rw c.from.ensures at c.put_entry.ensures)
