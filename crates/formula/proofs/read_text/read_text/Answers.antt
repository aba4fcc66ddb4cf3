-- 14, then 17 or 18, then 19, or the tape in front of the bytes that stay.
use Rattle.std.proofs.lemmas.Result.{err_from_is_err_and}
use Rattle.formula.proofs.TextLaws.{can_pack, refused_length, refused_stop, refused_clauses, refused_slots, text_done}
use Rattle.formula.proofs.read_text.read_text.Goals.{then-sheet-gt-FIRST_CLAUSES-via-then-sheet-gt-FIRST_CLAUSES, then-sheet-gt-FIRST_CLAUSES-via-else-sheet-gt-FIRST_CLAUSES+then-sheet-gt-FIRST_SLOTS}
use Rattle.formula.proofs.read_text.read_text.Goals as goal

pub returns-then-out-ne-TAPE_ROOM : goal.returns-then-out-ne-TAPE_ROOM
returns-then-out-ne-TAPE_ROOM c = refused_length _ _ c.if-out-ne-TAPE_ROOM.true

pub returns-in_err-whole : goal.returns-in_err-whole
returns-in_err-whole c =
    let p = err_from_is_err_and c.from_residual.result c.from_residual.ensures.1 in
    rw p.1
    (refused_stop _ _ c.if-out-ne-TAPE_ROOM.false _ _ c.in_err-whole.ensures p.2)

pub returns-then-sheet-gt-FIRST_CLAUSES : goal.returns-then-sheet-gt-FIRST_CLAUSES
returns-then-sheet-gt-FIRST_CLAUSES c =
    let room = c.if-out-ne-TAPE_ROOM.false in
    let g = c.in_ok-whole.ensures in
    elim c.then-sheet-gt-FIRST_CLAUSES.branch [
      | then-sheet-gt-FIRST_CLAUSES-via-then-sheet-gt-FIRST_CLAUSES w ↦
          refused_clauses _ _ room _ g w.if-sheet-gt-FIRST_CLAUSES.true
      | then-sheet-gt-FIRST_CLAUSES-via-else-sheet-gt-FIRST_CLAUSES+then-sheet-gt-FIRST_SLOTS w ↦
          refused_slots _ _ room _ g w.if-sheet-gt-FIRST_CLAUSES.false w.if-sheet-gt-FIRST_SLOTS.true
    ]

pub write_tape-requires : goal.write_tape-requires
write_tape-requires c =
    can_pack _ _ c.in_ok-whole.ensures c.if-sheet-gt-FIRST_CLAUSES.false c.if-sheet-gt-FIRST_SLOTS.false _
    c.if-out-ne-TAPE_ROOM.false

pub returns : goal.returns
returns c =
    text_done _ _ c.if-out-ne-TAPE_ROOM.false _ c.in_ok-whole.ensures c.if-sheet-gt-FIRST_CLAUSES.false
    c.if-sheet-gt-FIRST_SLOTS.false _ c.write_tape.ensures
