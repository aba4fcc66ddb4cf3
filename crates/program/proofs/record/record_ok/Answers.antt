-- Too short, or its mark compared.
use Rattle.std.proofs.Common.{length}
use borrow.Author.Tests.{lt-leb}
use Rattle.program.proofs.Records.{too_short, mark_tested}
use Rattle.program.proofs.record.record_ok.Goals as goal

pub returns-then-input-ge-RECORD_LENGTH : goal.returns-then-input-ge-RECORD_LENGTH
returns-then-input-ge-RECORD_LENGTH c = mark_tested _ c.if-input-ge-RECORD_LENGTH.true c.has_mark.ensures

pub returns-else-input-ge-RECORD_LENGTH : goal.returns-else-input-ge-RECORD_LENGTH
returns-else-input-ge-RECORD_LENGTH c =
    let h = c.if-input-ge-RECORD_LENGTH.false in
    rw (lt-leb 32 (length c.args.input.now) h) (too_short _ h)
