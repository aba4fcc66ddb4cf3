-- A flat grid is never too large; a solid one by its width, then by its height.
use borrow.Author.Tests.{lt-leb, lt-ltb}
use Rattle.program.proofs.Records.{flat_any, too_wide, height_decides}
use Rattle.program.proofs.record.too_large.Goals as goal

pub returns-else-grid-ge1 : goal.returns-else-grid-ge1
returns-else-grid-ge1 c =
    let h = c.if-grid-ge1.false in rw (lt-leb 1 c.args.grid.depth h) (flat_any _ h)

pub returns-then-grid-gt-SOLID_LIMIT : goal.returns-then-grid-gt-SOLID_LIMIT
returns-then-grid-gt-SOLID_LIMIT c =
    let h = c.if-grid-gt-SOLID_LIMIT.true in rw (lt-ltb 128 c.args.grid.width h) (too_wide _ c.if-grid-ge1.true h)

pub returns-else-grid-gt-SOLID_LIMIT : goal.returns-else-grid-gt-SOLID_LIMIT
returns-else-grid-gt-SOLID_LIMIT c = height_decides _ c.if-grid-ge1.true c.if-grid-gt-SOLID_LIMIT.false
