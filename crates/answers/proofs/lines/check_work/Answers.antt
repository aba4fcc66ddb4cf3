-- Compared with the least length.
use Rattle.answers.proofs.LineLaws.{work_short, work_enough}
use Rattle.answers.proofs.lines.check_work.Goals as goal

pub returns-then-length-lt-WORK_LIMIT : goal.returns-then-length-lt-WORK_LIMIT
returns-then-length-lt-WORK_LIMIT c = work_short _ c.if-length-lt-WORK_LIMIT.true

pub returns : goal.returns
returns c = work_enough _ c.if-length-lt-WORK_LIMIT.false
