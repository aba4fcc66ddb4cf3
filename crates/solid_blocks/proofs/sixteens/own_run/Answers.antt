-- What the look counted, or one run.
use Rattle.solid_blocks.proofs.InsideLaws.{own_done, own_open}
use Rattle.solid_blocks.proofs.sixteens.own_run.Goals as goal

pub returns-in-Done : goal.returns-in-Done
returns-in-Done c = own_done c.in-Done.is

pub returns-in-Open : goal.returns-in-Open
returns-in-Open c = own_open c.in-Open.is
