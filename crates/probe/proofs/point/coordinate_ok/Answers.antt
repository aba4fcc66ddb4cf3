-- Both tests, with the limit as its bits.
use lib.Ieee.{of_bits, neg}
use Rattle.probe.proofs.Units.{within_limits}
use Rattle.probe.proofs.point.coordinate_ok.Goals as goal

pub returns : goal.returns
unfolding of_bits neg
returns c = within_limits c.args.c
