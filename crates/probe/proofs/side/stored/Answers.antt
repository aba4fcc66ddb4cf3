-- The division, with 65,536 as its bits.
use Rattle.std.proofs.Common.{false, pos, ap, to_z-of_z}
use lib.Ieee.{binary64, fin, of_bits, of_int, div}
use Rattle.rules.specs.Probes.{stored_float}
use Rattle.probe.proofs.side.stored.Goals as goal

pub returns : goal.returns
unfolding stored_float of_bits
returns c = ap (λ z. div binary64 (of_int binary64 z) (fin false 1 (pos 16))) (to_z-of_z c.ranges.v)
