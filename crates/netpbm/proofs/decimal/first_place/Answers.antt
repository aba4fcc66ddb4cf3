-- `decimal::first_place` meets its contract. The invariant of its loop: the number has a digit in the place. The
-- measure is what the place leaves of the number. Assumes nothing.
use native.Mathlib.Omega.{arith}
use Rattle.netpbm.proofs.PlaceLaws.{positive, ones, place_up, place_fits}
use Rattle.netpbm.proofs.decimal.first_place.Goals as goal

pub loop-place-init : goal.loop-place-init
loop-place-init c = ones _

pub nonzero_div-v : goal.nonzero_div-v
nonzero_div-v c = omega (arith, positive c.loop-place.invariant)

pub overflow_mul-place : goal.overflow_mul-place
overflow_mul-place c = omega (arith, place_fits c.loop-place.invariant c.loop-place-test.true)

pub loop-place-smaller : goal.loop-place-smaller
loop-place-smaller c = omega (arith, positive c.loop-place.invariant, place_fits c.loop-place.invariant c.loop-place-test.true)

pub loop-place-preserved : goal.loop-place-preserved
loop-place-preserved c = place_up c.loop-place.invariant c.loop-place-test.true

pub returns : goal.returns
returns c = (c.loop-place.invariant, c.loop-place-test.false)
