-- One more lane, one more bit.
use mir.Syntax.{w32}
use mir.Facts.{to_z-of_z}
use borrow.Author.Rules.{sfits_of}
use Rattle.lanes.specs.Lanes.{lane}
use Rattle.flat_samples.proofs.SignRows.{no_signs, one_sign, all_signs}
use Rattle.flat_samples.proofs.samples.sign_byte.Goals as goal

pub loop-k-init : goal.loop-k-init
loop-k-init c = no_signs _ _

pub loop-k-preserved : goal.loop-k-preserved
loop-k-preserved c =
    let l = c.loop-k in
    let f = sfits_of c.lane_on-arg-1.given in
    let e = rw (to_z-of_z {w = w32} {z = lane c.args.row l.k} f) at c.lane_on.ensures in
    one_sign l.invariant c.loop-k-test.true _ _ e c.with_pixel-byte.ensures

pub returns : goal.returns
returns c = all_signs c.loop-k.invariant c.loop-k-test.false
