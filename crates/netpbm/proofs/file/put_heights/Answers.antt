-- The heights passed are written, and nothing else.
use Rattle.std.proofs.Common.{refl, arith, ap, ◌∙◌, length, rules}
use Rattle.std.proofs.Math.Seq.{take_all}
use Rattle.rules.specs.Pictures.{high_first}
use Rattle.netpbm.proofs.Written.{nothing, renamed}
use Rattle.netpbm.proofs.FileRows.{height_more, two_bytes}
use Rattle.netpbm.proofs.file.put_heights.Goals as goal

pub loop-h-init : goal.loop-h-init
unfolding high_first
loop-h-init c = record { place = omega arith; written = nothing _ _ }

pub loop-h-preserved : goal.loop-h-preserved
loop-h-preserved c =
    let i = c.loop-h.h-index in
    let e = c.to_be_bytes.ensures ∙ two_bytes _ (search rules) in
    record {
      place = omega (arith, ap length e);
      written = height_more c.args.picture.now i _ c.loop-h-test.true refl c.loop-h.invariant.written (renamed e c.put-next.ensures);
    }

pub returns : goal.returns
returns c =
    renamed (ap high_first (take_all c.loop-h.h-index c.args.picture.now c.loop-h-test.false)) c.loop-h.invariant.written
