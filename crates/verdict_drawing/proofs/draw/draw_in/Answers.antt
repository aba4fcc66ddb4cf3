-- The front of the room.
use mathlib.Core.Path.{sym}
use native.Mathlib.Omega.{arith}
use lib.Seq.{length-take-le}
use Rattle.verdict_drawing.proofs.Laying.{picture_most}
use Rattle.verdict_drawing.proofs.draw.draw_in.Goals as goal

pub slice_bounds-draw_over-end : goal.slice_bounds-draw_over-end
slice_bounds-draw_over-end c =
    let r = c.requires.for_turn.lent.ready in
    omega (arith, picture_most c.args.grid r.fault, r.size, c.requires.picture_limit_in_bounds)

pub slice_bounds-draw_over-end-2 : goal.slice_bounds-draw_over-end-2
slice_bounds-draw_over-end-2 c =
    let r = c.requires.for_turn.lent.ready in
    sym (length-take-le _ _ (omega (arith, picture_most c.args.grid r.fault, r.size, c.requires.picture_limit_in_bounds)))

pub draw_over-requires : goal.draw_over-requires
draw_over-requires c =
    let r = c.requires.for_turn.lent.ready in
    record {
      for_turn = c.requires.for_turn;
      apart_len = length-take-le _ _ (omega (arith, picture_most c.args.grid r.fault, r.size, c.requires.picture_limit_in_bounds));
    }
