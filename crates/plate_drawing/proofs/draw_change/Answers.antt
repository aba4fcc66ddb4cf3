-- The change by way of as much of a blank picture as the picture is long.
use mathlib.Core.Path.{sym, ap, ◌∙◌}
use Prim.Native.Nat.{ℕ}
use native.Mathlib.Omega.{arith}
use lib.ListN.{length, replicate, length-replicate}
use lib.Seq.{length-take-le}
use Rattle.plate_drawing.specs.Afresh.{picture_limit}
use Rattle.plate_drawing.proofs.Redrawn.{picture_fits, blank_front}
use Rattle.plate_drawing.proofs.draw_change.Goals as goal

pub slice_bounds-blank-end : goal.slice_bounds-blank-end
slice_bounds-blank-end c =
    let e = ap length c.blank_picture-blank.ensures ∙ length-replicate {A = ℕ} picture_limit 0 in
    omega (arith, e, picture_fits c.requires.ready)

pub slice_bounds-redraw-end : goal.slice_bounds-redraw-end
slice_bounds-redraw-end c =
    let e = ap length c.blank_picture-blank.ensures ∙ length-replicate {A = ℕ} picture_limit 0 in
    sym (length-take-le _ _ (omega (arith, e, picture_fits c.requires.ready)))

pub redraw-requires : goal.redraw-requires
redraw-requires c =
    record {
      change = c.requires;
      clean = blank_front _ c.blank_picture-blank.ensures (picture_fits c.requires.ready)
          ∙ ap (λ n. replicate n 0) c.requires.ready.size;
    }
