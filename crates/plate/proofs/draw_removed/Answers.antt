-- The part's tape in the memory, and the change that takes it away.
use mathlib.Core.Path.{sym, ap, subst, ◌∙◌}
use mathlib.Core.Bool.{false}
use native.Mathlib.Omega.{arith}
use lib.Seq.{length-take-le}
use Rattle.rules.specs.Tapes.{read_tape}
use Rattle.picture.specs.Shapes.{grid_in}
use Rattle.plate_rules.specs.Plate.{afresh, redrawn, stored, zeros}
use Rattle.plate_rules.proofs.Places.{place_size_lem}
use Rattle.plate_places.proofs.PlaceLaws.{part_size}
use Rattle.plate_drawing.specs.Afresh.{ForChange}
use Rattle.plate.proofs.Removing.{tape_there}
use Rattle.plate.proofs.draw_removed.Goals as goal

pub slice_bounds-part-end : goal.slice_bounds-part-end
slice_bounds-part-end c =
    let k = c.requires.others in omega (arith, k.size, k.place, place_size_lem)

pub tape_end-end-requires : goal.tape_end-end-requires
tape_end-end-requires c =
    part_size c.args.place c.args.memory.now c.requires.others.size c.requires.others.place

pub slice_bounds-draw_change-end : goal.slice_bounds-draw_change-end
slice_bounds-draw_change-end c = sym (length-take-le _ _ c.tape_end-end.ensures.within)

pub draw_change-requires : goal.draw_change-requires
draw_change-requires c =
    let a = c.args in
    subst (λ t. ForChange a.memory.now a.place t a.grid a.picture.now a.work.now)
    (sym (tape_there a.place a.memory.now c.requires.others.place c.tape_end-end.ensures)) c.requires

pub returns : goal.returns
returns c =
    let a = c.args in
    let g = grid_in a.grid false in
    c.draw_change.ensures
    ∙ ap (λ t. redrawn (read_tape t).tape g (afresh (stored a.place zeros a.memory.now) g) a.picture.now)
    (tape_there a.place a.memory.now c.requires.others.place c.tape_end-end.ensures)
