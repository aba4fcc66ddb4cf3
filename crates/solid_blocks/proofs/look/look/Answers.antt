-- Hidden; or judged over its box, and settled.
use mathlib.Core.Path.{refl}
use mathlib.Core.Bool.{true, false}
use Rattle.picture.specs.Shapes.{grid_in}
use Rattle.walk.specs.Cells.{region_in}
use Rattle.walk.specs.Draws.{Hidden, Same}
use Rattle.walk.proofs.LookLaws.{look_cell, look_judge, done_hidden}
use Rattle.solid_blocks.proofs.look.look.Goals as goal
use Rattle.solid_blocks.proofs.look.look.Goals.{Else-is_hidden}

seen : (c : Else-is_hidden)
    → Hidden Same (grid_in c.args.grid true) (region_in c.args.c) c.args.picture.now false
seen c = rw c.if-is_hidden.false at c.is_hidden.ensures

pub is_hidden-requires : goal.is_hidden-requires
is_hidden-requires c =
    let p = c.requires in
    record { ready = p.ready; cell = p.cell }

pub returns-then-is_hidden : goal.returns-then-is_hidden
returns-then-is_hidden c = done_hidden true (rw c.if-is_hidden.true at c.is_hidden.ensures)

pub solid_bounds-requires : goal.solid_bounds-requires
solid_bounds-requires c = look_cell c.requires

pub judge-judged-requires : goal.judge-judged-requires
judge-judged-requires c =
    look_judge c.requires c.solid_bounds.ensures.ok

pub settle-requires : goal.settle-requires
settle-requires c =
    let p = c.requires in
    record { ready = p.ready; cell = p.cell }

pub returns : goal.returns
returns c =
    c.settle.ensures.over _ _ _ _ _ _ c.solid_bounds.ensures (seen (goal.at.returns c).Else-is_hidden) c.judge-judged.ensures refl
