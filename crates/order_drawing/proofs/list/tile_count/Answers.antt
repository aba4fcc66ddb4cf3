-- The children of the cell that is all of the grid.
use mathlib.Core.Bool.{true}
use native.Mathlib.Omega.{arith}
use Rattle.walk.proofs.CellLaws.{small, first_in_lem}
use Rattle.order_drawing.proofs.OrderWalk.{parent, counted}
use Rattle.order_drawing.proofs.list.tile_count.Goals as goal

pub cell_at-requires : goal.cell_at-requires
cell_at-requires c =
    record { small = small true _ c.requires; place = first_in_lem true _ c.requires; some = omega arith; few = omega arith }

pub child_count-requires : goal.child_count-requires
child_count-requires c = parent c.cell_at.ensures c.requires

pub returns : goal.returns
returns c =
    counted c.cell_at.ensures c.requires c.child_count.ensures
