-- Each end is the lesser of the grid's and the side's.
use mathlib.Core.Path.{refl}
use Rattle.walk.proofs.CellLaws.{ends}
use Rattle.walk.proofs.cell.cell_at.Goals as goal

pub returns : goal.returns
returns c =
    let a = c.args in
    let p = c.requires in
    record {
      ok = record {
        xs = ends a.grid.width _ a.side _ c.lesser.ensures p.place.x_in p.some;
        ys = ends a.grid.height _ a.side _ c.lesser-2.ensures p.place.y_in p.some;
        zs = ends a.layers _ a.side _ c.lesser-3.ensures p.place.z_in p.some;
      };
      same = refl;
    }
