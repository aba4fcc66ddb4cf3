-- The rows of a cell.
use native.Mathlib.Omega.{arith}
use Rattle.flat_samples.proofs.CellRows.{pixels_in, cell_fills}
use Rattle.flat_eights.proofs.look.fill.Goals as goal

pub fill_rect-requires : goal.fill_rect-requires
fill_rect-requires c =
    let p = c.requires in
    let x = p.cell.xs in
    let y = p.cell.ys in record {
      within = pixels_in _ _ _ p.ready p.even x.some x.in_grid (omega (arith, y));
      rows_in_order = omega (arith, y);
    }

pub returns : goal.returns
returns c = record {
  fills = cell_fills _ _ c.requires.cell c.fill_rect.ensures.by_index;
  apart = c.fill_rect.ensures.apart;
}
