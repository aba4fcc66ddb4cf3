-- The cell that holds the pixel, its box, and the judge over it.
use native.Mathlib.Omega.{arith}
use Rattle.reason.proofs.Pixels.{corner, cell_there}
use Rattle.reason.proofs.Levels.{judged_at}
use Rattle.reason.proofs.stop.judge_at.Goals as goal

pub overflow_mul-x : goal.overflow_mul-x
overflow_mul-x c = omega (arith, corner c.requires.for_level.pixel c.args.side)

pub overflow_mul-y : goal.overflow_mul-y
overflow_mul-y c = omega (arith, corner c.requires.for_level.pixel c.args.side)

pub cell_at-cell-requires : goal.cell_at-cell-requires
cell_at-cell-requires c =
    cell_there c.requires.for_level.pixel c.args.side c.requires.le_side.0 c.requires.le_side.1

pub flat_bounds-requires : goal.flat_bounds-requires
flat_bounds-requires c = record { fault = c.requires.for_level.pixel.fault; ok = c.cell_at-cell.ensures.ok }

pub judge-requires : goal.judge-requires
judge-requires c =
    let p = c.requires.for_level in
    record {
      level = p.level;
      box = c.flat_bounds.ensures.ok;
      marks = record { behind = omega arith; within = omega (arith, p.marks) };
      words = p.words;
    }

pub returns : goal.returns
returns c =
    judged_at c.cell_at-cell.ensures c.flat_bounds.ensures c.judge.ensures
