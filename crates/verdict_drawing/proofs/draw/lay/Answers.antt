-- The rectangle's ends, and the copy.
use native.Mathlib.Omega.{arith}
use Rattle.verdict_drawing.proofs.Numbering.{few_rows}
use Rattle.verdict_drawing.proofs.Laying.{least, x_ends, y_ends, to_lay, laid_part}
use Rattle.verdict_drawing.proofs.draw.lay.Goals as goal

pub overflow_mul-x : goal.overflow_mul-x
overflow_mul-x c = omega (arith, few_rows c.requires.in_grid)

pub overflow_mul-y : goal.overflow_mul-y
overflow_mul-y c = omega (arith, few_rows c.requires.in_grid)

pub overflow_mul-rectangle : goal.overflow_mul-rectangle
overflow_mul-rectangle c = omega (arith, few_rows c.requires.in_grid)

pub overflow_add-x : goal.overflow_add-x
overflow_add-x c = omega (arith, few_rows c.requires.in_grid)

pub overflow_mul-rectangle-2 : goal.overflow_mul-rectangle-2
overflow_mul-rectangle-2 c = omega (arith, few_rows c.requires.in_grid)

pub overflow_add-y : goal.overflow_add-y
overflow_add-y c = omega (arith, few_rows c.requires.in_grid)

pub copy_part-requires : goal.copy_part-requires
copy_part-requires c =
    let w = to_lay c.requires.in_grid (x_ends c.requires.in_grid (least _ _ c.min-xend.ensures)) (y_ends c.requires.in_grid (least _ _ c.min-yend.ensures)) _
    c.requires.picture_len in
    record {
      within = w.0;
      rows_in_order = w.1;
      other_len = c.requires.drawn_len;
    }

pub returns : goal.returns
returns c =
    laid_part c.requires.in_grid (x_ends c.requires.in_grid (least _ _ c.min-xend.ensures)) (y_ends c.requires.in_grid (least _ _ c.min-yend.ensures))
    c.args.drawn.now c.args.picture.now c.requires.picture_len c.requires.drawn_len c.copy_part.auto.picture c.copy_part.ensures
