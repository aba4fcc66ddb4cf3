-- The rows passed are written, and nothing else.
use Rattle.std.proofs.Common.{◌≡◌, ◌+◌, ◌*◌, ◌≤◌, ap, arith, length}
use Rattle.rules.specs.Pictures.{stride, clean_rows}
use Rattle.netpbm.proofs.Written.{nothing, renamed}
use Rattle.netpbm.proofs.FileRows.{row_fits, row_next, row_more, length_row}
use Rattle.netpbm.proofs.file.put_rows.Goals.{In-loop-y}
use Rattle.netpbm.proofs.file.put_rows.Goals as goal

-- The row of a turn is within the picture.
fits : (c : In-loop-y) → c.loop-y.y * stride c.args.width + stride c.args.width ≤ length c.args.picture.now
fits c = omega (arith, c.requires, row_fits c.loop-y.y c.args.height (stride c.args.width) c.loop-y-test.true)

pub loop-y-init : goal.loop-y-init
unfolding clean_rows
loop-y-init c = record { place = omega arith; written = nothing _ _ }

pub overflow_mul-start : goal.overflow_mul-start
overflow_mul-start c = omega (arith, fits c)

pub overflow_add-start : goal.overflow_add-start
overflow_add-start c = omega (arith, fits (goal.at.overflow_add-start c).In-loop-y)

pub put_row-next-requires : goal.put_row-next-requires
put_row-next-requires c =
    let f = fits (goal.at.put_row-next-requires c).In-loop-y in
    let size = length_row c.loop-y.y c.args.width c.args.picture.now f in
    record {
      le_width = c.requires.le_width;
      width_bound = c.requires.width_bound;
      row_len = size;
      row_in_bounds = omega (arith, c.requires, c.loop-y.invariant.place, size, f);
    }

pub loop-y-preserved : goal.loop-y-preserved
loop-y-preserved c =
    let s = c.args in
    let y = c.loop-y.y in
    record {
      place = row_next y s.width s.picture.now s.at (fits (goal.at.loop-y-preserved c).In-loop-y) c.loop-y.invariant.place
          c.put_row-next.ensures;
      written = row_more y s.width s.picture.now c.loop-y.invariant.written c.put_row-next.ensures;
    }

pub returns : goal.returns
returns c =
    let s = c.args in
    let past : c.loop-y.y ≡ s.height = omega arith in
    renamed (ap (λ k. clean_rows k s.width s.picture.now) past) c.loop-y.invariant.written
