-- The rows of bytes, put in order, and the count.
use native.Mathlib.Omega.{arith}
use mathlib.Core.Path.{ap}
use mathlib.Core.Bool.{false}
use Prim.Native.Nat.{◌+◌, ◌≤◌}
use lib.ListN.{length}
use Rattle.rules.specs.Pictures.{stride}
use Rattle.picture.specs.Shapes.{grid_in}
use Rattle.picture.proofs.Grids.{Accepted, accepted}
use Rattle.full_drawing.proofs.Parts.{part_fits}
use Rattle.full_drawing.proofs.ByteRows.{packed_left, next_bytes, flat_drawn}
use Rattle.full_drawing.proofs.flat.draw_flat.Goals as goal
use Rattle.full_drawing.proofs.flat.draw_flat.Goals.{In-loop-j, Start}

grid-ok : (c : Start) → Accepted c.args.grid false
grid-ok c = accepted c.args.grid false c.requires.drawable.accepted

pub stride-row-requires : goal.stride-row-requires
stride-row-requires c = (grid-ok (goal.at.stride-row-requires c).Start).sizes.width.most

-- The row lies within the picture.
row_fits : (c : In-loop-j)
    → c.loop-j.from + c.stride-row.result ≤ length c.loop-j.picture
row_fits c =
    let a = c.args in
    rw c.stride-row.ensures
    (part_fits a.code.now (packed_left a.code.now (grid_in a.grid false)) (stride a.grid.width)
    a.grid.height 0 a.picture.now c.loop-j.picture c.loop-j.j c.loop-j.from c.loop-j.invariant
    c.loop-j-test.true
    (omega (arith, c.requires.picture_len)))

pub draw_row-requires : goal.draw_row-requires
draw_row-requires c = record {
  drawable = c.requires.drawable;
  row_value = (c.stride-row.ensures, c.loop-j-test.true, row_fits (goal.at.draw_row-requires c).In-loop-j);
}

pub loop-j-preserved : goal.loop-j-preserved
loop-j-preserved c =
    let r = c.draw_row in
    let a = c.args in
    let e = c.stride-row.ensures in
    next_bytes a.code.now (grid_in a.grid false) a.picture.now c.loop-j.picture c.loop-j.j
    c.loop-j.from
    c.loop-j.invariant c.loop-j-test.true r.new.picture r.auto.picture (rw e at r.ensures) _
    (ap (λ s. c.loop-j.from + s) e)

pub full_count-requires : goal.full_count-requires
full_count-requires c =
    let s = (grid-ok (goal.at.full_count-requires c).Start).sizes in record {
      clauses_le_clause_limit = c.requires.code_len_bound;
      width_le_size_limit = (s.width.most, omega (arith, s.width.most, s.height.most), omega arith);
    }

pub returns : goal.returns
returns c =
    let a = c.args in
    flat_drawn a.code.now (grid_in a.grid false) a.picture.now c.loop-j.picture c.loop-j.j
    c.loop-j.from
    c.loop-j.invariant c.full_count.result c.loop-j-test.false c.requires.picture_len c.full_count.ensures
