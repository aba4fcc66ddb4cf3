-- The rows of heights, put in order, and the count.
use native.Mathlib.Omega.{arith}
use native.Mathlib.Nat.{mul_comm}
use mathlib.Core.Path.{refl, ap, ◌∙◌}
use mathlib.Core.Bool.{true}
use Prim.Native.Nat.{◌+◌, ◌*◌, ◌≤◌}
use lib.ListN.{length}
use Rattle.picture.specs.Shapes.{grid_in}
use Rattle.picture.proofs.Grids.{Accepted, accepted}
use Rattle.full_drawing.proofs.Columns.{solid_layers}
use Rattle.full_drawing.proofs.Parts.{part_fits}
use Rattle.full_drawing.proofs.HeightRows.{rows_left, next_heights, solid_drawn}
use Rattle.full_drawing.proofs.solid.draw_solid.Goals as goal
use Rattle.full_drawing.proofs.solid.draw_solid.Goals.{In-loop-j, Start}

grid-ok : (c : Start) → Accepted c.args.grid true
grid-ok c = accepted c.args.grid true c.requires.drawable.accepted

-- The row lies within the picture.
row_fits : (c : In-loop-j)
    → c.loop-j.from + c.args.grid.width ≤ length c.loop-j.picture
row_fits c =
    let a = c.args in
    part_fits a.code.now (rows_left a.code.now (grid_in a.grid true)) a.grid.width a.grid.height 0
    a.picture.now c.loop-j.picture c.loop-j.j c.loop-j.from c.loop-j.invariant c.loop-j-test.true
    (omega (arith, c.requires.picture_len, mul_comm a.grid.width a.grid.height))

pub draw_row-requires : goal.draw_row-requires
draw_row-requires c = record {
  drawable = c.requires.drawable;
  j_lt_height = (c.loop-j-test.true, row_fits (goal.at.draw_row-requires c).In-loop-j);
}

pub loop-j-preserved : goal.loop-j-preserved
loop-j-preserved c =
    let r = c.draw_row in
    let a = c.args in
    next_heights a.code.now (grid_in a.grid true) a.picture.now c.loop-j.picture c.loop-j.j
    c.loop-j.from
    c.loop-j.invariant c.loop-j-test.true r.new.picture r.auto.picture r.ensures _ refl

pub full_count-requires : goal.full_count-requires
full_count-requires c =
    let s = (grid-ok (goal.at.full_count-requires c).Start).sizes in record {
      clauses_le_clause_limit = c.requires.code_len_bound;
      width_le_size_limit = (s.width.most, s.height.most, omega (arith, (s.depth refl).most));
    }

pub returns : goal.returns
returns c =
    let a = c.args in
    solid_drawn a.code.now (grid_in a.grid true) a.picture.now c.loop-j.picture c.loop-j.j
    c.loop-j.from
    c.loop-j.invariant c.full_count.result c.loop-j-test.false c.requires.picture_len
    (c.full_count.ensures
    ∙ ap (λ d. length a.code.now * (a.grid.width * (a.grid.height * d))) (solid_layers a.grid (grid-ok (goal.at.returns c).Start)))
