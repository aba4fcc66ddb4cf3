-- A row of bytes, put in order.
use borrow.Author.Rules.{rules}
use native.Mathlib.Omega.{arith}
use mathlib.Core.Bool.{false}
use Prim.Native.Nat.{◌*◌, ◌≤◌, ◌<◌}
use Rattle.picture.specs.Shapes.{grid_in}
use Rattle.picture.proofs.Grids.{Accepted, accepted}
use Rattle.full_drawing.proofs.ByteRows.{next_byte, bytes_put}
use Rattle.full_drawing.proofs.flat.draw_row.Goals as goal
use Rattle.full_drawing.proofs.flat.draw_row.Goals.{In-loop-c, Start}

grid-ok : (c : Start) → Accepted c.args.grid false
grid-ok c = accepted c.args.grid false c.requires.drawable.accepted

-- The byte's first pixel is one of the row's.
pixel_in : (c : In-loop-c)
    → (8 * c.loop-c.c < c.args.grid.width)
    × (c.args.grid.width ≤ 512)
pixel_in c =
    (omega (arith, c.loop-c-test.true, c.requires.row_value.0), (grid-ok (goal.at.In-loop-c c).Start).sizes.width.most)

pub row_byte-requires : goal.row_byte-requires
row_byte-requires c = record {
  drawable = c.requires.drawable;
  i_lt_width = ((pixel_in (goal.at.row_byte-requires c).In-loop-c).0, c.requires.row_value.1);
}

pub loop-c-preserved : goal.loop-c-preserved
loop-c-preserved c =
    let a = c.args in
    next_byte a.code.now (grid_in a.grid false) a.j a.from a.picture.now c.loop-c.picture
    c.loop-c.c
    c.loop-c.invariant c.row_byte.result c.row_byte.ensures (omega (arith, c.loop-c-test.true, c.requires.row_value.0))
    (search rules)

pub returns : goal.returns
returns c =
    let a = c.args in
    rw c.requires.row_value.0 (bytes_put a.code.now (grid_in a.grid false) a.j a.from a.picture.now
    c.loop-c.picture
    c.loop-c.c c.loop-c.invariant (omega (arith, c.loop-c-test.false, c.requires.row_value.0)))
