-- No row, or the rows of the chunk that the region has.
use mathlib.Core.Path.{sym, ◌∙◌}
use mathlib.Core.Bool.{true}
use Prim.Native.Nat.{◌+◌, ◌*◌, ◌<◌}
use native.Mathlib.Omega.{arith}
use Rattle.rules.proofs.Regions.{lesser_most, lesser_both}
use Rattle.picture.proofs.HeightRows.{region_fits}
use Rattle.walk.proofs.CellLaws.{small}
use Rattle.solid_samples.proofs.CellRows.{index_most}
use Rattle.solid_samples.proofs.ListLaws.{no_rows, high_chunk, first_fits}
use Rattle.solid_samples.proofs.chunks.chunk_hidden.Goals as goal
use Rattle.solid_samples.proofs.chunks.chunk_hidden.Goals.{Else-parent-y}

-- The index of the first pixel.
index : (c : Else-parent-y)
    → let a = c.args in a.y * a.grid.width + a.parent.x < 262144
index c =
    let p = c.requires in
    let s = small true _ p.ready.fault in
    let x = p.cell.xs in
    let y = p.cell.ys in
    index_most _ _ _ c.args.grid.height (omega (arith, c.if-parent-y.false)) (omega arith) s.width s.height

pub returns-then-parent-y : goal.returns-then-parent-y
returns-then-parent-y c = λ e. no_rows _ _ _ _ _ c.if-parent-y.true

pub overflow_add-y : goal.overflow_add-y
overflow_add-y c =
    let p = c.requires in
    let s = small true _ p.ready.fault in
    omega (arith, c.if-parent-y.false, p.cell.ys)

pub overflow_sub-rows : goal.overflow_sub-rows
overflow_sub-rows c =
    let a = c.args in
    omega (arith, c.lesser.ensures, lesser_both a.y a.parent.yend (a.y + 2) c.if-parent-y.false (omega arith))

pub overflow_mul-from : goal.overflow_mul-from
overflow_mul-from c = omega (arith, index (goal.at.overflow_mul-from c).Else-parent-y)

pub overflow_add-from : goal.overflow_add-from
overflow_add-from c = omega (arith, index (goal.at.overflow_add-from c).Else-parent-y)

pub overflow_cast-from : goal.overflow_cast-from
overflow_cast-from c = omega (arith, index (goal.at.overflow_cast-from c).Else-parent-y)

pub overflow_cast-top : goal.overflow_cast-top
overflow_cast-top c =
    let p = c.requires in
    let s = small true _ p.ready.fault in
    omega (arith, p.z_in, p.cell.zs)

-- All its pixels lie in the picture, and so does the first; which of them are looked at shows in what is answered.
pub rows_high-requires : goal.rows_high-requires
rows_high-requires c =
    let a = c.args in
    let p = c.requires in
    let s = small true _ p.ready.fault in
    let x = p.cell.xs in
    let y = p.cell.ys in
    let m = lesser_most a.parent.yend (a.y + 2) in
    let o = lesser_both a.y a.parent.yend (a.y + 2) c.if-parent-y.false (omega arith) in
    let all = region_fits a.grid.width a.grid.height a.parent.x a.y a.parent.xend c.lesser.result s.width (omega arith) (omega arith)
    (omega (arith, c.lesser.ensures, o)) (omega (arith, c.lesser.ensures, m)) in
    let one = first_fits a.grid.width a.grid.height a.parent.x a.y s.width (omega (arith, x)) (omega (arith, c.if-parent-y.false, y)) in
    rw p.ready.size (search (all, one))

pub returns : goal.returns
returns c =
    λ h. high_chunk _ _ _ _ _ _ c.if-parent-y.false c.lesser.ensures (sym c.rows_high.ensures ∙ h)
