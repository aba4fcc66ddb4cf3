-- Hidden, or at the next place.
use borrow.Author.Rules.{rules}
use mathlib.Core.Bool.{true}
use Prim.Native.Nat.{◌<◌}
use native.Mathlib.Omega.{arith}
use mathlib.Core.Path.{◌∙◌}
use mir.Syntax.{w32}
use Prim.Native.Nat.{◌-◌}
use Rattle.lanes.specs.Lanes.{lane}
use mir.Facts.{to_z-of_z}
use Rattle.walk.proofs.CellLaws.{small}
use Rattle.solid_samples.proofs.ChunkLaws.{cell_few}
use Rattle.solid_samples.proofs.ListLaws.{hidden_listed, placed_listed, chunk_lanes}
use Rattle.solid_samples.proofs.chunks.list_chunk.Goals as goal
use Rattle.solid_samples.proofs.chunks.list_chunk.Goals.{After-chunk_hidden}

few : (c : After-chunk_hidden) → c.args.m < 8
few c =
    let p = c.requires in
    omega (arith, p.m_bound.0, cell_few p.for_list.cell p.for_list.side)

pub chunk_y-y-requires : goal.chunk_y-y-requires
chunk_y-y-requires c =
    let p = c.requires.for_list in
    let s = small true _ p.ready.fault in
    omega (arith, p.cell.ys)

pub returns-then-chunk_hidden : goal.returns-then-chunk_hidden
returns-then-chunk_hidden c =
    hidden_listed c.requires.m_bound.1 (few (goal.at.returns-then-chunk_hidden c).After-chunk_hidden) c.chunk_y-y.ensures c.chunk_z-z.ensures
    (c.chunk_hidden.ensures c.if-chunk_hidden.true)

pub returns : goal.returns
returns c =
    let p = c.requires in
    let f = cell_few p.for_list.cell p.for_list.side in
    let ey = c.chunk_y-y.ensures in
    let ez = c.chunk_z-z.ensures in
    let word = to_z-of_z {w = w32} {z = lane c.args.layers.now (c.chunk_z-z.result - c.args.parent.z)} (search rules) in
    placed_listed p.m_bound.1 (few (goal.at.returns c).After-chunk_hidden) _ _ ey ez
    (chunk_lanes _ _ _ _ _ _ _ _ p.for_list.rows p.for_list.layers (omega (arith, ey)) (omega (arith, ey))
    (omega (arith, ez, f)) (omega (arith, ez, p.for_list.cell.zs)) (omega (arith, ez, f))
    c.pair-lower.ensures (λ k h. c.splat-layer.ensures.at k h ∙ word))
