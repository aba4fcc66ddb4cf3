-- A chunk that is hidden, or one that was run.
use Rattle.solid_samples.proofs.ChunkLaws.{hidden_chunk}
use Rattle.solid_samples.proofs.settle.settle_place.Goals as goal

pub returns-then-place-ge8 : goal.returns-then-place-ge8
returns-then-place-ge8 c =
    let p = c.requires in
    hidden_chunk p.all.ready p.all.cell p.z_in (p.placed.hidden c.if-place-ge8.true)

pub settle_chunk-requires : goal.settle_chunk-requires
settle_chunk-requires c =
    let p = c.requires in
    record { all = p.all; y_in = p.y_in; z_in = p.z_in; values = p.placed.known c.if-place-ge8.false }
