-- The chunks one after the other, in the walk's order.
use mathlib.Core.Bool.{true}
use Prim.Native.Nat.{◌<◌}
use native.Mathlib.Omega.{arith}
use Rattle.walk.proofs.CellLaws.{small}
use Rattle.walk.proofs.LookLaws.{sound_length}
use Rattle.solid_samples.specs.Chunks.{chunk_count}
use Rattle.solid_samples.proofs.SampleLaws.{samples_again}
use Rattle.solid_samples.proofs.ChunkLaws.{chunks_begin, chunks_again, chunks_sum, chunks_done}
use Rattle.solid_samples.proofs.ChunkLaws.{chunks_few, chunk_y_in, chunk_z_in, placed_later}
use Rattle.solid_samples.proofs.settle.settle_chunks.Goals as goal
use Rattle.solid_samples.proofs.settle.settle_chunks.Goals.{In-loop-m}

-- A turn has a chunk.
more : (c : In-loop-m) → c.loop-m.m < chunk_count c.args.parent
more c = omega (arith, c.loop-m-test.true, c.loop-m.invariant.0)

pub overflow_sub-end : goal.overflow_sub-end
overflow_sub-end c = (chunks_few c.requires.all).from

pub overflow_mul-end : goal.overflow_mul-end
overflow_mul-end c = omega (arith, chunks_few c.requires.all)

pub loop-m-init : goal.loop-m-init
loop-m-init c =
    let f = chunks_few c.requires.all in
    (omega arith, chunks_begin _ f.from f.to)

pub chunk_y-y-requires : goal.chunk_y-y-requires
chunk_y-y-requires c =
    let p = c.requires.all in
    let s = small true _ p.ready.fault in
    omega (arith, p.cell.ys)

pub chunk_z-z-requires : goal.chunk_z-z-requires
chunk_z-z-requires c = more (goal.at.chunk_z-z-requires c).In-loop-m

pub overflow_cast-place : goal.overflow_cast-place
overflow_cast-place c =
    omega (arith, more (goal.at.overflow_cast-place c).In-loop-m, chunks_few c.requires.all)

pub offset_bounds-places-m : goal.offset_bounds-places-m
offset_bounds-places-m c =
    omega (arith, more (goal.at.offset_bounds-places-m c).In-loop-m, chunks_few c.requires.all)

pub bounds-places-m : goal.bounds-places-m
bounds-places-m c =
    omega (arith, more (goal.at.bounds-places-m c).In-loop-m, chunks_few c.requires.all)

pub settle_place-count-requires : goal.settle_place-count-requires
settle_place-count-requires c =
    let p = c.requires in
    let i = c.loop-m.invariant.1 in
    let m = c.loop-m.m in
    rw (c.chunk_y-y.ensures, c.chunk_z-z.ensures)
    (record {
      all = samples_again p.all i.higher.size;
      y_in = chunk_y_in p.all m;
      z_in = chunk_z_in p.all m;
      room = p.room;
      placed = placed_later p.all (chunk_z_in p.all m) i.higher (p.placed m (more (goal.at.settle_place-count-requires c).In-loop-m));
    })

pub overflow_add-count : goal.overflow_add-count
overflow_add-count c =
    let p = c.requires in
    let sum = chunks_sum c.loop-m.invariant.1 (more (goal.at.overflow_add-count c).In-loop-m) (chunks_few p.all).count c.settle_place-count.ensures.bound in
    omega (arith, sound_length p.all.sound, sum)

pub loop-m-preserved : goal.loop-m-preserved
loop-m-preserved c =
    let i = c.loop-m.invariant in
    let p = c.requires in (
      i.0,
      chunks_again i.1 p.all.sound (more (goal.at.loop-m-preserved c).In-loop-m) c.chunk_y-y.ensures
          c.chunk_z-z.ensures c.settle_place-count.ensures,
    )

pub shape_of-picture : goal.shape_of-picture
shape_of-picture c = c.loop-m.invariant.1.higher.size

pub returns : goal.returns
returns c =
    let i = c.loop-m.invariant in
    chunks_done i.1 (omega (arith, c.loop-m-test.false, i.0)) (chunks_few c.requires.all).count
