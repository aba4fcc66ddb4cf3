-- The chunks in the walk's order.
use Prim.Native.Nat.{◌<◌}
use native.Mathlib.Omega.{arith}
use Rattle.solid_samples.specs.Chunks.{chunk_count}
use Rattle.solid_samples.proofs.ChunkLaws.{Few, cell_few}
use Rattle.solid_samples.proofs.ListLaws.{none_listed, all_listed}
use Rattle.solid_samples.proofs.chunks.list_chunks.Goals as goal
use Rattle.solid_samples.proofs.chunks.list_chunks.Goals.{In-loop-m, Start}

few : (s : Start) → Few s.args.parent
few s = cell_few s.requires.for_list.cell s.requires.for_list.side

more : (c : In-loop-m) → c.loop-m.m < chunk_count c.args.parent
more c = omega (arith, c.loop-m-test.true, c.loop-m.invariant.0)

pub overflow_sub-end : goal.overflow_sub-end
overflow_sub-end c = (few (goal.at.overflow_sub-end c).Start).from

pub overflow_mul-end : goal.overflow_mul-end
overflow_mul-end c = omega (arith, few (goal.at.overflow_mul-end c).Start)

pub loop-m-init : goal.loop-m-init
loop-m-init c =
    let e = c.requires.ys_len in
    (omega arith, omega arith, none_listed e.0 e.1 e.2)

pub list_chunk-n-requires : goal.list_chunk-n-requires
list_chunk-n-requires c = record {
  for_list = c.requires.for_list;
  m_bound = (more (goal.at.list_chunk-n-requires c).In-loop-m, c.loop-m.invariant.2);
}

pub loop-m-preserved : goal.loop-m-preserved
loop-m-preserved c =
    (c.loop-m.invariant.0, omega (arith, c.loop-m-test.true), c.list_chunk-n.ensures)

pub returns : goal.returns
returns c =
    let i = c.loop-m.invariant in
    all_listed (omega (arith, c.loop-m-test.false, i.0, i.1)) i.2
