-- The chunks one after the other, in the walk's order.
use mathlib.Core.Path.{◌≡◌}
use Prim.Native.Nat.{◌-◌}
use Rattle.solid_samples.specs.Chunks.{chunk_count}
use Rattle.solid_samples.proofs.ChunkLaws.{AtChunk}
use Rattle.solid_samples.proofs.settle.settle_chunks.Given as goal

abbrev pub invariant-loop-m : goal.invariant-loop-m
invariant-loop-m l = (l.end ≡ chunk_count l.parent) × AtChunk l.code l.grid l.parent l.initial.picture l.picture l.count l.m
