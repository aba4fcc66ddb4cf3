-- The chunks in the walk's order.
use mathlib.Core.Path.{◌≡◌}
use Prim.Native.Nat.{◌-◌, ◌≤◌}
use Rattle.solid_samples.specs.Chunks.{chunk_count, Listed}
use Rattle.solid_samples.proofs.chunks.list_chunks.Given as goal

abbrev pub invariant-loop-m : goal.invariant-loop-m
invariant-loop-m l = (l.end ≡ chunk_count l.parent) × (l.m ≤ l.end) × Listed l.grid l.parent l.picture l.ys l.zs l.places l.m l.n
