-- `eight::two`: the operation was called at each lane so far.
use Rattle.std.proofs.Common.{pos}
use Rattle.roots.specs.Eight.{lane}
use Rattle.roots.proofs.LaneLoops.{Below}
use Rattle.roots.proofs.eight.two.Given as goal

abbrev pub invariant-loop-k : goal.invariant-loop-k
invariant-loop-k g l = Below (pos 0) (λ j v. goal.F-post g l.f (lane l.a j) (lane l.b j) v) l.r l.k
