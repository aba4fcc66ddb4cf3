-- `isqrt::lowered` meets its contract. The number stays within 32 bits, so that its square fits, and falls with
-- each turn.
use Prim.Native.Nat.{◌<◌, ◌^◌}
use Rattle.isqrt.proofs.lowered.Given as goal

abbrev pub invariant-loop-r : goal.invariant-loop-r
invariant-loop-r l = l.r < 2 ^ 32

abbrev pub decreases-loop-r : goal.decreases-loop-r
decreases-loop-r l = l.r
