-- `isqrt::raised` meets its contract. The square stays at most n, so that the number stays below 2^24; it rises
-- with each turn.
use Prim.Native.Nat.{◌*◌, ◌-◌, ◌^◌, ◌≤◌}
use Rattle.isqrt.proofs.raised.Given as goal

abbrev pub invariant-loop-r : goal.invariant-loop-r
invariant-loop-r l = l.r * l.r ≤ l.n

abbrev pub decreases-loop-r : goal.decreases-loop-r
decreases-loop-r l = 2 ^ 24 - l.r
