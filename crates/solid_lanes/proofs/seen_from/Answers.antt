-- Child m, and those behind it that are not hidden, as far as there are lanes.
use native.Mathlib.Omega.{arith}
use Prim.Native.Nat.{◌<◌}
use Rattle.lanes.specs.Lanes.{lane_count}
use Rattle.solid_lanes.proofs.ListLaws.{Listing, first_listed, one_more, by_name}
use Rattle.solid_lanes.proofs.seen_from.Goals as goal
use Rattle.solid_lanes.proofs.seen_from.Goals.{Joined-not-is_hidden, Else-n-eq8, then-not-is_hidden, else-not-is_hidden}

-- There is a lane left.
open-lane : (c : Else-n-eq8) → c.loop-i.n < lane_count
open-lane c = omega (arith, c.if-n-eq8.false, c.loop-i.invariant.few)

-- Whether it was hidden or not.
listed : (c : Joined-not-is_hidden)
    → Listing c.args.m c.args.end c.if-not-is_hidden.r c.if-not-is_hidden.n
listed c =
    let u = c.loop-i.invariant in
    elim c.if-not-is_hidden.branch [
      | then-not-is_hidden w ↦ by_name w.r-is w.n-is
          (one_more _ _ (open-lane (goal.at.Joined-not-is_hidden c).Else-n-eq8) c.loop-i-test.true u)
      | else-not-is_hidden w ↦ by_name w.r-is w.n-is u
    ]

pub is_hidden-requires : goal.is_hidden-requires
is_hidden-requires c =
    let p = c.requires in
    record { ready = p.ready; cell = c.child.ensures.cell _ _ p.children.cells }
