-- Demand 3: every accepted tape's tile drawing is its full drawing, its short tapes have its values, and the count of a
-- 64-tile is bounded.
use Rattle.rules.specs.Tapes.{Tape}
use Rattle.rules.specs.Drawings.{Tiles, Demand3}
use Rattle.rules.proofs.Order.{in_box_lem, holds_within}
use Rattle.rules.proofs.Runs as Runs
use Rattle.rules.proofs.Runs.{Good, accepted_good}
use Rattle.rules.proofs.Short as Short
use Rattle.rules.proofs.Nested as Nested
use Rattle.rules.proofs.Bound as Bound
use Rattle.rules.proofs.Walk as Walk

pub tiles : (t : Tape) → Good t → Tiles t
tiles t good =
    record {
      same_picture = λ g isSolid e k. Walk.same_picture t good g isSolid e k;
      same_value = λ bs s h. Short.same_value t good bs s h;
      same_value_in_walk = λ g isSolid e f rs p i j k n h. Nested.same_value_in_walk t good g isSolid e f rs p i j k n
          h;
      in_range = λ b s h k. holds_within (Runs.in_range t good b s (in_box_lem b s h k));
      part_flat = λ g r s e k l. Bound.part_flat t g r s e l;
      part_solid = λ g r s e k l. Bound.part_solid t g r s e l;
    }

pub demand_3 : Demand3
demand_3 s e = tiles _ (accepted_good s e)
