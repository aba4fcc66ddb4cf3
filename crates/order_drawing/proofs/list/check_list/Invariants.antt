-- A number is flagged once it is seen: below the number of tiles, and not flagged yet.
use mathlib.Core.Path.{◌≡◌}
use Prim.Native.Nat.{◌≤◌}
use lib.ListN.{length}
use Rattle.order_rules.proofs.OrderLoops.{Flags}
use Rattle.order_drawing.proofs.list.check_list.Given as goal

abbrev pub invariant-loop-number : goal.invariant-loop-number
invariant-loop-number l = Flags l.count l.order l.seen l.number-index × (l.number-index ≤ length l.order) × (length l.order ≡ l.count) × (length l.seen ≡ 512)
