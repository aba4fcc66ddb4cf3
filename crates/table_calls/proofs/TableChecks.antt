-- A rectangle's test, as it comes out.
use mathlib.Core.Path.{◌≡◌, refl}
use mathlib.Core.Bool.{Bool, true, false, ◌&&◌}
use Prim.Native.Nat.{ℕ, ◌+◌}
use lib.Dec.{leb}
use Rattle.rules.specs.Drawings as D
use Rattle.order_rules.specs.Orders.{across}
use Rattle.table_rules.specs.Tables.{Rectangle, rectangle_ok}

-- A rectangle's tiles along an axis of m samples, n of them from a on.
abbrev pub span_ok : ℕ → ℕ → ℕ → Bool
span_ok a n m = leb 1 n && leb (a + n) (across m)

-- Both axes in turn.
both : (a b c d : Bool) → (a && (b && (c && d))) ≡ ((a && c) && (b && d))
both true true c d = refl
both true false true d = refl
both true false false d = refl
both false b c d = refl

pub by_axes : (g : D.Grid) (q : Rectangle) → rectangle_ok g q
    ≡ (span_ok q.column q.columns g.width && span_ok q.row q.rows g.height)
unfolding rectangle_ok
by_axes g q = both (leb 1 q.columns) (leb 1 q.rows) _ _
