-- Both ends of a range at once.
use lib.Signed.{mag}
use Prim.Native.Nat.{◌<◌, ◌^◌}
use mir.Syntax.{w32}
use mir.Val.{SFits}
use Rattle.fixed.specs.declared.span.Span.{Span}

-- What a span's type says of its ends, and where the ends stand in what is told of a span.
pub record Fit (s : Span) : Type 0 where
  pub low : SFits w32 s.low
  pub high : SFits w32 s.high

pub fit : {A B : Type 0} {s : Span} → (A × (mag s.low < 2 ^ 31)) × ((B × (mag s.high < 2 ^ 31)) × Unit {0})
    → Fit s
fit g = record { low = record { sfits = g.0.1 }; high = record { sfits = g.1.0.1 } }
