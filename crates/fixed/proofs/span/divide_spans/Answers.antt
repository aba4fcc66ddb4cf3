-- `span::divide_spans`: all values where the divisor holds 0, else the range of the four quotients of ends.
use Rattle.std.proofs.Common.{rules}
use mathlib.Core.Path.{sym, ◌∙◌}
use Rattle.rules.specs.Values.{quotient_range}
use Rattle.fixed.proofs.span.divide_spans.Goals as goal

pub returns-then-holds_zero : goal.returns-then-holds_zero
unfolding quotient_range
returns-then-holds_zero c = rw (sym c.holds_zero.ensures ∙ c.if-holds_zero.true) (search rules)

pub returns-then-b : goal.returns-then-b
unfolding quotient_range
returns-then-b c = rw (sym c.holds_zero.ensures ∙ c.if-holds_zero.false) (search rules)

pub returns : goal.returns
unfolding quotient_range
returns c = rw (sym c.holds_zero.ensures ∙ c.if-holds_zero.false) (search rules)
