-- No digit, a whole number, a point with no digit after it, decimals.
use Rattle.std.proofs.Common.{◌+◌, sym, ◌∙◌, arith}
use Rattle.formula_rules.specs.FormulaReader.{point}
use Rattle.formula_rules.specs.FormulaCalls.{ModeRead}
use Rattle.formula.proofs.Bytes.{is_other, is_here}
use Rattle.formula.proofs.Numbers.{none_there, whole_at, point_at, no_decimals, decimal_at, ran_on, ran_below}
use Rattle.formula.proofs.digits.number.Goals.{After-digits-part}
use Rattle.formula.proofs.digits.number.Goals as goal

pub returns-then-ne : goal.returns-then-ne
returns-then-ne c =
    whole_at _ _ _ c.digits-whole.ensures c.if-whole-eq0.false
    (is_other _ _ 46 _ c.peek.ensures (sym c.ne.ensures ∙ c.if-ne.true))

-- The point stands there, and the reader has read it.
after_point : (c : After-digits-part)
    → let d = c.digits-whole.result in ModeRead c.args.text.now c.args.from (d.at + 1) (point d.value)
after_point c =
    point_at _ _ _ c.digits-whole.ensures c.if-whole-eq0.false
    (is_here _ _ 46 _ c.peek.ensures (sym c.ne.ensures ∙ c.if-ne.false))

pub returns-then-part-eq0 : goal.returns-then-part-eq0
returns-then-part-eq0 c =
    no_decimals _ _ _ _ (after_point (goal.at.returns-then-part-eq0 c).After-digits-part)
    (none_there _ _ 4 9999 _ (omega arith) (omega arith) c.digits-part.ensures c.if-part-eq0.true)

pub nonzero_div-result : goal.nonzero_div-result
nonzero_div-result c = omega (arith, ran_below c.digits-part.ensures.ran, c.pow.ensures)

pub returns : goal.returns
returns c =
    decimal_at _ _ _ _ _ _ (after_point (goal.at.returns c).After-digits-part)
    (omega (arith, ran_on c.digits-whole.ensures.ran)) c.digits-whole.ensures.small
    c.digits-part.ensures c.if-part-eq0.false c.pow.ensures
