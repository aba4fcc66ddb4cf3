-- The reader stops inside the sum, more follows the sum, or the sum is the text.
use Rattle.std.proofs.Common.{arith}
use Rattle.std.proofs.lemmas.Result.{err_from_is_err_and}
use Rattle.formula_rules.proofs.FormulaItems.{text_stops}
use Rattle.formula.proofs.TextLaws.{text_over, text_more}
use Rattle.formula.proofs.read_text.whole.Goals as goal

pub returns-in_err-end : goal.returns-in_err-end
returns-in_err-end c =
    let p = err_from_is_err_and c.from_residual.result c.from_residual.ensures.1 in
    rw (p.1, p.2) (text_stops _ _ c.in_err-end.ensures)

pub returns-then-end-text : goal.returns-then-end-text
returns-then-end-text c = text_more _ _ _ _ c.in_ok-end.ensures c.if-end-text.true

pub returns : goal.returns
returns c = text_over _ _ _ _ c.in_ok-end.ensures c.requires (omega (arith, c.if-end-text.false))
