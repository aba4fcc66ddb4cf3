-- Letter by letter.
use Rattle.std.proofs.lemmas.Result.{err_from_is_err_and}
use Rattle.formula.proofs.Names.{spelt_on, spelt_broken, spelt_all}
use Rattle.formula.proofs.head.spell.Goals as goal

pub returns-in_err-end : goal.returns-in_err-end
returns-in_err-end c =
    let p = err_from_is_err_and c.from_residual.result c.from_residual.ensures.1 in
    rw (p.1, p.2)
    (c.loop-letter.invariant _
    (spelt_broken _ _ _ _ _ _ c.loop-letter-test.true c.in_err-end.ensures))

pub loop-letter-preserved : goal.loop-letter-preserved
loop-letter-preserved c = λ r h.
    c.loop-letter.invariant r (spelt_on _ _ _ _ _ _ _ c.loop-letter-test.true c.in_ok-end.ensures h)

pub returns : goal.returns
returns c = c.loop-letter.invariant _ (spelt_all _ _ _ _ _ c.loop-letter-test.false)
