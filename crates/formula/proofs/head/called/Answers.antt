-- A word, then its bracket.
use Rattle.std.proofs.lemmas.Result.{err_from_is_err_and}
use Rattle.formula.proofs.Names.{no_open, one_named, two_named}
use Rattle.formula.proofs.head.called.Goals as goal

pub returns-in_err-expect : goal.returns-in_err-expect
returns-in_err-expect c =
    let r = c.from_residual-in_err-expect in
    let p = err_from_is_err_and r.result r.ensures.1 in
    rw (p.1, p.2) (no_open _ _ _ _ c.in_ok-named.ensures c.skip-at.ensures _ c.in_err-expect.ensures)

pub returns-in-One : goal.returns-in-One
returns-in-One c =
    one_named _ _ _ _ c.in_ok-named.ensures c.skip-at.ensures _ c.in-One.is c.in_ok-expect.ensures.here

pub returns-in-Two : goal.returns-in-Two
returns-in-Two c =
    two_named _ _ _ _ c.in_ok-named.ensures c.skip-at.ensures _ c.in-Two.is c.in_ok-expect.ensures.here
