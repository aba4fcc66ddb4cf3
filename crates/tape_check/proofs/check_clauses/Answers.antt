-- `check_clauses` meets its contract: the walk over the clauses from the i-th on.
use mathlib.Core.Path.{refl}
use Rattle.std.proofs.lemmas.Result.{err_from_is_err_and}
use borrow.Author.Rules.{rules}
use Rattle.tape_check.proofs.ClauseWalk.{found, out_cast, out_below, next, done, refused_at, passed_on}
use Rattle.tape_check.proofs.check_clauses.Goals as goal

pub returns-in_err-map_err : goal.returns-in_err-map_err
returns-in_err-map_err g c =
    let t =
    refused_at c.check_clause.result _ _ _ c.loop-i.i-counter (λ f d p. search rules) c.in_err-map_err.was
    c.map_err.ensures.cases in
    let p = err_from_is_err_and c.from_residual.result c.from_residual.ensures.1 in
    rw (p.1, p.2)
    (found _ _ _ _ _ _ c.loop-i.invariant _ c.check_clause.ensures c.loop-i-test.true c.clause_at-fields.ensures t.2 _ t.0
    t.1)

pub overflow_cast-fields : goal.overflow_cast-fields
overflow_cast-fields g c =
    out_cast _ _ _ _ _ _ c.loop-i.invariant _ c.check_clause.ensures c.requires.limited.slots
    c.struct_told-1.given.1.0.1 (passed_on _ c.in_ok-map_err.ensures.variant)

pub insert-requires : goal.insert-requires
insert-requires g c =
    out_below _ _ _ _ _ _ c.loop-i.invariant _ c.check_clause.ensures c.requires.limited.slots
    c.struct_told-1.given.1.0.1 (passed_on _ c.in_ok-map_err.ensures.variant)

pub loop-i-preserved : goal.loop-i-preserved
loop-i-preserved g c =
    next _ _ _ _ _ _ c.loop-i.invariant _ c.check_clause.ensures c.requires.limited.slots
    c.struct_told-1.given.1.0.1 (passed_on _ c.in_ok-map_err.ensures.variant) c.loop-i-test.true
    c.clause_at-fields.ensures _ c.insert.ensures

pub returns : goal.returns
returns g c = done _ _ _ _ _ c.args.counts c.loop-i-test.false refl refl c.loop-i.invariant
