-- Clause by clause.
use native.Mathlib.Omega.{arith}
use borrow.Author.Rules.{rules}
use Rattle.verdicts.proofs.KeptWalk.{sized, start, skip, stop, out_cast, out_below, next, done}
use Rattle.verdicts.proofs.entries.kept_clauses.Goals.{then-mark-gt0+else-not-clause_stands, else-mark-gt0}
use Rattle.verdicts.proofs.entries.kept_clauses.Goals as goal

pub loop-i-init : goal.loop-i-init
loop-i-init c =
    start c.args.tape.now c.args.entry.now _ _ _ c.requires c.new-written.ensures

pub mark_at-mark-requires : goal.mark_at-mark-requires
mark_at-mark-requires c =
    omega (arith, (sized c.requires).clauses, c.requires.long, c.loop-i-test.true)

pub fields_in-f-requires : goal.fields_in-f-requires
fields_in-f-requires c =
    omega (arith, (sized c.requires).exact, c.loop-i-test.true)

pub clause_stands-requires : goal.clause_stands-requires
clause_stands-requires c =
    (sized c.requires).slots

pub returns-then-not-clause_stands : goal.returns-then-not-clause_stands
returns-then-not-clause_stands c =
    stop _ _ _ _ _ _ _ _ c.loop-i.invariant c.loop-i-test.true _ c.mark_at-mark.ensures _
    c.fields_in-f.ensures c.if-mark-gt0.true _ c.clause_stands.ensures
    c.if-not-clause_stands.true

pub overflow_cast-f : goal.overflow_cast-f
overflow_cast-f c =
    out_cast _ _ _ _ _ _ _ _ c.loop-i.invariant c.loop-i-test.true _ c.mark_at-mark.ensures _
    c.fields_in-f.ensures c.if-mark-gt0.true _ c.clause_stands.ensures
    c.if-not-clause_stands.false (sized c.requires).slots (search rules)

pub insert-requires : goal.insert-requires
insert-requires c =
    out_below _ _ _ _ _ _ _ _ c.loop-i.invariant c.loop-i-test.true _ c.mark_at-mark.ensures _
    c.fields_in-f.ensures c.if-mark-gt0.true _ c.clause_stands.ensures
    c.if-not-clause_stands.false (sized c.requires).slots (search rules)

pub loop-i-preserved : goal.loop-i-preserved
loop-i-preserved c =
    elim c.if-mark-gt0.branch [
      | then-mark-gt0+else-not-clause_stands w ↦
          rw (w.written-is, w.some-is)
          (next _ _ _ _ _ _ _ _ c.loop-i.invariant c.loop-i-test.true _ c.mark_at-mark.ensures _
          w.fields_in-f.ensures w.if-mark-gt0.true _ w.clause_stands.ensures
          w.if-not-clause_stands.false (sized c.requires).slots (search rules) _
          w.insert.ensures)
      | else-mark-gt0 w ↦
          rw (w.written-is, w.some-is)
          (skip _ _ _ _ _ _ _ _ c.loop-i.invariant c.loop-i-test.true _ c.mark_at-mark.ensures w.if-mark-gt0.false)
    ]

pub returns : goal.returns
returns c = done _ _ _ _ _ _ _ _ c.loop-i.invariant c.loop-i-test.false
