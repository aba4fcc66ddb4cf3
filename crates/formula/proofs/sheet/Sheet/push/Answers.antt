-- The clause is stored while there is room, and counted.
use Rattle.std.proofs.Common.{refl, ap, ◌∙◌, ◌*◌}
use Rattle.std.proofs.lemmas.List.Edits.{sets}
use borrow.Author.Tests.{lt-ltb, le-ltb}
use Rattle.formula.proofs.Sheets.{pushed}
use Rattle.formula.proofs.sheet.Sheet.push.Goals.{then-self-lt-FIRST_CLAUSES, else-self-lt-FIRST_CLAUSES}
use Rattle.formula.proofs.sheet.Sheet.push.Goals as goal

pub returns : goal.returns
returns c =
    let s = c.args.self.now in
    elim c.if-self-lt-FIRST_CLAUSES.branch [
      | then-self-lt-FIRST_CLAUSES w ↦
          pushed s _ _ _ _ _
          (rw (lt-ltb _ _ w.if-self-lt-FIRST_CLAUSES.true) (w.put_numbers.ensures ∙ ap (sets s.list (5 * s.count)) w.fields.ensures))
          w.self-is c.max-self.ensures
      | else-self-lt-FIRST_CLAUSES w ↦
          pushed s _ _ _ _ _ (rw (le-ltb _ _ w.if-self-lt-FIRST_CLAUSES.false) refl) w.self-is c.max-self.ensures
    ]
