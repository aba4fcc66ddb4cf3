-- By the place's number, and whether it is empty.
use mathlib.Core.Path.{sym, ◌∙◌}
use native.Mathlib.Omega.{arith}
use Rattle.plate_checks.proofs.CheckLaws.{taken_past, taken_no, taken_yes}
use Rattle.plate_checks.proofs.check_taken.Goals as goal

pub returns-then-at-ge-PLACES : goal.returns-then-at-ge-PLACES
returns-then-at-ge-PLACES c = taken_past _ _ (omega (arith, c.if-at-ge-PLACES.true))

pub returns-then-is_empty : goal.returns-then-is_empty
returns-then-is_empty c =
    taken_no _ _ (omega (arith, c.if-at-ge-PLACES.false)) (sym c.if-is_empty.true ∙ c.is_empty.ensures)

pub returns : goal.returns
returns c =
    taken_yes _ _ (omega (arith, c.if-at-ge-PLACES.false)) (sym c.if-is_empty.false ∙ c.is_empty.ensures)
