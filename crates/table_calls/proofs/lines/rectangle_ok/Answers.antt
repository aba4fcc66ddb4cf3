-- The columns, then the rows.
use mathlib.Core.Path.{sym, ◌∙◌}
use Rattle.rectangle.specs.Rectangles.{rectangle_in}
use Rattle.picture.proofs.Answers.{stops, goes_on_lem, passed_by, refused_by}
use Rattle.promises.specs.Tables.{table_grid}
use Rattle.table_calls.proofs.TableChecks.{by_axes}
use Rattle.table_calls.proofs.lines.rectangle_ok.Goals as goal

pub returns-then-span_ok : goal.returns-then-span_ok
returns-then-span_ok c =
    goes_on_lem (passed_by _ c.span_ok.ensures c.if-span_ok.true) c.span_ok-then-span_ok.ensures
    ∙ sym (by_axes (table_grid c.args.grid) (rectangle_in c.args.rectangle))

pub returns-else-span_ok : goal.returns-else-span_ok
returns-else-span_ok c =
    c.if-span_ok.false ∙ stops _ (refused_by _ c.span_ok.ensures c.if-span_ok.false)
    ∙ sym (by_axes (table_grid c.args.grid) (rectangle_in c.args.rectangle))
