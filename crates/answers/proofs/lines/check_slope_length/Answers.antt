-- A third of the length is held to the picture's.
use mathlib.Core.Path.{◌∙◌}
use mathlib.Core.Bool.{true}
use Rattle.picture.specs.Shapes.{grid_in}
use Rattle.answers.proofs.LineLaws.{slopes_odd, slopes_even}
use Rattle.answers.proofs.lines.check_slope_length.Goals as goal

pub returns-then-length-eq0 : goal.returns-then-length-eq0
returns-then-length-eq0 c = c.check_length.ensures ∙ slopes_even _ _ c.if-length-eq0.true

pub returns : goal.returns
returns c = let a = c.args in slopes_odd (grid_in a.grid true) a.length c.if-length-eq0.false
