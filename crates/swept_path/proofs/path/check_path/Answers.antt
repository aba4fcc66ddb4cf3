-- Line 25 by its test.
use mathlib.Core.Path.{sym, ◌∙◌}
use Rattle.swept_path.proofs.PathLaws.{path_told}
use Rattle.swept_path.proofs.path.check_path.Goals as goal

pub returns-then-not-path_ok : goal.returns-then-not-path_ok
returns-then-not-path_ok c = path_told c.args.grid _ c.requires (sym c.path_ok.ensures ∙ c.if-not-path_ok.true)

pub returns : goal.returns
returns c = path_told c.args.grid _ c.requires (sym c.path_ok.ensures ∙ c.if-not-path_ok.false)
