-- The three sizes, one after the other.
use mathlib.Core.Path.{ap}
use mathlib.Core.Bool.{not}
use Rattle.picture.proofs.Answers.{goes_on_lem, passed_by}
use Rattle.picture.proofs.GridTests.{solid_size_lem}
use Rattle.picture.proofs.grid.sizes_ok.Goals as goal

pub returns : goal.returns
returns c =
    goes_on_lem (passed_by _ c.size_ok.ensures c.if-not-size_ok.false)
    (goes_on_lem (passed_by _ c.size_ok-2.ensures c.if-not-size_ok-2.false)
    (solid_size_lem c.args.solid c.args.grid.depth (ap not c.if-not-solid.false) c.size_ok-3.ensures))
