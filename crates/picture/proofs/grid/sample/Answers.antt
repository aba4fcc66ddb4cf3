-- A sample that is a value, in 32 bits.
use mathlib.Core.Path.{◌≡◌, ap, ◌∙◌}
use mir.Syntax.{w32, w64}
use mir.Facts.{to_z-of_z, sfits_widen}
use Rattle.rules.specs.Drawings.{at}
use Rattle.rules.proofs.Words.{read, back}
use Rattle.picture.proofs.GridWords.{at_read, value_fits}
use Rattle.picture.proofs.grid.sample.Goals.{After-along}
use Rattle.picture.proofs.grid.sample.Goals as goal

pub along-requires : goal.along-requires
along-requires c =
    let a = c.args in
    let f = c.ranges in
    rw (at_read a.origin a.step a.i f.origin f.step) (sfits_widen tt (value_fits _ c.requires))

-- What the wide sample is, as it is read.
sampled : (c : After-along)
    → read w64 c.along.result ≡ at c.args.origin c.args.step c.args.i
sampled c =
    let a = c.args in
    let f = c.ranges in
    back w64 c.along.result c.along.type_inv
    (c.along.ensures ∙ at_read a.origin a.step a.i f.origin f.step)

pub overflow_cast-result : goal.overflow_cast-result
overflow_cast-result c = rw (sampled c) (value_fits _ c.requires)

pub returns : goal.returns
returns c = ap (read w32) (sampled c) ∙ to_z-of_z (value_fits _ c.requires)
