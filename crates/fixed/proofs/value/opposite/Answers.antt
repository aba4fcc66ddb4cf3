-- `value::opposite`: what a value leaves of 0.
use mathlib.Core.Path.{refl, ◌∙◌}
use mir.Syntax.{w32}
use mir.Facts.{to_z-of_z}
use Rattle.rules.specs.Values.{difference}
use Rattle.rules.proofs.Arithmetic.{zero_less}
use Rattle.fixed.proofs.Words.{back_two}
use Rattle.fixed.proofs.value.opposite.Goals as goal

pub returns : goal.returns
returns c h =
    let r = c.subtract in
    back_two w32 difference r.result r.type_inv r.ensures refl (to_z-of_z c.ranges.a) ∙ zero_less c.args.a h
