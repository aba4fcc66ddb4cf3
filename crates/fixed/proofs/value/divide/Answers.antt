-- `value::divide`: with both signs changed where the divisor is below 0, a division by the divisor's size.
use mathlib.Core.Path.{ap, ◌∙◌}
use lib.Signed.{shr_z}
use mir.Syntax.{w32, w64}
use mir.Facts.{to_z-of_z}
use Rattle.rules.specs.Values.{clamped, end_of}
use Rattle.fixed.proofs.Words.{back, back_one, back_two}
use Rattle.fixed.proofs.Division.{scaled, divisor_size, above_none, of_fraction}
use Rattle.fixed.proofs.Division.{by_none}
use Rattle.fixed.proofs.value.divide.Goals as goal

pub returns-then-b-eq0 : goal.returns-then-b-eq0
returns-then-b-eq0 c =
    let r = c.end_of in
    back_one w32 end_of r.result r.type_inv r.ensures (to_z-of_z c.ranges.a)
    ∙ by_none c.args.a c.args.b c.ranges.b c.if-b-eq0.true

pub returns : goal.returns
returns c =
    let n = c.turned in
    let d = c.turned-2 in
    let q = c.floor_over in
    let r = c.clamp in
    back w32 r.result r.type_inv (r.ensures
    ∙ ap clamped (back_two w64 shr_z q.result q.type_inv q.ensures
    (scaled c.ranges.b c.ranges.a n.result n.type_inv n.ensures)
    (divisor_size c.ranges.b d.result d.type_inv d.ensures))
    ∙ of_fraction c.args.a c.args.b (above_none c.args.b c.if-b-eq0.false))
