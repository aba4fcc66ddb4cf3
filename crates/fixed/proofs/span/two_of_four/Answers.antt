-- `span::two_of_four`: the divisor of each end by its sign; they are the least and the greatest of the four quotients.
use mathlib.Core.Path.{◌≡◌, ◌∙◌}
use mathlib.Core.Bool.{true, false}
use borrow.Author.Rules.{rules}
use mir.Syntax.{w32}
use mir.Val.{to_z, SFits}
use mir.Facts.{to_z-of_z}
use Rattle.rules.specs.Values.{pick, is_neg, range, quotient}
use Rattle.fixed.proofs.Words.{both, back_two}
use Rattle.fixed.proofs.Division.{by_sign_lem}
use Rattle.fixed.proofs.Quotients.{two_quotients}
use Rattle.fixed.proofs.span.two_of_four.Goals.{then-a-lt0, else-a-lt0, then-a-lt0-2, else-a-lt0-2}
use Rattle.fixed.proofs.span.two_of_four.Goals as goal

-- The divisors are found among both ends.
pub returns : goal.returns
returns c =
    let a = c.args.a in
    let b = c.args.b in
    let low : SFits w32 a.low = search rules in
    let high : SFits w32 a.high = search rules in
    let under-is : to_z w32 c.if-a-lt0.under-bits ≡ pick (is_neg a.low) b.low b.high =
    elim c.if-a-lt0.branch [
      | then-a-lt0 w ↦ by_sign_lem b.low b.high true low w.if-a-lt0.true (w.under-is ∙ to_z-of_z {w = w32} (search rules))
      | else-a-lt0 w ↦ by_sign_lem b.low b.high false low w.if-a-lt0.false (w.under-is ∙ to_z-of_z {w = w32} (search rules))
    ]
    in
    let over-is : to_z w32 c.if-a-lt0-2.over-bits ≡ pick (is_neg a.high) b.high b.low =
    elim c.if-a-lt0-2.branch [
      | then-a-lt0-2 w ↦ by_sign_lem b.high b.low true high w.if-a-lt0-2.true (w.over-is ∙ to_z-of_z {w = w32} (search rules))
      | else-a-lt0-2 w ↦ by_sign_lem b.high b.low false high w.if-a-lt0-2.false (w.over-is ∙ to_z-of_z {w = w32} (search rules))
    ]
    in
    let l = c.divide in
    let h = c.divide-2 in
    both range
    (back_two w32 quotient l.result l.type_inv l.ensures (to_z-of_z low) under-is)
    (back_two w32 quotient h.result h.type_inv h.ensures (to_z-of_z high) over-is)
    ∙ two_quotients a.low a.high b.low b.high c.requires.first c.requires.second c.requires.above
