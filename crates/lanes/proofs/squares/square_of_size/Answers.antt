-- `squares::square_of_size`: by the last size whose square is a value.
use mathlib.Core.Path.{ap, ◌∙◌}
use native.Mathlib.Omega.{arith}
use lib.IntN.{pos, nat_abs}
use mir.Syntax.{w32}
use mir.Facts.{to_z-of_z}
use Rattle.rules.proofs.Words.{back}
use Rattle.lanes.specs.Squares.{low_square}
use Rattle.lanes.proofs.SquareLaws.{past_last, up_to_last, by_size, size_past, size_up_to, positive}
use Rattle.lanes.proofs.squares.square_of_size.Goals as goal

pub returns-then-n-gt11863283 : goal.returns-then-n-gt11863283
returns-then-n-gt11863283 c =
    let h = size_past _ c.args.n (rw (to_z-of_z c.ranges.n) at c.if-n-gt11863283.true) in
    ap pos (past_last (nat_abs c.args.n) (omega (arith, h))) ∙ by_size c.args.n

pub returns-else-n-gt11863283 : goal.returns-else-n-gt11863283
returns-else-n-gt11863283 c =
    let l = c.low_square-low in
    let s = c.before.before in
    let h = size_up_to _ s.args.n s.requires (rw (to_z-of_z s.ranges.n) at c.if-n-gt11863283.false) in
    back w32 l.result l.type_inv (l.ensures ∙ ap (λ z. pos (low_square (nat_abs z))) (to_z-of_z s.ranges.n))
    ∙ ap pos (up_to_last (nat_abs s.args.n) h) ∙ by_size s.args.n
