-- `squares::square_of`: by its size.
use mathlib.Core.Path.{ap, ◌∙◌}
use lib.IntN.{pos, nat_abs}
use mir.Syntax.{w32}
use mir.Facts.{to_z-of_z}
use Rattle.rules.proofs.Words.{back}
use Rattle.lanes.specs.Squares.{clipped_square}
use Rattle.lanes.proofs.SquareLaws.{by_size}
use Rattle.lanes.proofs.squares.square_of.Goals as goal

pub returns : goal.returns
returns c =
    back w32 c.clip.result c.clip.type_inv (c.clip.ensures ∙ ap (λ n. pos (clipped_square n)) c.size_of-n.ensures)
    ∙ ap (λ z. pos (clipped_square (nat_abs z))) (to_z-of_z c.ranges.a) ∙ by_size c.args.a
