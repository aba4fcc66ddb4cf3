-- `isqrt::root_by`: what settling leaves is the root, and it is below 2^24.
use mathlib.Core.Path.{◌∙◌}
use mir.Syntax.{w32}
use mir.Facts.{to_z_pos}
use native.Mathlib.Omega.{arith}
use Rattle.isqrt.proofs.Squares.{root_below, settled_is_root}
use Rattle.isqrt.proofs.root_by.Goals as goal

pub returns : goal.returns
returns c =
    let m = c.args.m in
    let r = c.settled.result in
    to_z_pos w32 (omega (arith, root_below r))
    ∙ settled_is_root m r c.requires.0 c.settled.ensures.0 c.settled.ensures.1
