-- Both differences are values, so nothing is clamped.
use mir.Syntax.{w32}
use mir.Facts.{to_z-of_z}
use Rattle.rules.specs.Values.{difference}
use Rattle.fixed.proofs.Words.{back_two}
use Rattle.swept_path.proofs.PathLaws.{sample_moved}
use borrow.Author.Rules.{rules}
use Rattle.swept_path.proofs.moved.moved_sample.Goals as goal

pub returns : goal.returns
returns c =
    let x = c.subtract in
    let y = c.subtract-2 in
    sample_moved _
    (back_two w32 difference x.result x.type_inv x.ensures (to_z-of_z {w = w32} {z = c.args.s.x} (search rules))
    (to_z-of_z {w = w32} {z = c.args.o.x} (search rules)))
    (back_two w32 difference y.result y.type_inv y.ensures (to_z-of_z {w = w32} {z = c.args.s.y} (search rules))
    (to_z-of_z {w = w32} {z = c.args.o.y} (search rules)))
    (to_z-of_z {w = w32} {z = c.args.s.z} (search rules))
    c.requires
