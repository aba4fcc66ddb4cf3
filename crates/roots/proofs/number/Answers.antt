-- `roots::number`: what is written is 2^-17.
use borrow.Author.Rules.{rules}
use mathlib.Core.Path.{◌≡◌, ap, ◌∙◌}
use native.Mathlib.Omega.{arith}
use mir.Syntax.{w32}
use mir.Val.{to_z, of_z}
use mir.Facts.{to_z-of_z}
use Rattle.rules.specs.Values.{root_of}
use Rattle.roots.proofs.Literals.{tiny}
use Rattle.roots.proofs.number.Goals.{Start}
use Rattle.roots.proofs.number.Goals as goal

same : (c : Start) → to_z w32 (of_z w32 c.args.a) ≡ c.args.a
same c = to_z-of_z {w = w32} {z = c.args.a} (search rules)

pub returns : goal.returns
returns c =
    let p = c.positive_part in
    record {
      part = p.result;
      bound = omega (arith, p.ensures.0);
      root = p.ensures.1 ∙ ap root_of (same c.before.before);
      is = rw tiny;
    }
