-- A position's two numbers.
use mathlib.Core.Path.{sym, ap₂, ◌∙◌}
use native.Mathlib.Omega.{arith}
use mir.Facts.{to_z-of_z}
use Rattle.swept_rules.specs.Swept.{offset}
use Rattle.swept_rules.proofs.Paths.{half, position_at_lem}
use mir.Syntax.{w32}
use borrow.Author.Rules.{rules}
use lib.ListN.{get_or}
use lib.IntN.{pos}
use Prim.Native.Nat.{◌*◌}
use Prim.Native.Nat.{◌+◌}
use Rattle.swept_path.proofs.path.position.Goals as goal

pub overflow_mul-at : goal.overflow_mul-at
overflow_mul-at c = omega (arith, c.requires, half c.args.path.now)

pub offset_bounds-path-at : goal.offset_bounds-path-at
offset_bounds-path-at c = omega (arith, c.requires, half c.args.path.now)

pub bounds-path-at : goal.bounds-path-at
bounds-path-at c = omega (arith, c.requires, half c.args.path.now)

pub overflow_add-result : goal.overflow_add-result
overflow_add-result c = omega (arith, c.requires, half c.args.path.now)

pub offset_bounds-path-at-2 : goal.offset_bounds-path-at-2
offset_bounds-path-at-2 c = omega (arith, c.requires, half c.args.path.now)

pub bounds-path-at-2 : goal.bounds-path-at-2
bounds-path-at-2 c = omega (arith, c.requires, half c.args.path.now)

pub returns : goal.returns
returns c =
    ap₂ offset (to_z-of_z {w = w32} {z = get_or c.args.path.now (2 * c.args.k) (pos 0)} (search rules)) (to_z-of_z {w = w32} {z = get_or c.args.path.now (2 * c.args.k + 1) (pos 0)} (search rules))
    ∙ sym (position_at_lem c.args.path.now c.args.k c.requires)
