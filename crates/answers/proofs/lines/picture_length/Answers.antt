-- The picture's length, on any sizes of 32 bits.
use Prim.Native.Nat.{◌+◌, ◌/◌, ◌≤◌}
use native.Mathlib.Omega.{arith}
use Rattle.picture.proofs.PictureSizes.{solid_size_lem, flat_size_lem}
use Rattle.answers.proofs.LineLaws.{area}
use Rattle.answers.proofs.lines.picture_length.Goals.{After-struct_known-2-1}
use Rattle.answers.proofs.lines.picture_length.Goals as goal

sizes : (c : After-struct_known-2-1)
    → (let g = c.args.grid in (g.width ≤ 4294967295) × (g.height ≤ 4294967295))
sizes c = (omega arith, omega arith)

pub overflow_mul-result : goal.overflow_mul-result
overflow_mul-result c =
    let g = c.args.grid in
    let s = sizes c.before in omega (arith, area g.width g.height s.0 s.1)

pub returns-then-solid : goal.returns-then-solid
returns-then-solid c = solid_size_lem _ _ c.if-solid.true

pub overflow_mul-result-2 : goal.overflow_mul-result-2
overflow_mul-result-2 c =
    let g = c.args.grid in
    let s = sizes c.before in
    let w : (g.width + 7) / 8 ≤ 4294967295 = omega arith in
    omega (arith, area g.height ((g.width + 7) / 8) s.1 w)

pub returns : goal.returns
returns c = flat_size_lem _ _ c.if-solid.false
